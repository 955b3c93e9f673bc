use borrow.Author.Tests.{le-leb, lt-leb}
use mathlib.Core.Path.{◌≡◌, refl, ap, ◌∙◌}
use native.Mathlib.Omega.{arith}
use native.Mathlib.Nat.{lt_of_lt_of_le}
use Prim.Native.Nat.{ℕ, ◌+◌, ◌-◌, ◌*◌, ◌/◌, ◌%◌, ◌^◌, ◌≤◌, ◌<◌}
use mathlib.Core.List.{List}
use lib.Pow.{pow_mono}
use lib.ListN.{length, get_or}
use Rattle.std.proofs.lemmas.List.Edits.{get_or-between}
use Rattle.bits.specs.Bits.{num, bit_at, bits_at, pick, there}
use Rattle.bits.specs.Refusals.{value}
use Rattle.bits.specs.Answers.{read_bits}
use Rattle.bits.proofs.Laws.{num_bound, bit_bound, bytes-number, bits_middle}
use Rattle.bits.proofs.read_bits.Goals as goal

-- in a turn at most four bytes are in
small : (s : List ℕ) (acc i n : ℕ) → acc ≡ num (bit_at s) i n → n ≤ 32 → acc < 2 ^ 32
small s acc i n e h = rw e (lt_of_lt_of_le (num_bound _ _ _ (bit_bound _)) (pow_mono {j = 32} h))

pub returns-then-n-gt32 : goal.returns-then-n-gt32
unfolding read_bits pick there
returns-then-n-gt32 c = simp (lt-leb _ _ c.if-n-gt32.true)

pub returns-then-s-first : goal.returns-then-s-first
unfolding read_bits pick there
returns-then-s-first c =
    let a = c.args in
    let h : 8 * length a.s.now < a.i + a.n = omega arith in
    simp (le-leb _ _ c.if-n-gt32.false, lt-leb _ _ h)

pub loop-byte-init : goal.loop-byte-init
unfolding num
loop-byte-init c = refl

pub overflow_mul-acc : goal.overflow_mul-acc
overflow_mul-acc c = omega (arith, small _ _ _ _ c.loop-byte.invariant (omega arith))

pub overflow_add-acc : goal.overflow_add-acc
overflow_add-acc c = omega (arith, small _ _ _ _ c.loop-byte.invariant (omega arith))

pub loop-byte-preserved : goal.loop-byte-preserved
loop-byte-preserved c =
    let a = c.args in
    let k = c.loop-byte.byte-index in
    let b : get_or a.s.now (a.i / 8 + k) 0 < 256 = omega (arith, c.type_inv.s (a.i / 8 + k)) in
    let e = get_or-between a.s.now (a.i / 8) (a.i / 8 + (a.i % 8 + a.n + 7) / 8) k 0 (omega arith) in
    rw (bytes-number a.s.now (a.i / 8) k b, ← c.loop-byte.invariant, c.from.ensures, e)

-- the bits in the middle of the bytes that are in
number_is : (c : goal.After-pow2) → let a = c.args in
    c.loop-byte.acc / 2 ^ (8 * ((a.i % 8 + a.n + 7) / 8) - a.i % 8 - a.n) % c.pow2.result ≡ bits_at a.s.now a.i a.n
number_is c =
    let a = c.args in
    let k = c.loop-byte.byte-index in
    let m = (a.i % 8 + a.n + 7) / 8 in
    let t = 8 * m - a.i % 8 - a.n in
    let e : k ≡ m = omega arith in
    let d : a.i % 8 + a.n + t ≡ 8 * m = omega arith in
    let p : 8 * (a.i / 8) + a.i % 8 ≡ a.i = omega arith in
    rw (c.pow2.ensures, c.loop-byte.invariant, e)
    (bits_middle a.s.now (a.i / 8) (a.i % 8) a.n t m d ∙ ap (λ (x : ℕ). bits_at a.s.now x a.n) p)

pub returns : goal.returns
unfolding read_bits pick there
returns c =
    let a = c.args in
    let h : a.i + a.n ≤ 8 * length a.s.now = omega arith in
    simp (le-leb _ _ c.if-n-gt32.false, le-leb _ _ h) (ap value (number_is c))
