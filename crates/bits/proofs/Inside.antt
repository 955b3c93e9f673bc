-- A number that stands in some bits: the bits inside it, the same with bytes more, and a table read from it at once.
-- Assumes nothing.
use mathlib.Core.Path.{◌≡◌, ap, ◌∙◌}
use mathlib.Core.List.{List, [], ◌∷◌}
use Prim.Native.Nat.{ℕ, ◌+◌, ◌-◌, ◌*◌, ◌/◌, ◌%◌, ◌^◌, ◌≤◌, ◌<◌}
use native.Mathlib.Omega.{arith}
use lib.Pow.{high, low}
use lib.ListN.{length, get_or}
use Rattle.bits.specs.Bits.{bits_at}
use Rattle.bits.specs.Refusals.{value}
use Rattle.bits.specs.Fields.{Field, read_fields, total}
use Rattle.bits.proofs.Laws.{bits_split, bits_bound}
use Rattle.bits.proofs.Patching.{byte_bits}
use Rattle.bits.proofs.Reading.{there_is, obeys_is, read_none, read_more, read_field, total-more}

-- n bits of the m from bit i on, with o of them before and t after
pub bits_inside : (s : List ℕ) (i o n t m : ℕ) → o + n + t ≡ m → bits_at s i m / 2 ^ t % 2 ^ n ≡ bits_at s (i + o) n
bits_inside s i o n t m e =
    rw (
      ← e,
      bits_split s i (o + n) t,
      high (bits_at s i (o + n)) t (bits_bound s (i + (o + n)) t),
      bits_split s i o n,
    ) (low (bits_at s i o) n (bits_bound s (i + o) n))

-- one byte more
pub bits_byte_more : (s : List ℕ) (i a n : ℕ) → i + n ≡ 8 * a → get_or s a 0 < 256 → bits_at s i (n + 8) ≡ bits_at s i n * 256 + get_or s a 0
bits_byte_more s i a n e h = bits_split s i n 8 ∙ ap (λ (x : ℕ). bits_at s i n * 256 + x) (ap (λ (x : ℕ). bits_at s x 8) e ∙ byte_bits s a h)

-- four bytes
pub bits_four : (s : List ℕ) (a : ℕ) → get_or s a 0 < 256 → get_or s (a + 1) 0 < 256 → get_or s (a + 2) 0 < 256 → get_or s (a + 3) 0 < 256
    → get_or s a 0 * 16777216 + get_or s (a + 1) 0 * 65536 + get_or s (a + 2) 0 * 256 + get_or s (a + 3) 0 ≡ bits_at s (8 * a) 32
bits_four s a w x y z =
    omega (
      arith,
      byte_bits s a w,
      bits_byte_more s (8 * a) (a + 1) 8 (omega arith) x,
      bits_byte_more s (8 * a) (a + 2) 16 (omega arith) y,
      bits_byte_more s (8 * a) (a + 3) 24 (omega arith) z,
    )

-- the fields of a table in the last k bits of a number w
abbrev pub fields_in : List Field → ℕ → ℕ → List ℕ
fields_in [] w k = []
fields_in (f ∷ fs) w k = w / 2 ^ (k - f.width) % 2 ^ f.width ∷ fields_in fs w (k - f.width)

-- and that they obey the table's rules
abbrev pub ObeyedIn : List Field → ℕ → ℕ → Type 0
ObeyedIn [] w k = 0 ≤ k
ObeyedIn (f ∷ fs) w k =
    (f.width ≤ 32) × (f.width ≤ k) × (f.low ≤ w / 2 ^ (k - f.width) % 2 ^ f.width) × (w / 2 ^ (k - f.width) % 2 ^ f.width ≤ f.high)
    × ObeyedIn fs w (k - f.width)

-- where w is the number in the m bits from bit i on, such a table is read: its fields are in the last k of them
pub read_inside : (fs : List Field) (s : List ℕ) (i m k w : ℕ) → w ≡ bits_at s i m → k ≤ m → i + m ≤ 8 * length s → ObeyedIn fs w k
    → read_fields fs s (i + (m - k)) ≡ value (fields_in fs w k)
read_inside [] s i m k w e a b o = read_none s (i + (m - k))
read_inside (f ∷ fs) s i m k w e a b o =
    let j = i + (m - k) in
    let v : w / 2 ^ (k - f.width) % 2 ^ f.width ≡ bits_at s j f.width =
    rw e (bits_inside s i (m - k) f.width (k - f.width) m (omega (arith, o.1))) in
    let n : j + f.width ≡ i + (m - (k - f.width)) = omega (arith, o.1) in
    read_more f fs s j (there_is s j f.width o.0 (omega (arith, o.1))) (obeys_is f _ (omega (arith, v, o.2)) (omega (arith, v, o.3)))
    ∙ rw (n, read_inside fs s i m (k - f.width) w e (omega arith) b o.4, v)

-- and a table that was read has these values
pub inside_read : (fs : List Field) (s : List ℕ) (i m k w : ℕ) (vs : List ℕ) → w ≡ bits_at s i m → k ≤ m → total fs ≤ k
    → read_fields fs s (i + (m - k)) ≡ value vs → vs ≡ fields_in fs w k
inside_read [] s i m k w vs e a t r = cc (read_none s (i + (m - k)))
inside_read (f ∷ fs) s i m k w vs e a t r =
    let j = i + (m - k) in
    let p = read_field f fs s j vs r in
    let l : f.width + total fs ≤ k = omega (arith, total-more f fs) in
    let v : w / 2 ^ (k - f.width) % 2 ^ f.width ≡ bits_at s j f.width =
    rw e (bits_inside s i (m - k) f.width (k - f.width) m (omega arith)) in
    let n : j + f.width ≡ i + (m - (k - f.width)) = omega arith in
    rw (p.all, v, inside_read fs s i m (k - f.width) w p.rest e (omega arith) (omega arith) (rw n at p.then))
