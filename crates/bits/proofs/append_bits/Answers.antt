use borrow.Author.Rules.{rules}
use mathlib.Core.Path.{refl}
use native.Mathlib.Omega.{arith}
use Rattle.bits.proofs.Storing.{refuses_wide, refuses_past, writes, front_small, whole_small, stored}
use Rattle.bits.proofs.append_bits.Goals as goal

pub returns-then-n-gt32 : goal.returns-then-n-gt32
returns-then-n-gt32 c =
    let both = refuses_wide _ _ _ _ c.if-n-gt32.true in
    record { value = both.0; out_after = both.1 }

pub returns-then-out-first : goal.returns-then-out-first
returns-then-out-first c =
    let both = refuses_past _ _ _ _ c.if-n-gt32.false (omega arith) in
    record { value = both.0; out_after = both.1 }

pub overflow_mul-acc : goal.overflow_mul-acc
overflow_mul-acc c = omega (arith, front_small _ _ _ 0 (omega arith) c.kept.ensures c.pow2.ensures refl refl (omega arith))

pub overflow_add-acc : goal.overflow_add-acc
overflow_add-acc c = omega (arith, front_small _ _ _ _ (omega arith) c.kept.ensures c.pow2.ensures c.from.ensures c.pow2-2.ensures (omega arith))

pub overflow_mul-acc-2 : goal.overflow_mul-acc-2
overflow_mul-acc-2 c = omega (arith, whole_small _ _ _ _ (omega arith) c.kept.ensures c.pow2.ensures c.from.ensures c.pow2-2.ensures c.pow2-3.ensures (omega arith))

pub returns : goal.returns
returns c =
    let x = rw c.to_be_bytes.ensures at (c.copy_from_slice.ensures.after) in
    let both = writes _ _ _ _ (omega arith) (omega arith)
    (stored _ _ _ _ (omega arith) c.kept.ensures c.pow2.ensures c.from.ensures c.pow2-2.ensures c.pow2-3.ensures
    (omega arith) (search rules) (omega arith) x) in
    record { value = both.0; out_after = both.1 }
