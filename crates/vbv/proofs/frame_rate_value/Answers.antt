use mathlib.Core.Path.{refl, sym}
use Prim.Native.Nat.{◌+◌}
use native.Mathlib.Omega.{arith}
use native.Mathlib.Nat.{mul-le-mul}
use Rattle.bits.proofs.Flags.{held, failed}
use Rattle.vbv.specs.Answers.{frame_rate}
use Rattle.vbv.proofs.Cases.{code_bounds}
use Rattle.vbv.proofs.Ways.{handed_on}
use Rattle.vbv.proofs.frame_rate_value.Goals as goal

pub overflow_mul-result : goal.overflow_mul-result
overflow_mul-result c =
    let r = code_bounds _ _ _ (sym c.in_ok-frn.ensures) in
    omega (arith, c.from.ensures, mul-le-mul {n₁ = c.in_ok-frn.frn} {m₁ = c.from.result + 1} {n₂ = 60000} {m₂ = 256} r.0 (omega arith))

pub overflow_mul-result-then-n-d : goal.overflow_mul-result-then-n-d
overflow_mul-result-then-n-d c =
    let r = code_bounds _ _ _ (sym c.in_ok-frn.ensures) in
    omega (arith, mul-le-mul {n₁ = c.in_ok-frn.frd} {m₁ = c.from-then-n-d.result + 1} {n₂ = 1001} {m₂ = 256} r.1 (omega arith))

pub returns-in_ok-frn : goal.returns-in_ok-frn
unfolding frame_rate
returns-in_ok-frn c = rw (c.from.ensures, c.from-then-n-d.ensures) (held _ _ _ c.if-n-d.true (rw (← c.in_ok-frn.ensures)))

pub returns-in_err-frn : goal.returns-in_err-frn
unfolding frame_rate
returns-in_err-frn c = rw (handed_on _ c.from_residual.ensures.1) (held _ _ _ c.if-n-d.true (rw (← c.in_err-frn.ensures)))

pub returns-else-n-d : goal.returns-else-n-d
unfolding frame_rate
returns-else-n-d c = failed _ _ _ c.if-n-d.false refl
