use mathlib.Core.Path.{◌∙◌}
use native.Mathlib.Omega.{arith}
use native.Mathlib.Nat.{mul-le-mul}
use Rattle.vbv.proofs.Params.{both_in, same_in, same_out}
use Rattle.vbv.proofs.Fitting.{frames_in_range}
use Rattle.vbv.proofs.VbvParams.same.Goals as goal

pub overflow_mul-result : goal.overflow_mul-result
overflow_mul-result c =
    let z = both_in _ _ _ _ c.in_range.ensures c.in_range-2.ensures c.if-in_range.true in
    omega (arith, mul-le-mul {n₁ = c.args.other.frn} {m₁ = c.args.self.frd} (frames_in_range _ z.1).0 (frames_in_range _ z.0).1)

pub overflow_mul-result-then-in_range : goal.overflow_mul-result-then-in_range
overflow_mul-result-then-in_range c =
    let z = both_in _ _ _ _ c.in_range.ensures c.in_range-2.ensures c.if-in_range.true in
    omega (arith, mul-le-mul {n₁ = c.args.self.frn} {m₁ = c.args.other.frd} (frames_in_range _ z.0).0 (frames_in_range _ z.1).1)

pub returns-then-in_range : goal.returns-then-in_range
returns-then-in_range c = same_in _ _ _ _ c.in_range.ensures c.in_range-2.ensures c.if-in_range.true

pub returns-else-in_range : goal.returns-else-in_range
returns-else-in_range c = c.if-in_range.false ∙ same_out _ _ _ _ c.in_range.ensures c.in_range-2.ensures c.if-in_range.false
