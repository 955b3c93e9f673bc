use Rattle.vbv.proofs.Fitting.{in_range}
use mathlib.Core.Path.{sym, ◌∙◌}
use native.Mathlib.Omega.{arith}
use Rattle.vbv.proofs.VbvParams.fit.Goals as goal

pub overflow_mul-result : goal.overflow_mul-result
overflow_mul-result c = let r = in_range _ (sym c.in_range.ensures ∙ c.if-in_range.true) in omega arith

pub overflow_mul-result-then-in_range : goal.overflow_mul-result-then-in_range
overflow_mul-result-then-in_range c = let r = in_range _ (sym c.in_range.ensures ∙ c.if-in_range.true) in omega arith
