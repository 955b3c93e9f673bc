use Rattle.vbv.proofs.Arith.{rate_fit, gain_fit, left_fit, sum_fit, whole_fit, next_fit}
use Rattle.vbv.proofs.Fitting.{periods-most}
use Rattle.vbv.proofs.Ways.{advanced_is}
use native.Mathlib.Omega.{arith}
use Rattle.vbv.proofs.VbvCbrModel.advanced.Goals as goal

pub overflow_mul-gain : goal.overflow_mul-gain
overflow_mul-gain c = record { fits = rate_fit _ _ (omega arith) (omega arith) }

pub overflow_mul-gain-2 : goal.overflow_mul-gain-2
overflow_mul-gain-2 c = record { fits = gain_fit _ _ _ (omega arith) (omega arith) (omega (arith, periods-most c.args.interval)) }

pub overflow_mul-sum : goal.overflow_mul-sum
overflow_mul-sum c = record { fits = left_fit _ _ (omega arith) (omega arith) }

pub overflow_add-sum : goal.overflow_add-sum
overflow_add-sum c = record { fits = sum_fit _ _ _ (omega arith) (omega arith) (omega arith) }

pub overflow_add-result : goal.overflow_add-result
overflow_add-result c = record { fits = whole_fit _ _ _ _ _ (omega arith) (omega arith) (omega arith) (omega (arith, periods-most c.args.interval)) }

pub overflow_add-result-2 : goal.overflow_add-result-2
overflow_add-result-2 c = record { fits = next_fit _ _ _ _ _ _ (omega arith) (omega arith) (omega arith) (omega arith) (omega arith) (omega arith) (omega (arith, periods-most c.args.interval)) }

pub returns : goal.returns
returns c = advanced_is _ _ _ (search) (omega arith)
