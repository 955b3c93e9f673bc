use native.Mathlib.Omega.{arith}
use Rattle.rate_control.proofs.Creation.{pictures-low, share_low, group_bits-low, weight_low}
use Rattle.rate_control.specs.Targets.{target, targets, group_pictures, group_bits, group_weight}
use borrow.Author.Rules.{rules}
use Rattle.rate_control.proofs.create.type_target_bits.Goals as goal

pub overflow_mul-pictures : goal.overflow_mul-pictures
unfolding group_pictures
overflow_mul-pictures c = omega (arith, pictures-low)

pub overflow_add-pictures-2 : goal.overflow_add-pictures-2
unfolding group_pictures
overflow_add-pictures-2 c = omega (arith, pictures-low)

pub overflow_mul-gop_bits : goal.overflow_mul-gop_bits
overflow_mul-gop_bits c = omega (arith, share_low)

pub overflow_mul-gop_bits-2 : goal.overflow_mul-gop_bits-2
unfolding group_bits group_pictures
overflow_mul-gop_bits-2 c = omega (arith, group_bits-low)

pub overflow_mul-weight-2 : goal.overflow_mul-weight-2
unfolding group_weight
overflow_mul-weight-2 c = omega (arith, weight_low)

pub overflow_mul-weight-3 : goal.overflow_mul-weight-3
unfolding group_weight
overflow_mul-weight-3 c = omega (arith, weight_low)

pub overflow_add-weight-2 : goal.overflow_add-weight-2
unfolding group_weight
overflow_add-weight-2 c = omega (arith, weight_low)

pub overflow_mul-result : goal.overflow_mul-result
unfolding group_bits group_pictures
overflow_mul-result c = omega (arith, group_bits-low)

pub overflow_mul-result-2 : goal.overflow_mul-result-2
unfolding group_bits group_pictures
overflow_mul-result-2 c = omega (arith, group_bits-low)

pub overflow_mul-result-3 : goal.overflow_mul-result-3
unfolding group_bits group_pictures
overflow_mul-result-3 c = omega (arith, group_bits-low)

pub returns : goal.returns
unfolding targets target group_pictures group_bits group_weight
returns c = search rules
