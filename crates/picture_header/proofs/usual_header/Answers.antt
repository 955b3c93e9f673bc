use native.Mathlib.Omega.{arith}
use Rattle.picture_header.specs.Steps.{usual_header}
use Rattle.picture_header.proofs.Straight.{first_range}
use Rattle.picture_header.proofs.usual_header.Goals as goal

pub overflow_sub-flag : goal.overflow_sub-flag
overflow_sub-flag c = omega (arith, first_range _ _ c.extra_bit-first.ensures)

pub overflow_shr-flag : goal.overflow_shr-flag
overflow_shr-flag c = omega (arith, first_range _ _ c.extra_bit-first.ensures)

pub returns : goal.returns
unfolding usual_header
returns c = rw (← c.type_in-code.ensures, ← c.extra_bit-first.ensures)
