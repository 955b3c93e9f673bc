use Rattle.headers.proofs.StartCode.{zeros_test}
use Rattle.layers.proofs.Ways.{extra-room, bytes_by}
use mathlib.Core.Path.{◌∙◌}
use native.Mathlib.Omega.{arith}
use Rattle.layers.proofs.zeros_after.Goals as goal

pub overflow_add-bit : goal.overflow_add-bit
overflow_add-bit c = omega (arith, extra-room _ _ c.requires)

pub overflow_add-bit-2 : goal.overflow_add-bit-2
overflow_add-bit-2 c = omega (arith, extra-room _ _ c.requires)

pub overflow_add-n : goal.overflow_add-n
overflow_add-n c = omega (arith, extra-room _ _ c.requires)

pub returns : goal.returns
returns c = rw (bytes_by _ _ c.requires) (c.bytes_at.ensures ∙ zeros_test _)
