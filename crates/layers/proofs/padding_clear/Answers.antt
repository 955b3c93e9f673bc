use mathlib.Core.Path.{◌∙◌}
use native.Mathlib.Omega.{arith}
use Rattle.layers.proofs.Ways.{extra-room, padding_told}
use Rattle.layers.proofs.padding_clear.Goals as goal

pub overflow_add-last : goal.overflow_add-last
overflow_add-last c = omega (arith, extra-room _ _ c.requires)

pub slice_bounds-read_bits-start : goal.slice_bounds-read_bits-start
slice_bounds-read_bits-start c = omega (arith, extra-room _ _ c.requires)

pub slice_bounds-read_bits-count : goal.slice_bounds-read_bits-count
slice_bounds-read_bits-count c = omega (arith, extra-room _ _ c.requires)

pub overflow_add-last-2 : goal.overflow_add-last-2
overflow_add-last-2 c = omega (arith, extra-room _ _ c.requires)

pub returns : goal.returns
returns c = c.eq.ensures ∙ padding_told _ _ c.requires _ c.read_bits.ensures
