use mathlib.Core.Path.{sym, ◌∙◌}
use native.Mathlib.Omega.{arith}
use Rattle.scan.proofs.Pictures.{first_inside}
use Rattle.pictures.proofs.sequence.declared_params.Goals as goal

pub slice_bounds-declared_by-start : goal.slice_bounds-declared_by-start
slice_bounds-declared_by-start c = omega (arith, first_inside _ _ (sym c.first_sequence.ensures ∙ c.in-Some.is))

pub slice_bounds-declared_by-count : goal.slice_bounds-declared_by-count
slice_bounds-declared_by-count c = omega (arith, first_inside _ _ (sym c.first_sequence.ensures ∙ c.in-Some.is))
