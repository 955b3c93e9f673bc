use mathlib.Core.Path.{◌≡◌, sym, ◌∙◌}
use native.Mathlib.Omega.{arith}
use Rattle.std.proofs.Common.{rules}
use Rattle.scan.specs.Codes.{codes_at, found}
use Rattle.scan.specs.Pictures.{is_slice, skip}
use Rattle.scan.proofs.Walk.{sought}
use Rattle.layers.specs.Layer.{is_extension}
use Rattle.layers.proofs.Ways.{slices-none, slices-some}
use Rattle.layers.proofs.slices_after.Goals as goal
use Rattle.layers.proofs.slices_after.Goals.{After-first_code_not}

past : (c : After-first_code_not) → c.first_code_not.result ≡ found (skip is_extension (codes_at c.args.layer.now c.args.from))
past c = c.first_code_not.ensures is_extension (λ code answer q met. search rules)

pub overflow_add-first : goal.overflow_add-first
overflow_add-first c = omega (arith, (sought _ _ _ _ (sym (past (goal.at.overflow_add-first c).After-first_code_not) ∙ c.in-Some.is)).room)

pub returns-in_default : goal.returns-in_default
returns-in_default c = slices-none _ _ (sym (past (goal.at.returns-in_default c).After-first_code_not) ∙ c.in_default.is)

pub returns : goal.returns
returns c =
    rw (c.is_slice.ensures, c.all_codes.ensures is_slice (λ code answer q met. search rules))
    (slices-some _ _ _ (sym (past (goal.at.returns c).After-first_code_not) ∙ c.in-Some.is))
