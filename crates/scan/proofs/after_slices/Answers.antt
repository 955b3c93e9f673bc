use mathlib.Core.Path.{◌≡◌, sym, ap, ◌∙◌}
use native.Mathlib.Omega.{arith}
use Rattle.std.proofs.Common.{rules}
use Rattle.scan.specs.Codes.{found, codes_at}
use Rattle.scan.specs.Pictures.{skip, not_slice, is_slice}
use Rattle.scan.proofs.Walk.{sought}
use Rattle.scan.proofs.Pictures.{no_slices-end, after-some}
use Rattle.scan.proofs.after_slices.Goals as goal
use Rattle.scan.proofs.after_slices.Goals.{After-first_code_not}

first_slice : (c : After-first_code_not) → c.first_code_not.result ≡ found (skip not_slice (codes_at c.args.s.now c.args.from))
unfolding not_slice
first_slice c = c.first_code_not.ensures not_slice (λ code answer q met. search rules)

pub returns-in_err-slice : goal.returns-in_err-slice
returns-in_err-slice c =
    c.from_residual.ensures ∙ no_slices-end _ _ (sym (first_slice (goal.at.returns-in_err-slice c).After-first_code_not) ∙ c.in_err-slice.was)

pub overflow_add-slice : goal.overflow_add-slice
overflow_add-slice c = omega (arith, (sought _ _ _ _ (sym (first_slice (goal.at.overflow_add-slice c).After-first_code_not) ∙ c.in_ok-slice.was)).room)

pub returns : goal.returns
returns c =
    c.first_code_not-2.ensures is_slice (λ code answer q met. search rules) ∙ ap found (after-some _ _ _ (sym (first_slice (goal.at.returns c).After-first_code_not) ∙ c.in_ok-slice.was))
