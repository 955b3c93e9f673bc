use mathlib.Core.Path.{sym, ◌∙◌}
use native.Mathlib.Omega.{arith}
use Rattle.scan.proofs.Walk.{sought}
use Rattle.scan.proofs.Pictures.{next-none, next_last, next-ended, end_code_lem}
use Rattle.scan.proofs.next_picture.Goals as goal

pub returns-in_err-picture : goal.returns-in_err-picture
returns-in_err-picture c = c.from_residual.ensures ∙ next-none _ _ (sym c.first_picture.ensures ∙ c.in_err-picture.was)

pub overflow_add-at : goal.overflow_add-at
overflow_add-at c = omega (arith, (sought _ _ _ _ (sym c.first_picture.ensures ∙ c.in_ok-picture.was)).room)

pub returns-in_default : goal.returns-in_default
returns-in_default c =
    next_last _ _ _ (sym c.first_picture.ensures ∙ c.in_ok-picture.was) (sym c.after_slices.ensures ∙ c.in_default.is)

pub picture_end-requires : goal.picture_end-requires
picture_end-requires c =
    end_code_lem _ _ _ (sym c.first_picture.ensures ∙ c.in_ok-picture.was) _ (sym c.after_slices.ensures ∙ c.in-Some.is)

pub returns : goal.returns
returns c =
    next-ended _ _ _ (sym c.first_picture.ensures ∙ c.in_ok-picture.was) _ (sym c.after_slices.ensures ∙ c.in-Some.is) _ c.picture_end.ensures
