use mathlib.Core.Path.{ap, ◌∙◌}
use Rattle.std.specs.Prelude.{Err}
use Rattle.std.proofs.lemmas.Result.{err_from_is_err_and}
use Rattle.rate_control.proofs.Ways.{end_no, told_no}
use Rattle.rate_control.proofs.measure.stuffed.Goals as goal

pub returns-in-Err-Model : goal.returns-in-Err-Model
returns-in-Err-Model c =
    rw (c.from.ensures, c.in-Err-Model.error-is) (end_no _ _ _ _ _ c.remove_picture.ensures _ (c.in-Err-Model.is ∙ ap Err c.in-Err-Model.field-0-is))

pub returns-in_err-vbv_delay : goal.returns-in_err-vbv_delay
returns-in_err-vbv_delay c =
    let p = err_from_is_err_and c.from_residual.result c.from_residual.ensures.1 in
    rw (p.1, p.2) (told_no _ _ _ _ _ c.remove_picture.ensures _ _ _ c.in-Ok.is c.delay_for_picture.ensures c.in_err-vbv_delay.was)
