use Rattle.std.proofs.lemmas.Result.{err_from_is_err_and}
use Rattle.rate_control.proofs.Ways.{flow_no}
use Rattle.rate_control.proofs.flow.flowed.Goals as goal

pub returns-in_err-next : goal.returns-in_err-next
returns-in_err-next c = let p = err_from_is_err_and c.from_residual-in_err-next.result c.from_residual-in_err-next.ensures.1 in rw (p.1, p.2) (flow_no _ _ _ _ c.filled.ensures _ c.in_ok-begun.was _ c.remove_picture.ensures _ c.in_err-next.was)
