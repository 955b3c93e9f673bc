use Rattle.std.proofs.lemmas.Result.{err_from_is_err_and}
use Rattle.rate_control.proofs.Ways.{least_no, far_stuffing, far_end, near-end}
use Rattle.rate_control.proofs.measure.ended.Goals as goal

pub returns-in_err-least : goal.returns-in_err-least
returns-in_err-least c = let p = err_from_is_err_and c.from_residual.result c.from_residual.ensures.1 in rw (p.1, p.2) (least_no _ _ _ _ _ _ c.min_end_bits.ensures _ c.in_err-least.was)

pub returns-then-zeros : goal.returns-then-zeros
returns-then-zeros c = far_stuffing _ _ _ _ _ _ c.min_end_bits.ensures _ _ c.in_ok-least.was c.stuffing-zeros.ensures _ c.if-zeros.true c.from.ensures

pub returns-then-extent-zeros-gt-FARTHEST : goal.returns-then-extent-zeros-gt-FARTHEST
returns-then-extent-zeros-gt-FARTHEST c = far_end _ _ _ _ _ _ c.min_end_bits.ensures _ _ c.in_ok-least.was c.stuffing-zeros.ensures c.if-zeros.false _ c.if-extent-zeros-gt-FARTHEST.true c.from-then-extent-zeros-gt-FARTHEST.ensures

pub returns : goal.returns
returns c = near-end _ _ _ _ _ _ c.min_end_bits.ensures _ _ c.in_ok-least.was c.stuffing-zeros.ensures c.if-zeros.false _ c.if-extent-zeros-gt-FARTHEST.false c.removed.ensures
