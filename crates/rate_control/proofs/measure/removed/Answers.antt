use Rattle.std.proofs.lemmas.Result.{err_from_is_err_and}
use Rattle.rate_control.proofs.Ways.{most_no, most-early, size_no, size_yes}
use Rattle.rate_control.proofs.measure.removed.Goals as goal

pub returns-in_err-most : goal.returns-in_err-most
returns-in_err-most c = let p = err_from_is_err_and c.from_residual.result c.from_residual.ensures.1 in rw (p.1, p.2) (most_no _ _ _ _ _ _ c.max_end_bits.ensures _ c.in_err-most.was)

pub returns-then-most-extent : goal.returns-then-most-extent
returns-then-most-extent c = most-early _ _ _ _ _ _ c.max_end_bits.ensures _ c.in_ok-most.was _ c.if-most-extent.true c.from.ensures

pub returns-in_err-remove_picture : goal.returns-in_err-remove_picture
returns-in_err-remove_picture c = let p = err_from_is_err_and c.from_residual-in_err-remove_picture.result c.from_residual-in_err-remove_picture.ensures.1 in rw (p.1, p.2) (size_no _ _ _ _ _ _ c.max_end_bits.ensures _ c.in_ok-most.was c.if-most-extent.false _ c.remove_picture.ensures _ c.in_err-remove_picture.was)

pub returns : goal.returns
returns c = size_yes _ _ _ _ _ _ c.max_end_bits.ensures _ c.in_ok-most.was c.if-most-extent.false _ c.remove_picture.ensures _ _ c.in_ok-remove_picture.was c.stuffed.ensures
