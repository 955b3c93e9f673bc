use Rattle.vbv.specs.Model.{occupancy_before_removal}
use Rattle.vbv.proofs.Ways.{occupancy_is, answered, answer_unready}
use Rattle.vbv.proofs.VbvCbrModel.occupancy_before_removal_bits.Goals as goal

pub returns-in_err-ready : goal.returns-in_err-ready
unfolding occupancy_before_removal
returns-in_err-ready c = answer_unready _ _ c.in_err-ready.ensures.told _ c.from_residual.ensures.1 _

pub returns : goal.returns
unfolding occupancy_before_removal
returns c = rw (c.saturating_sub.ensures, occupancy_is c.in_ok-ready.ensures.is_ready) (answered c.in_ok-ready.ensures.is_ready _)
