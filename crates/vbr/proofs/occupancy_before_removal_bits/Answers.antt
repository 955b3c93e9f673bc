use Rattle.vbr.proofs.Ways.{occupancy_unready, occupancy_is}
use Rattle.vbr.proofs.occupancy_before_removal_bits.Goals as goal

pub returns-in_err-ready : goal.returns-in_err-ready
returns-in_err-ready c = occupancy_unready _ _ c.in_err-ready.ensures.told _ c.from_residual.ensures.1

pub returns : goal.returns
returns c = occupancy_is c.in_ok-ready.ensures.is_ready _ (search)
