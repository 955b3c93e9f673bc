use Rattle.vbv.specs.Model.{max_end_bits}
use Rattle.vbv.proofs.Ways.{greatest_is, answered, answer_unready}
use Rattle.vbv.proofs.VbvCbrModel.max_end_bits.Goals as goal

pub returns-in_err-ready : goal.returns-in_err-ready
unfolding max_end_bits
returns-in_err-ready c = answer_unready _ _ c.in_err-ready.ensures.told _ c.from_residual.ensures.1 _

pub returns : goal.returns
unfolding max_end_bits
returns c = rw (← greatest_is c.in_ok-ready.ensures.is_ready) (answered c.in_ok-ready.ensures.is_ready _)
