use Rattle.vbv.proofs.Fitting.{counts_are}
use Rattle.vbv.proofs.VbvCbrModel.counts_fit.Goals as goal

pub returns : goal.returns
returns c = rw c.max.ensures (counts_are _)
