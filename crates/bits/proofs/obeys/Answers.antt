use Rattle.bits.specs.Fields.{obeys}
use Rattle.bits.proofs.obeys.Goals as goal

pub returns : goal.returns
unfolding obeys
returns c = rw (c.from-v.ensures, c.from.ensures, c.top.ensures)
