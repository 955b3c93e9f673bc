use Rattle.layers.proofs.Ways.{opens_test}
use Rattle.layers.proofs.opens_headers.Goals as goal

pub returns : goal.returns
returns c = rw (c.is_empty.ensures, c.prefix_at.ensures) (opens_test _)
