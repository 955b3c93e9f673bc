use Rattle.rate_control.proofs.Storage.{zeros_set}
use Rattle.rate_control.proofs.output.put_zeros.Goals as goal

pub returns : goal.returns
returns c = zeros_set _ _ _ _ c.requires (c.fill.ensures.after (λ y h. h))
