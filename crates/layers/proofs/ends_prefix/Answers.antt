use mathlib.Core.Path.{◌∙◌}
use Rattle.bits.proofs.Starting.{same_pointwise}
use Rattle.scan.proofs.Prefix.{ends-last_three}
use Rattle.layers.proofs.ends_prefix.Goals as goal

pub returns : goal.returns
returns c = c.ends_with.ensures.value ∙ (same_pointwise _ _ ∙ ends-last_three _)
