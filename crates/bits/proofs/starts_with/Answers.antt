use mathlib.Core.Path.{◌∙◌}
use Rattle.bits.proofs.Starting.{same_pointwise}
use Rattle.bits.proofs.starts_with.Goals as goal

pub returns : goal.returns
returns c = c.starts_with.ensures.value ∙ same_pointwise _ _
