use mathlib.Core.Path.{ap, ◌∙◌}
use Rattle.rate_control.specs.Create.{create}
use Rattle.layout.specs.Config.{config_in}
use Rattle.layout.proofs.Narrowing.{narrowed_creates}
use Rattle.layout.proofs.config.create_from.Goals as goal

pub returns : goal.returns
returns c = c.create.ensures ∙ (ap create c.config_at.ensures ∙ narrowed_creates (config_in _))
