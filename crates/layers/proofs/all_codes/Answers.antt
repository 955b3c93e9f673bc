use mathlib.Core.Path.{sym, ap, ◌∙◌}
use Rattle.std.proofs.Common.{is_some}
use Rattle.scan.proofs.Search.{every_told}
use Rattle.layers.proofs.all_codes.Goals as goal

pub returns : goal.returns
returns g c p d = every_told p _ _ (ap is_some (sym (c.first_code_not.ensures p d)) ∙ c.is_none.ensures)
