use mathlib.Core.Path.{◌∙◌}
use Rattle.bits.proofs.Reading.{table_count}
use Rattle.bits.proofs.field_count.Goals as goal

pub returns : goal.returns
returns c = c.min.ensures ∙ table_count 24 c.args.table.now
