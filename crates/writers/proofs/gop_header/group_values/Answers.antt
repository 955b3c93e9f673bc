use borrow.Author.Rules.{rules}
use Rattle.headers.proofs.GroupHeader.{group_values_are}
use Rattle.writers.proofs.gop_header.group_values.Goals as goal

pub returns : goal.returns
returns c = rw (group_values_are _) (search rules)
