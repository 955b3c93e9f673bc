use borrow.Author.Rules.{rules}
use Rattle.headers.proofs.StreamWriter.{base_values_are}
use Rattle.writers.proofs.stream_writer.base_values.Goals as goal

pub returns : goal.returns
returns c = rw (base_values_are _) (search rules)
