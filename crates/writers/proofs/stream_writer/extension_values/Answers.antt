use borrow.Author.Rules.{rules}
use Rattle.headers.proofs.StreamWriter.{extension_values_are}
use Rattle.writers.proofs.stream_writer.extension_values.Goals as goal

pub returns : goal.returns
returns c = rw (extension_values_are _ _) (search rules)
