use Rattle.layout.proofs.Reading.{writer_told}
use borrow.Author.Rules.{rules}
use Rattle.layout.proofs.state.writer_at.Goals as goal

pub returns : goal.returns
returns c = search (rules, writer_told)
