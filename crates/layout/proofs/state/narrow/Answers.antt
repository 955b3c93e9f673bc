use Rattle.layout.proofs.Reading.{narrow_told}
use borrow.Author.Rules.{rules}
use Rattle.layout.proofs.state.narrow.Goals as goal

pub returns : goal.returns
returns c = search (rules, narrow_told)
