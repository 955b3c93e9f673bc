use Rattle.layout.proofs.Reading.{model_told}
use borrow.Author.Rules.{rules}
use Rattle.layout.proofs.state.model_at.Goals as goal

pub returns : goal.returns
returns c = search (rules, model_told)
