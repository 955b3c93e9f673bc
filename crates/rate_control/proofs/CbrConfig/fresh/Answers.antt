use Rattle.rate_control.proofs.Creation.{fresh_told}
use borrow.Author.Rules.{rules}
use Rattle.rate_control.proofs.CbrConfig.fresh.Goals as goal

pub returns : goal.returns
returns c = search (rules, fresh_told)
