use Rattle.verify.proofs.Storing.{record_laid}
use borrow.Author.Rules.{rules}
use Rattle.verify.proofs.records.put_record.Goals as goal

pub returns : goal.returns
returns c = search (rules, record_laid)
