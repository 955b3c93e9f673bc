use Rattle.rate_control.proofs.States.{writer-tested}
use borrow.Author.Rules.{rules}
use Rattle.rate_control.proofs.CbrWriter.fits.Goals as goal

pub returns : goal.returns
returns c = search (rules, writer-tested)
