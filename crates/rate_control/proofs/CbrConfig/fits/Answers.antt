use Rattle.rate_control.proofs.Creation.{config_told}
use borrow.Author.Rules.{rules}
use Rattle.rate_control.proofs.CbrConfig.fits.Goals as goal

pub returns : goal.returns
returns c = search (rules, config_told)
