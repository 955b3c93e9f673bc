use Rattle.rate_control.proofs.Lasting.{film-timing, plain-timing}
use borrow.Author.Rules.{rules}
use Rattle.rate_control.proofs.offer.timing.Goals as goal

pub returns-then-cadence : goal.returns-then-cadence
returns-then-cadence c = search (rules, film-timing)

pub returns : goal.returns
returns c = search (rules, plain-timing)
