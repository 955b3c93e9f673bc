use Rattle.rate_control.proofs.Ways.{first-low}
use Rattle.rate_control.specs.Offer.{first_delay}
use borrow.Author.Rules.{rules}
use Rattle.rate_control.proofs.measure.first_delay.Goals as goal

pub overflow_cast-result : goal.overflow_cast-result
unfolding first_delay
overflow_cast-result c = search (rules, first-low)

pub returns : goal.returns
unfolding first_delay
returns c = search rules
