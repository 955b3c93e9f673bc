use borrow.Author.Rules.{rules}
use Rattle.vbv.specs.Model.{params_in_range}
use Rattle.vbv.proofs.VbvParams.in_range.Goals as goal

pub returns : goal.returns
unfolding params_in_range
returns c = search rules
