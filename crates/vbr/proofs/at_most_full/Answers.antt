use Rattle.vbr.proofs.Ways.{full_test, most-fits}
use Rattle.vbr.proofs.at_most_full.Goals as goal

pub overflow_add-most : goal.overflow_add-most
overflow_add-most c = record { fits = most-fits c.args.model (search) }

pub returns : goal.returns
returns c = full_test _ (search)
