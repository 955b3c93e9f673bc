use Rattle.bits.proofs.Flags.{told_by}
use Rattle.vbr.specs.Steps.{Ready}
use Rattle.vbr.proofs.Ways.{unfit, unstarted, answered}
use Rattle.vbr.proofs.ready.Goals as goal

pub returns-then-not-fits : goal.returns-then-not-fits
returns-then-not-fits c = record { told = unfit _ (search told_by); is_ready = tt }

pub returns-then-model : goal.returns-then-model
returns-then-model c =
    let r : Ready c.args.model = record { fits = search told_by; is_started = search } in
    record { told = answered r tt; is_ready = r }

pub returns-else-model : goal.returns-else-model
returns-else-model c = record { told = unstarted _ (search told_by) (search); is_ready = tt }
