use Rattle.bits.proofs.Flags.{told_by}
use Rattle.vbv.specs.Steps.{Ready}
use Rattle.vbv.proofs.Fitting.{model_fits_lem}
use Rattle.vbv.proofs.Ways.{unfit, unstarted, answered}
use Rattle.vbv.proofs.VbvCbrModel.ready.Goals as goal

pub returns-then-not-fits : goal.returns-then-not-fits
returns-then-not-fits c = record { told = unfit _ (search told_by); is_ready = tt }

pub returns-then-self : goal.returns-then-self
returns-then-self c =
    let r : Ready c.args.self = record { fits = model_fits_lem (search told_by); is_started = search } in
    record { told = answered r tt; is_ready = r }

pub returns-else-self : goal.returns-else-self
returns-else-self c = record { told = unstarted _ (search told_by) (search); is_ready = tt }
