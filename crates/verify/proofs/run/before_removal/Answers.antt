use mathlib.Core.Path.{refl}
use Rattle.verify.specs.Steps.{begun, gone_on, gone_on_from}
use Rattle.verify.proofs.Cases.{result_case}
use Rattle.verify.proofs.run.before_removal.Goals as goal

pub returns-in-Ok : goal.returns-in-Ok
unfolding gone_on gone_on_from begun
returns-in-Ok c = rw (c.in-Fresh.is, ← result_case c.first_model.ensures, c.in-Ok.is) refl

pub returns-in-Err : goal.returns-in-Err
unfolding gone_on gone_on_from begun
returns-in-Err c = rw (c.in-Fresh.is, ← result_case c.first_model.ensures, c.in-Err.is) refl

pub returns-in-Running : goal.returns-in-Running
unfolding gone_on gone_on_from
returns-in-Running c = rw c.in-Running.is refl

pub returns-in-Unmodelled : goal.returns-in-Unmodelled
unfolding gone_on gone_on_from
returns-in-Unmodelled c = rw c.in-Unmodelled.is refl

pub returns-in-Stopped : goal.returns-in-Stopped
unfolding gone_on gone_on_from
returns-in-Stopped c = rw c.in-Stopped.is refl
