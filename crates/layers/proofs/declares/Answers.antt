use Rattle.layers.specs.Headers.{declares}
use Rattle.layers.proofs.declares.Goals as goal

pub returns-in-Ok : goal.returns-in-Ok
unfolding declares
returns-in-Ok c = rw (← c.declared_by.ensures, c.in-Ok.is) c.same.ensures

pub returns-in-Err : goal.returns-in-Err
unfolding declares
returns-in-Err c = rw (← c.declared_by.ensures, c.in-Err.is)
