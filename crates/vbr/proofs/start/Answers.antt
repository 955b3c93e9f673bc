use mathlib.Core.Path.{refl}
use Rattle.bits.proofs.Flags.{yes, held, failed, told_by}
use Rattle.vbr.specs.Variable.{variable_fits, start_variable}
use Rattle.vbr.proofs.Ways.{start_is}
use Rattle.vbr.proofs.start.Goals as goal

pub returns-then-not-fits : goal.returns-then-not-fits
unfolding start_variable
returns-then-not-fits c = failed (variable_fits _) _ _ (search told_by) refl

pub returns-then-model : goal.returns-then-model
unfolding start_variable
returns-then-model c = held (variable_fits _) _ _ (search told_by) (yes _ _ _ (search) refl)

pub returns : goal.returns
returns c = start_is _ (search told_by) (search)
