use mathlib.Core.Path.{refl}
use Rattle.bits.proofs.Flags.{held, failed, told_by}
use Rattle.vbv.specs.Model.{params_in_range}
use Rattle.vbr.specs.Variable.{new_variable}
use Rattle.vbr.proofs.new.Goals as goal

pub returns-then-in_range : goal.returns-then-in_range
unfolding new_variable
returns-then-in_range c = held (params_in_range _) _ _ (search told_by) refl

pub returns-else-in_range : goal.returns-else-in_range
unfolding new_variable
returns-else-in_range c = failed (params_in_range _) _ _ (search told_by) refl
