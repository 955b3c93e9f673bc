use Rattle.vbv.specs.Model.{params_fit, new_model}
use mathlib.Core.Path.{refl}
use Rattle.bits.proofs.Flags.{held, failed, told_by}
use Rattle.vbv.proofs.VbvCbrModel.new.Goals as goal

pub returns-then-fit : goal.returns-then-fit
unfolding new_model
returns-then-fit c = held (params_fit _) _ _ (search told_by) refl

pub returns-else-fit : goal.returns-else-fit
unfolding new_model
returns-else-fit c = failed (params_fit _) _ _ (search told_by) refl
