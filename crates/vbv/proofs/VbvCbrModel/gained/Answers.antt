use Rattle.bits.proofs.Flags.{told_by}
use Rattle.vbv.proofs.Fitting.{model_in_range_lem}
use Rattle.vbv.proofs.Ways.{gain-params, gain_order, gain_is}
use Rattle.vbv.proofs.VbvCbrModel.gained.Goals as goal

pub returns-then-not-in_range : goal.returns-then-not-in_range
returns-then-not-in_range c = gain-params _ _ (search told_by)

pub advanced-requires : goal.advanced-requires
advanced-requires c = model_in_range_lem (search told_by)

pub returns-then-self : goal.returns-then-self
returns-then-self c = gain_is _ _ (search told_by) (search) _ c.advanced.ensures

pub returns-else-self : goal.returns-else-self
returns-else-self c = gain_order _ _ (search told_by) (search)
