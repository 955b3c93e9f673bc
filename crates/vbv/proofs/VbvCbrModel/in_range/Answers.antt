use mathlib.Core.Path.{sym, ◌∙◌}
use Rattle.vbv.proofs.Fitting.{frames_in_range}
use Rattle.vbv.proofs.VbvCbrModel.in_range.Goals as goal

pub counts_fit-requires : goal.counts_fit-requires
counts_fit-requires c = (frames_in_range _ (sym c.in_range.ensures ∙ c.if-in_range.true)).0
