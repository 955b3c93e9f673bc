use mathlib.Core.Path.{sym, ◌∙◌}
use Rattle.vbv.proofs.Fitting.{params_fit_lem}
use Rattle.vbv.proofs.VbvCbrModel.fits.Goals as goal

pub counts_fit-requires : goal.counts_fit-requires
counts_fit-requires c = (params_fit_lem (sym c.fit.ensures ∙ c.if-fit.true)).frn_high
