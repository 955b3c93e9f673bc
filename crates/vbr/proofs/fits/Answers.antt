use mathlib.Core.Path.{◌∙◌}
use borrow.Author.Tests.{not-true, not-false}
use Rattle.bits.proofs.Flags.{told_by}
use Rattle.vbr.proofs.Fitting.{by_full, by_range}
use Rattle.vbr.proofs.fits.Goals as goal

pub returns-then-not-model : goal.returns-then-not-model
returns-then-not-model c = c.if-not-model.true ∙ by_range _ (search told_by) (not-true _ c.if-not-model.true)

pub returns-else-not-model : goal.returns-else-not-model
returns-else-not-model c = c.at_most_full.ensures ∙ by_full _ (search told_by) (not-false _ c.if-not-model.false)
