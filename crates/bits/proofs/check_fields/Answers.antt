use mathlib.Core.Path.{sym, ◌∙◌}
use native.Mathlib.Omega.{arith}
use Rattle.bits.proofs.Checking.{misfit_count, check_misfit, checking_none, checking_misfit, checking_more, checking_end}
use Rattle.bits.proofs.check_fields.Goals as goal

pub returns-then-values-n : goal.returns-then-values-n
returns-then-values-n c = check_misfit _ _ (misfit_count _ _ (λ e. c.if-values-n.true (e ∙ sym c.field_count-n.ensures)))

pub loop-k-init : goal.loop-k-init
loop-k-init c = checking_none c.field_count-n.ensures c.if-values-n.false

pub returns-then-not-fits : goal.returns-then-not-fits
returns-then-not-fits c =
    checking_misfit c.loop-k.invariant c.loop-k-test.true c.from-w.ensures c.fits.ensures c.if-not-fits.true

pub loop-k-preserved : goal.loop-k-preserved
loop-k-preserved c =
    checking_more c.loop-k.invariant c.loop-k-test.true c.from-w.ensures c.fits.ensures c.if-not-fits.false (omega arith)

pub returns : goal.returns
returns c = checking_end c.loop-k.invariant c.loop-k-test.false
