use mathlib.Core.Path.{refl, ◌∙◌}
use Rattle.verify.specs.Steps.{with_delays, removed}
use Rattle.verify.specs.declared.VbvVerifyError.TheVariants.{Model}
use Rattle.verify.proofs.Exits.{told_err}
use Rattle.verify.proofs.Removal.{error_told, refused_on}
use Rattle.verify.proofs.run.remove.Goals as goal

pub returns-in_err-expected : goal.returns-in_err-expected
unfolding removed
returns-in_err-expected c = told_err c.from_residual.result c.in_err-expected.field-0.0 c.from_residual.ensures.1 ∙ rw (← c.in_err-expected.ensures) refl

pub returns-in_err-before : goal.returns-in_err-before
unfolding removed
returns-in_err-before c =
    told_err c.from_residual-in_err-before.result (Model c.in_err-before.field-0.0) c.from_residual-in_err-before.ensures.1 ∙ rw (← c.in_ok-expected.ensures, ← c.in_err-before.ensures) refl

pub returns-in-Ok : goal.returns-in-Ok
unfolding removed with_delays
returns-in-Ok c = rw (← c.in_ok-expected.ensures, ← c.in_ok-before.ensures, ← c.in-Ok.ensures, c.saturating_sub.ensures, c.periods.ensures) refl

pub returns-in-Err : goal.returns-in-Err
unfolding removed
returns-in-Err c =
    rw (← c.in_ok-expected.ensures, ← c.in_ok-before.ensures, c.removal_error.ensures) (refused_on _ _ _ _ (error_told c.args.coded.vbv_delay c.in_ok-expected.expected c.in-Err.error) c.in-Err.ensures)
