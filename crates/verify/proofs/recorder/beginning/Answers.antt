use mathlib.Core.Path.{refl, ◌∙◌}
use Rattle.verify.specs.Answers.{unread_error}
use Rattle.verify.specs.Steps.{beginning}
use Rattle.verify.proofs.Exits.{told_err}
use Rattle.verify.proofs.Walking.{same_refusal}
use Rattle.verify.proofs.recorder.beginning.Goals as goal

pub returns-in_err-params : goal.returns-in_err-params
unfolding beginning
returns-in_err-params c = told_err c.from_residual.result (unread_error c.in_err-params.field-0.0) c.from_residual.ensures.1 ∙ same_refusal _ ∙ rw (← c.in_err-params.ensures) refl

pub returns : goal.returns
unfolding beginning
returns c = rw (← c.in_ok-params.ensures, c.cadence_of-cadence.ensures) refl
