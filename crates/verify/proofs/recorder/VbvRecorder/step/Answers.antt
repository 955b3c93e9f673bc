use mathlib.Core.Path.{refl, ◌∙◌}
use Rattle.cadence.proofs.Keeping.{unmoved}
use Rattle.verify.specs.Answers.{unread_error}
use Rattle.verify.specs.Steps.{went_on, took, is_one, stepped, steps}
use Rattle.verify.proofs.Exits.{told_err}
use Rattle.verify.proofs.Walking.{same_refusal}
use Rattle.verify.proofs.recorder.VbvRecorder.step.Goals as goal
use Rattle.verify.proofs.recorder.VbvRecorder.step.Goals.{then-self, else-self}

pub returns-in_err-seen-clause-recorder_after : goal.returns-in_err-seen-clause-recorder_after
unfolding stepped
returns-in_err-seen-clause-recorder_after c = rw (← c.in_err-seen.ensures) refl

pub returns-in_err-seen-clause-result_value : goal.returns-in_err-seen-clause-result_value
unfolding steps
returns-in_err-seen-clause-result_value c =
    told_err c.from_residual.result (unread_error c.in_err-seen.field-0.0) c.from_residual.ensures.1 ∙ same_refusal c.in_err-seen.field-0.0 ∙ rw (← c.in_err-seen.ensures) refl

pub returns-in_default-clause-recorder_after : goal.returns-in_default-clause-recorder_after
unfolding stepped took
returns-in_default-clause-recorder_after c = rw (← c.in_ok-seen.ensures, c.in_default.is) refl

pub returns-in_default-clause-result_value : goal.returns-in_default-clause-result_value
unfolding steps is_one
returns-in_default-clause-result_value c = rw (← c.in_ok-seen.ensures, c.in_default.is) refl

pub returns-clause-recorder_after : goal.returns-clause-recorder_after
unfolding stepped took went_on
returns-clause-recorder_after c =
    elim c.if-self.branch [
      | then-self w ↦ rw (← c.in_ok-seen.ensures, c.in-Some.is, c.advance-self.ensures, w.self-is, w.after-self.ensures, c.interval-interval.ensures) refl
      | else-self w ↦ rw (← c.in_ok-seen.ensures, c.in-Some.is, c.advance-self.ensures, w.self-is, unmoved c.args.self.now.cadence c.in-Some.seen.facts w.if-self.false, c.interval-interval.ensures) refl
    ]

pub returns-clause-result_value : goal.returns-clause-result_value
unfolding steps is_one
returns-clause-result_value c = rw (← c.in_ok-seen.ensures, c.in-Some.is) refl
