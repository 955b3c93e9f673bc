use mathlib.Core.Path.{refl, sym, ap, ◌∙◌}
use Rattle.verify.specs.Answers.{verified_answer}
use Rattle.verify.specs.Check.{reported}
use Rattle.verify.specs.Steps.{checked}
use Rattle.verify.proofs.Exits.{told_err}
use Rattle.verify.proofs.Modes.{verdict-none}
use Rattle.verify.proofs.Walking.{beginning_short, walked_begun, walked_unbegun}
use Rattle.verify.proofs.Verdict.{verdict_read, verdict_unread}
use Rattle.verify.proofs.report.checked.Goals as goal

pub returns-then-not-fits : goal.returns-then-not-fits
unfolding checked
returns-then-not-fits c = ap (checked c.args.mode c.args.stream.now) (ap reported (sym (verdict-none _ _ _ (sym c.fits.ensures ∙ c.if-not-fits.true))))

pub returns-in_err-beginning : goal.returns-in_err-beginning
unfolding checked
returns-in_err-beginning c =
    told_err c.from_residual.result c.in_err-beginning.field-0.0 c.from_residual.ensures.1
    ∙ ap (checked c.args.mode c.args.stream.now) (verdict_unread _ _ _ (sym c.fits.ensures ∙ c.if-not-fits.false) (walked_unbegun _ _ c.in_err-beginning.ensures))

pub walk-requires : goal.walk-requires
walk-requires c = beginning_short _ _ c.in_ok-beginning.ensures

pub returns-in_err-walked : goal.returns-in_err-walked
unfolding checked
returns-in_err-walked c =
    told_err c.from_residual-in_err-walked.result c.in_err-walked.field-0.0 c.from_residual-in_err-walked.ensures.1
    ∙ ap (checked c.args.mode c.args.stream.now) (verdict_unread _ _ _ (sym c.fits.ensures ∙ c.if-not-fits.false) (c.in_err-walked.ensures ∙ walked_begun _ _ c.in_ok-beginning.ensures))

pub returns-in_err-report : goal.returns-in_err-report
unfolding checked
returns-in_err-report c =
    told_err c.from_residual-in_err-report.result c.in_err-report.field-0.0 c.from_residual-in_err-report.ensures.1
    ∙ ap (checked c.args.mode c.args.stream.now)
    (ap verified_answer c.in_err-report.ensures ∙ verdict_read _ _ _ (sym c.fits.ensures ∙ c.if-not-fits.false) (c.in_ok-walked.ensures ∙ walked_begun _ _ c.in_ok-beginning.ensures))

pub returns : goal.returns
unfolding checked
returns c =
    rw (
      ← (ap verified_answer c.in_ok-report.ensures ∙ verdict_read _ _ c.args.places (sym c.fits.ensures ∙ c.if-not-fits.false) (c.in_ok-walked.ensures ∙ walked_begun _ _ c.in_ok-beginning.ensures)),
      ← c.in_ok-beginning.ensures,
    )
    refl
