use mathlib.Core.Path.{refl, ◌∙◌}
use native.Mathlib.Omega.{arith}
use Rattle.verify.proofs.Exits.{told_err}
use Rattle.verify.proofs.Walking.{walking-none, walking-done, walking-refused, walking-more}
use Rattle.verify.proofs.report.walk.Goals as goal

pub loop-pictures-init : goal.loop-pictures-init
loop-pictures-init c = rw c.new-recorder.ensures (walking-none c.args.mode c.args.stream.now refl refl)

pub returns-in_err-step : goal.returns-in_err-step
returns-in_err-step c =
    told_err c.from_residual.result c.in_err-step.field-0.0 c.from_residual.ensures.1
    ∙ walking-refused c.requires c.loop-pictures.invariant c.in_err-step.ensures.recorder_after c.in_err-step.ensures.result_value

pub loop-pictures-smaller : goal.loop-pictures-smaller
loop-pictures-smaller c =
    let w = walking-more c.requires c.loop-pictures.invariant c.step.ensures.recorder_after (rw c.if-branch.true at c.in_ok-step.ensures.result_value) in
    omega (arith, w.0.inside, w.1)

pub loop-pictures-preserved : goal.loop-pictures-preserved
loop-pictures-preserved c = (walking-more c.requires c.loop-pictures.invariant c.step.ensures.recorder_after (rw c.if-branch.true at c.in_ok-step.ensures.result_value)).0

pub returns : goal.returns
returns c = walking-done c.requires c.loop-pictures.invariant c.step.ensures.recorder_after (rw c.if-branch.false at c.in_ok-step.ensures.result_value)
