use mathlib.Core.Path.{refl, ◌∙◌}
use Rattle.bits.specs.Bits.{pick}
use Rattle.verify.specs.Steps.{expected_at}
use Rattle.verify.specs.declared.VbvVerifyError.TheVariants.{Model}
use Rattle.verify.proofs.Exits.{told_err}
use Rattle.verify.proofs.run.expected_delay.Goals as goal

pub returns-then-variable : goal.returns-then-variable
unfolding expected_at
returns-then-variable c = rw c.if-variable.true refl

pub returns-in_err-expected : goal.returns-in_err-expected
unfolding expected_at
returns-in_err-expected c = told_err c.from_residual.result (Model c.in_err-expected.field-0.0) c.from_residual.ensures.1 ∙ rw (c.if-variable.false, ← c.in_err-expected.ensures) refl

pub returns-then-are_apart : goal.returns-then-are_apart
unfolding expected_at pick
returns-then-are_apart c = rw (c.if-variable.false, ← c.in_ok-expected.ensures, ← c.are_apart.ensures, c.if-are_apart.true) refl

pub returns : goal.returns
unfolding expected_at pick
returns c = rw (c.if-variable.false, ← c.in_ok-expected.ensures, ← c.are_apart.ensures, c.if-are_apart.false) refl
