use mathlib.Core.Path.{refl, ◌∙◌}
use borrow.Author.Tests.{ne_eqb}
use Rattle.bits.specs.Bits.{pick}
use Rattle.verify.specs.Steps.{first_model}
use Rattle.verify.specs.declared.VbvVerifyError.TheVariants.{Model}
use Rattle.verify.proofs.Exits.{told_err}
use Rattle.verify.proofs.run.first_model.Goals as goal

pub returns-in_err-model : goal.returns-in_err-model
unfolding first_model
returns-in_err-model c = told_err c.from_residual.result (Model c.in_err-model.field-0.0) c.from_residual.ensures.1 ∙ rw (c.if-variable.true, ← c.in_err-model.ensures) refl

pub returns-in_err-start : goal.returns-in_err-start
unfolding first_model
returns-in_err-start c = told_err c.from_residual-in_err-start.result (Model c.in_err-start.field-0.0) c.from_residual-in_err-start.ensures.1 ∙ rw (c.if-variable.true, ← c.in_ok-model.ensures, ← c.in_err-start.ensures) refl

pub returns-then-variable : goal.returns-then-variable
unfolding first_model
returns-then-variable c = rw (c.if-variable.true, ← c.in_ok-model.ensures, ← c.in_ok-start.ensures) refl

pub returns-then-coded-eq65535 : goal.returns-then-coded-eq65535
unfolding first_model pick
returns-then-coded-eq65535 c = rw (c.if-variable.false, c.if-coded-eq65535.true) refl

pub returns-in_err-model-2 : goal.returns-in_err-model-2
unfolding first_model pick
returns-in_err-model-2 c = told_err c.from_residual-in_err-model-2.result (Model c.in_err-model-2.field-0.0) c.from_residual-in_err-model-2.ensures.1 ∙ rw (c.if-variable.false, ne_eqb _ _ c.if-coded-eq65535.false, ← c.in_err-model-2.ensures) refl

pub returns-in_err-start-2 : goal.returns-in_err-start-2
unfolding first_model pick
returns-in_err-start-2 c =
    told_err c.from_residual-in_err-start-2.result (Model c.in_err-start-2.field-0.0) c.from_residual-in_err-start-2.ensures.1 ∙ rw (c.if-variable.false, ne_eqb _ _ c.if-coded-eq65535.false, ← c.in_ok-model-2.ensures, ← c.in_err-start-2.ensures) refl

pub returns : goal.returns
unfolding first_model pick
returns c = rw (c.if-variable.false, ne_eqb _ _ c.if-coded-eq65535.false, ← c.in_ok-model-2.ensures, ← c.in_ok-start-2.ensures) refl
