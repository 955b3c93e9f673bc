-- No two cases of an answer tell the same number and values: a promise that says what is told says which case it is.
-- Assumes nothing.
use mathlib.Core.Path.{◌≡◌, refl, sym, ap, ◌∙◌}
use Rattle.std.specs.Prelude.{Result, Ok, Err}
use Rattle.bits.specs.Bits.{pick}
use Rattle.bits.specs.Refusals.{Answer}
use Rattle.vbv.specs.Answers.{model_number, model_answer, removal_answer}
use Rattle.vbv.specs.Steps.{model_error_of, model_of, removal_of}
use Rattle.vbv.specs.declared.VbvError.{VbvError}
use Rattle.vbv.specs.declared.VbvError.TheVariants.{FrameRateCode, Early, DelayTooLong, Params, Order, Range}
use Rattle.vbv.specs.declared.VbvViolation.TheVariants.{Overflow, Underflow, DelayMismatch}
use Rattle.vbv.specs.declared.VbvRemovalError.{VbvRemovalError}
use Rattle.vbv.specs.declared.VbvRemovalError.TheVariants.{Model, Violation}

pub model_error_back : (e : VbvError) → model_error_of (model_number e) ≡ e
unfolding model_error_of pick
model_error_back FrameRateCode = refl
model_error_back Early = refl
model_error_back DelayTooLong = refl
model_error_back Params = refl
model_error_back Order = refl
model_error_back Range = refl

model_back : {X : Type 0} (r : Result X VbvError) → model_of (model_answer r) ≡ r
unfolding model_of
model_back (Ok x) = refl
model_back (Err e) = ap Err (model_error_back e)

removal_back : {X : Type 0} (r : Result X VbvRemovalError) → removal_of (removal_answer r) ≡ r
unfolding removal_of model_error_of pick
removal_back (Ok x) = refl
removal_back (Err (Model FrameRateCode)) = refl
removal_back (Err (Model Early)) = refl
removal_back (Err (Model DelayTooLong)) = refl
removal_back (Err (Model Params)) = refl
removal_back (Err (Model Order)) = refl
removal_back (Err (Model Range)) = refl
removal_back (Err (Violation (Overflow k c x))) = refl
removal_back (Err (Violation (Underflow k c x))) = refl
removal_back (Err (Violation (DelayMismatch k c x))) = refl

-- the case, by what is told of it: for a caller that matched on it
pub model_case : {X : Type 0} {r x : Result X VbvError} {a : Answer X} → r ≡ x → model_answer r ≡ a → model_of a ≡ x
model_case {r} e h = ap model_of (sym h) ∙ model_back r ∙ e

pub removal_case : {X : Type 0} {r x : Result X VbvRemovalError} {a : Answer X} → r ≡ x → removal_answer r ≡ a → removal_of a ≡ x
removal_case {r} e h = ap removal_of (sym h) ∙ removal_back r ∙ e
