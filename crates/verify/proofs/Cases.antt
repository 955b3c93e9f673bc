-- No two refusals of the check tell the same number and values: a promise by number says which refusal it is.
-- Assumes nothing.
use mathlib.Core.Path.{◌≡◌, refl, sym, ap, ◌∙◌}
use Rattle.std.specs.Prelude.{Result, Ok, Err}
use Rattle.bits.specs.Bits.{pick}
use Rattle.bits.specs.Refusals.{Answer}
use Rattle.headers.specs.declared.Error.{Error}
use Rattle.headers.specs.declared.Error.TheVariants as h
use Rattle.vbv.proofs.Numbers.{model_error_back}
use Rattle.vbv.specs.declared.VbvError.{VbvError}
use Rattle.vbv.specs.declared.VbvError.TheVariants as m
use Rattle.vbv.specs.declared.VbvViolation.{VbvViolation}
use Rattle.vbv.specs.declared.VbvViolation.TheVariants.{Overflow, Underflow, DelayMismatch}
use Rattle.verify.specs.Answers.{refusal_of, verified_answer}
use Rattle.verify.specs.Steps.{error_of, result_of}
use Rattle.verify.specs.declared.VbvVerifyError.{VbvVerifyError}
use Rattle.verify.specs.declared.VbvVerifyError.TheVariants.{Parse, Model, NoSequenceHeader, NoPictures, VariableRate, ConstantRate, RecordPlaces, Violation}

parse_back : (e : Error) → error_of (refusal_of (Parse e)) ≡ Parse e
unfolding error_of pick
parse_back h.ShortHeader = refl
parse_back h.InvalidBitstream = refl
parse_back h.FieldToWrite = refl
parse_back h.ShortOutput = refl

model_back : (e : VbvError) → error_of (refusal_of (Model e)) ≡ Model e
unfolding error_of pick
model_back m.FrameRateCode = ap Model (model_error_back m.FrameRateCode)
model_back m.Early = ap Model (model_error_back m.Early)
model_back m.DelayTooLong = ap Model (model_error_back m.DelayTooLong)
model_back m.Params = ap Model (model_error_back m.Params)
model_back m.Order = ap Model (model_error_back m.Order)
model_back m.Range = ap Model (model_error_back m.Range)

violation_back : (v : VbvViolation) → error_of (refusal_of (Violation v)) ≡ Violation v
unfolding error_of pick
violation_back (Overflow k c x) = refl
violation_back (Underflow k c x) = refl
violation_back (DelayMismatch k c x) = refl

error_back : (e : VbvVerifyError) → error_of (refusal_of e) ≡ e
unfolding error_of pick
error_back (Parse e) = parse_back e
error_back (Model e) = model_back e
error_back NoSequenceHeader = refl
error_back NoPictures = refl
error_back VariableRate = refl
error_back ConstantRate = refl
error_back RecordPlaces = refl
error_back (Violation v) = violation_back v

pub one_case : (e f : VbvVerifyError) → refusal_of e ≡ refusal_of f → e ≡ f
one_case e f h = sym (error_back e) ∙ ap error_of h ∙ error_back f

result_back : {X : Type 0} (r : Result X VbvVerifyError) → result_of (verified_answer r) ≡ r
unfolding result_of
result_back (Ok x) = refl
result_back (Err e) = rw (error_back e)

-- the case, by what is told of it
pub result_case : {X : Type 0} {r : Result X VbvVerifyError} {a : Answer X} → verified_answer r ≡ a → r ≡ result_of a
result_case {r = r} h = sym (result_back r) ∙ ap result_of h
