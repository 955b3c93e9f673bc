-- The refusals of the check: paper 01's number, and the picture, coded and expected delay that each carries.
-- Assumes nothing.
use Rattle.std.specs.Prelude.{Result, Ok, Err}
use Rattle.bits.specs.Refusals.{Answer, value, refused, plain}
use Rattle.headers.specs.Answers.{error_number}
use Rattle.vbv.specs.Answers.{model_number, violation_refusal}
use Rattle.pictures.specs.declared.Unread.{Unread}
use Rattle.pictures.specs.declared.Unread.TheVariants as un
use Rattle.verify.specs.declared.VbvVerifyError.{VbvVerifyError}
use Rattle.verify.specs.declared.VbvVerifyError.TheVariants.{Parse, Model, NoSequenceHeader, NoPictures, VariableRate, ConstantRate, RecordPlaces, Violation}
use Rattle.bits.specs.declared.VbvRefusal.{VbvRefusal}

-- a refusal of the front among those of the check
unfoldable pub unread_error : Unread → VbvVerifyError
unread_error (un.Parse e) = Parse e
unread_error (un.Model e) = Model e
unread_error un.NoSequenceHeader = NoSequenceHeader
unread_error un.NoPictures = NoPictures

-- 9 to 11 carry all three, every other refusal zeros
abbrev pub refusal_of : VbvVerifyError → VbvRefusal
refusal_of (Parse e) = plain (error_number e)
refusal_of (Model e) = plain (model_number e)
refusal_of NoSequenceHeader = plain 3
refusal_of NoPictures = plain 4
refusal_of VariableRate = plain 5
refusal_of ConstantRate = plain 25
refusal_of RecordPlaces = plain 15
refusal_of (Violation v) = violation_refusal v

-- each answer by its number and values
abbrev pub refusal : {X : Type 0} → VbvVerifyError → Answer X
refusal e = refused (refusal_of e).number (refusal_of e).picture (refusal_of e).coded (refusal_of e).expected

abbrev pub verified_answer : {X : Type 0} → Result X VbvVerifyError → Answer X
verified_answer (Ok x) = value x
verified_answer (Err e) = refusal e
