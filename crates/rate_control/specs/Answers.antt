-- What a writer answers: the number of each refusal in paper 01's table with what it carries, and each answer by number and values. A 9 names its picture, and no delays,
-- since nothing was coded. Assumes nothing.
use Rattle.std.specs.Prelude.{ℕ, Result, Ok, Err}
use Rattle.bits.specs.Refusals.{Answer, value, refused, plain}
use Rattle.vbv.specs.Answers.{model_number, violation_refusal}
use Rattle.bits.specs.declared.VbvRefusal.{VbvRefusal}
use Rattle.rate_control.specs.declared.CbrGiven.{CbrGiven}
use Rattle.rate_control.specs.declared.CbrGiven.TheVariants.{Placed, Again}
use Rattle.rate_control.specs.declared.CbrError.{CbrError}
use Rattle.rate_control.specs.declared.CbrError.TheVariants.{Model, Violation, Kind, Headers, Layer, TooLarge, Stuffing, Output}

abbrev pub offer_refusal : CbrError → VbvRefusal
offer_refusal (Model e) = plain (model_number e)
offer_refusal (Violation v) = violation_refusal v
offer_refusal Kind = plain 17
offer_refusal Headers = plain 18
offer_refusal Output = plain 19
offer_refusal Layer = plain 20
offer_refusal TooLarge = plain 21
offer_refusal Stuffing = plain 22

-- an offer that is not refused: placed with a quantiser, a delay, so many bytes and zero bytes among them; or asked for again with a quantiser
pub data Given : Type 0 where
  placed : ℕ → ℕ → ℕ → ℕ → Given
  again : ℕ → Given

-- each answer by its number and values
abbrev pub offer_answer : Result CbrGiven CbrError → Answer Given
offer_answer (Ok (Placed q d n z)) = value (placed q d n z)
offer_answer (Ok (Again q)) = value (again q)
offer_answer (Err e) = refused (offer_refusal e).number (offer_refusal e).picture (offer_refusal e).coded (offer_refusal e).expected
