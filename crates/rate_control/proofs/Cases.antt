-- No two refusals of an offer tell the same number and values: a promise by number says which refusal it is.
-- Assumes nothing.
use mathlib.Core.Path.{◌≡◌, refl, sym, ap, ◌∙◌}
use lib.Dec.{eqb}
use Rattle.bits.specs.Bits.{pick}
use Rattle.vbv.specs.Steps.{model_error_of}
use Rattle.vbv.proofs.Numbers.{model_error_back}
use Rattle.vbv.specs.declared.VbvError.{VbvError}
use Rattle.vbv.specs.declared.VbvError.TheVariants.{FrameRateCode, Early, DelayTooLong, Params, Order, Range}
use Rattle.vbv.specs.declared.VbvViolation.{VbvViolation}
use Rattle.vbv.specs.declared.VbvViolation.TheVariants.{Overflow, Underflow, DelayMismatch}
use Rattle.bits.specs.declared.VbvRefusal.{VbvRefusal}
use Rattle.rate_control.specs.Answers.{offer_refusal}
use Rattle.rate_control.specs.declared.CbrError.{CbrError}
use Rattle.rate_control.specs.declared.CbrError.TheVariants.{Model, Violation, Kind, Headers, Layer, TooLarge, Stuffing, Output}

-- back from what is told
unfoldable offer_error_of : VbvRefusal → CbrError
offer_error_of r =
    pick (eqb r.number 9) (Violation (Overflow r.picture r.coded r.expected))
    (pick (eqb r.number 10) (Violation (Underflow r.picture r.coded r.expected))
    (pick (eqb r.number 11) (Violation (DelayMismatch r.picture r.coded r.expected))
    (pick (eqb r.number 17) Kind
    (pick (eqb r.number 18) Headers
    (pick (eqb r.number 19) Output
    (pick (eqb r.number 20) Layer
    (pick (eqb r.number 21) TooLarge
    (pick (eqb r.number 22) Stuffing
    (Model (model_error_of r.number))))))))))

offer-model_back : (e : VbvError) → offer_error_of (offer_refusal (Model e)) ≡ Model e
unfolding offer_error_of pick
offer-model_back FrameRateCode = ap Model (model_error_back FrameRateCode)
offer-model_back Early = ap Model (model_error_back Early)
offer-model_back DelayTooLong = ap Model (model_error_back DelayTooLong)
offer-model_back Params = ap Model (model_error_back Params)
offer-model_back Order = ap Model (model_error_back Order)
offer-model_back Range = ap Model (model_error_back Range)

offer-violation_back : (v : VbvViolation) → offer_error_of (offer_refusal (Violation v)) ≡ Violation v
unfolding offer_error_of pick
offer-violation_back (Overflow k c x) = refl
offer-violation_back (Underflow k c x) = refl
offer-violation_back (DelayMismatch k c x) = refl

offer_error_back : (e : CbrError) → offer_error_of (offer_refusal e) ≡ e
unfolding offer_error_of pick
offer_error_back (Model e) = offer-model_back e
offer_error_back (Violation v) = offer-violation_back v
offer_error_back Kind = refl
offer_error_back Headers = refl
offer_error_back Layer = refl
offer_error_back TooLarge = refl
offer_error_back Stuffing = refl
offer_error_back Output = refl

pub one-offer_error : (e f : CbrError) → offer_refusal e ≡ offer_refusal f → e ≡ f
one-offer_error e f h = sym (offer_error_back e) ∙ ap offer_error_of h ∙ offer_error_back f
