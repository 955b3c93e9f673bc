-- The promises of private functions: what fitting means, as bounds; and each answer by the numbers and values that it tells.
-- Assumes nothing.
use Rattle.std.specs.Prelude.{ℕ, ◌*◌, ◌≤◌, ◌<◌, ◌≡◌, true, eqb, Result, Ok, Err}
use Rattle.bits.specs.Bits.{pick}
use Rattle.bits.specs.Refusals.{Answer, value, refused}
use Rattle.vbv.specs.declared.VbvError.{VbvError}
use Rattle.vbv.specs.declared.VbvError.TheVariants.{FrameRateCode, Early, DelayTooLong, Params, Order, Range}
use Rattle.vbv.specs.declared.VbvViolation.TheVariants.{Overflow, Underflow, DelayMismatch}
use Rattle.vbv.specs.declared.VbvRemovalError.{VbvRemovalError}
use Rattle.vbv.specs.declared.VbvRemovalError.TheVariants.{Model, Violation}
use Rattle.vbv.specs.declared.VbvParams.{VbvParams}
use Rattle.vbv.specs.declared.VbvCbrModel.{VbvCbrModel}
use Rattle.vbv.specs.Model.{farthest, most_delivered}

pub record ParamsFit (p : VbvParams) : Type 0 where
  pub rate_low : 1 ≤ p.bit_rate
  pub rate_high : p.bit_rate ≤ 429496729200
  pub size_low : 1 ≤ p.buffer_size_bits
  pub size_high : p.buffer_size_bits ≤ 4294950912
  pub frn_low : 1 ≤ p.frn
  pub frn_high : p.frn ≤ 240000
  pub frd_low : 1 ≤ p.frd
  pub frd_high : p.frd ≤ 32032
  pub full : 90000 * p.buffer_size_bits ≤ 65534 * p.bit_rate

pub record ModelFits (m : VbvCbrModel) : Type 0 where
  pub params_fit : ParamsFit m.params
  pub whole_high : m.whole ≤ most_delivered
  pub rest_low : m.rest < 180000 * m.params.frn
  pub end_high : m.prev_end_bits ≤ farthest
  pub removed_high : m.removed ≤ farthest

-- a model that fits and was started
pub record Ready (m : VbvCbrModel) : Type 0 where
  pub fits : ModelFits m
  pub is_started : m.started ≡ true

-- what the sums of an advance need: the ranges, whatever the ratio
pub record ModelInRange (m : VbvCbrModel) : Type 0 where
  pub rate_high : m.params.bit_rate ≤ 429496729200
  pub frn_low : 1 ≤ m.params.frn
  pub frn_high : m.params.frn ≤ 240000
  pub frd_high : m.params.frd ≤ 32032
  pub whole_high : m.whole ≤ most_delivered
  pub rest_low : m.rest < 180000 * m.params.frn

pub record EndFits (m : VbvCbrModel) (end : ℕ) : Type 0 where
  pub end_far : end ≤ farthest
  pub end_low : m.prev_end_bits ≤ end
  pub count : m.removed < farthest

-- back from a number: proofs/Numbers.antt says that no two cases tell the same
unfoldable pub model_error_of : ℕ → VbvError
model_error_of n =
    pick (eqb n 6) FrameRateCode
    (pick (eqb n 7) Early
    (pick (eqb n 8) DelayTooLong
    (pick (eqb n 12) Params
    (pick (eqb n 13) Order
    Range))))

unfoldable pub model_of : {X : Type 0} → Answer X → Result X VbvError
model_of (value x) = Ok x
model_of (refused n k c e) = Err (model_error_of n)

unfoldable pub removal_of : {X : Type 0} → Answer X → Result X VbvRemovalError
removal_of (value x) = Ok x
removal_of (refused n k c e) =
    pick (eqb n 9) (Err (Violation (Overflow k c e)))
    (pick (eqb n 10) (Err (Violation (Underflow k c e)))
    (pick (eqb n 11) (Err (Violation (DelayMismatch k c e)))
    (Err (Model (model_error_of n)))))
