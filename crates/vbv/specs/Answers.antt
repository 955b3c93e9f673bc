-- The refusals of the model with their numbers in paper 01's table, and the frame rates.
-- Assumes nothing.
use Rattle.std.specs.Prelude.{ℕ, ◌+◌, ◌*◌, not, ◌&&◌, leb, eqb, Result, Ok, Err}
use Rattle.bits.specs.Bits.{pick}
use Rattle.bits.specs.Refusals.{Answer, value, refused, refuse, and_then}
use Rattle.bits.specs.declared.VbvRefusal.{VbvRefusal}
use Rattle.vbv.specs.declared.VbvError.{VbvError}
use Rattle.vbv.specs.declared.VbvError.TheVariants.{FrameRateCode, Early, DelayTooLong, Params, Order, Range}
use Rattle.vbv.specs.declared.VbvViolation.{VbvViolation}
use Rattle.vbv.specs.declared.VbvViolation.TheVariants.{Overflow, Underflow, DelayMismatch}
use Rattle.vbv.specs.declared.VbvRemovalError.{VbvRemovalError}
use Rattle.vbv.specs.declared.VbvRemovalError.TheVariants.{Model, Violation}
use Rattle.vbv.specs.declared.NotAPicture.{NotAPicture}

abbrev pub model_number : VbvError → ℕ
model_number FrameRateCode = 6
model_number Early = 7
model_number DelayTooLong = 8
model_number Params = 12
model_number Order = 13
model_number Range = 14

-- a violation's number, and the picture, coded and expected delay that it carries
abbrev pub violation_number : VbvViolation → ℕ
violation_number (Overflow n c e) = 9
violation_number (Underflow n c e) = 10
violation_number (DelayMismatch n c e) = 11

abbrev pub violation_picture : VbvViolation → ℕ
violation_picture (Overflow n c e) = n
violation_picture (Underflow n c e) = n
violation_picture (DelayMismatch n c e) = n

abbrev pub violation_coded : VbvViolation → ℕ
violation_coded (Overflow n c e) = c
violation_coded (Underflow n c e) = c
violation_coded (DelayMismatch n c e) = c

abbrev pub violation_expected : VbvViolation → ℕ
violation_expected (Overflow n c e) = e
violation_expected (Underflow n c e) = e
violation_expected (DelayMismatch n c e) = e

-- as paper 01 writes it
abbrev pub violation_refusal : VbvViolation → VbvRefusal
violation_refusal v =
    record { number = violation_number v; picture = violation_picture v; coded = violation_coded v; expected = violation_expected v }

-- each answer by its number and values
abbrev pub model_refusal : {X : Type 0} → VbvError → Answer X
model_refusal e = refused (model_number e) 0 0 0

abbrev pub violation : {X : Type 0} → VbvViolation → Answer X
violation v = refused (violation_number v) (violation_picture v) (violation_coded v) (violation_expected v)

abbrev pub model_answer : {X : Type 0} → Result X VbvError → Answer X
model_answer (Ok x) = value x
model_answer (Err e) = model_refusal e

abbrev pub removal_answer : {X : Type 0} → Result X VbvRemovalError → Answer X
removal_answer (Ok x) = value x
removal_answer (Err (Model e)) = model_refusal e
removal_answer (Err (Violation v)) = violation v

abbrev pub patch_answer : Result (Unit {0}) NotAPicture → Answer (Unit {0})
patch_answer (Ok x) = value x
patch_answer (Err e) = refused 20 0 0 0

-- Table 6-4's frame_rate_value of a code, and 11172-2 2.4.3.2's picture_rate: numerator and denominator
unfoldable pub code_rate : ℕ → Answer (ℕ × ℕ)
code_rate c =
    pick (eqb c 1) (value (24000, 1001))
    (pick (eqb c 2) (value (24, 1))
    (pick (eqb c 3) (value (25, 1))
    (pick (eqb c 4) (value (30000, 1001))
    (pick (eqb c 5) (value (30, 1))
    (pick (eqb c 6) (value (50, 1))
    (pick (eqb c 7) (value (60000, 1001))
    (pick (eqb c 8) (value (60, 1))
    (refused 6 0 0 0))))))))

-- 6.3.5: frame_rate_value × (n + 1) / (d + 1), not reduced. n has 2 bits and d 5: a wider one is 12, before the code's 6 (request 02)
unfoldable pub frame_rate : ℕ → ℕ → ℕ → Answer (ℕ × ℕ)
frame_rate c n d =
    refuse 12 (not (leb n 3 && leb d 31))
    (and_then (code_rate c) (λ f. value (f.0 * (n + 1), f.1 * (d + 1))))
