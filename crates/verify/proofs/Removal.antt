-- A removal by the model is a removal by Annex C, at a constant and at a variable rate.
-- Assumes nothing.
use mathlib.Core.Path.{◌≡◌, refl, sym}
use mathlib.Core.Bool.{Bool, true, false}
use Prim.Native.Nat.{ℕ, ◌-◌, ◌≤◌}
use native.Mathlib.Omega.{arith}
use Rattle.std.specs.Prelude.{Result, Ok, Err}
use Rattle.bits.specs.Bits.{pick}
use Rattle.bits.specs.Refusals.{Answer, value, refused, refuse, violate, and_then}
use Rattle.vbv.specs.Annex.{arrived, expected_delay, occupancy}
use Rattle.vbv.specs.Model.{delivered, model_fits, after_removal, periods, farthest}
use Rattle.vbv.specs.Steps.{EndFits}
use Rattle.vbv.specs.Answers.{model_refusal, violation, removal_answer}
use Rattle.vbv.specs.declared.VbvCbrModel.{VbvCbrModel}
use Rattle.vbv.specs.declared.VbvError.{VbvError}
use Rattle.vbv.specs.declared.VbvError.TheVariants as e
use Rattle.vbv.specs.declared.VbvRemovalError.{VbvRemovalError}
use Rattle.vbv.specs.declared.VbvRemovalError.TheVariants as rm
use Rattle.vbv.specs.declared.VbvViolation.{VbvViolation}
use Rattle.vbv.specs.declared.VbvViolation.TheVariants.{Overflow, Underflow, DelayMismatch}
use Rattle.vbv.proofs.Laws.{occupancy_told}
use Rattle.vbv.proofs.Numbers.{model_error_back}
use Rattle.vbv.proofs.Told.{next_delivered_is, delay_told, removal_told}
use Rattle.vbr.specs.Variable.{variable_fits, model_fits_at}
use Rattle.vbr.proofs.Laws.{variable-removal_told, variable-occupancy_told}
use Rattle.verify.specs.declared.CodedPicture.{CodedPicture}
use Rattle.verify.specs.Answers.{refusal, refusal_of, verified_answer}
use Rattle.verify.specs.declared.VbvPictureRecord.{VbvPictureRecord}
use Rattle.verify.specs.declared.VbvVerifyError.{VbvVerifyError}
use Rattle.verify.specs.Run.{apart, record_of, taken_out, removal}
use Rattle.verify.specs.Steps.{error_of, result_of, expected_at, occupancy_at, removed_at, delays_told, removal_error, with_delays, removed}

-- the code's answer
abbrev pub removing : Bool → VbvCbrModel → CodedPicture → Result (VbvPictureRecord × VbvCbrModel) VbvVerifyError
removing v m c = result_of (removed v m c)

abbrev pub model_after : Bool → VbvCbrModel → CodedPicture → VbvCbrModel
model_after v m c = after_removal m c.end_bits (arrived v m.params c.end_bits (delivered m) (periods c.interval))

-- Annex C's answer, with the model after it
abbrev pub with_model : Bool → VbvCbrModel → CodedPicture → Answer VbvPictureRecord → Answer (VbvPictureRecord × VbvCbrModel)
with_model v m c a = and_then a (λ r. value (r, model_after v m c))

module _ (m : VbvCbrModel) (c : CodedPicture) where
  -- the last step: by what the model answers to the removal
  abbrev recorded : ℕ → Answer VbvCbrModel → Answer (VbvPictureRecord × VbvCbrModel)
  recorded expected a =
      and_then (with_delays c.vbv_delay expected a) (λ next.
      value (
        record {
          vbv_delay = c.vbv_delay;
          expected_delay = expected;
          data_bits = c.end_bits - m.prev_end_bits;
          occupancy_before_bits = occupancy m.params m.prev_end_bits (delivered m);
          periods = periods c.interval;
        },
        next,
      ))

  abbrev annex : Bool → Answer (VbvPictureRecord × VbvCbrModel)
  annex v = with_model v m c (removal v m.params m.removed m.prev_end_bits (delivered m) c)

  -- at a variable rate by the test of 10
  taken : (b : Bool) → recorded 65535 (violate 10 m.removed 0 0 b (value (model_after true m c)))
      ≡ with_model true m c (violate 10 m.removed c.vbv_delay 65535 b (value (record_of true m.params m.prev_end_bits (delivered m) c)))
  unfolding with_delays record_of pick
  taken true = refl
  taken false = refl

  -- at a constant one by those of 11, 9 and 10
  agreed : (e : ℕ) (a o u : Bool)
      → and_then (violate 11 m.removed c.vbv_delay e a (value e)) (λ x. recorded x (violate 9 m.removed 0 0 o (violate 10 m.removed 0 0 u (value (model_after false m c)))))
      ≡ with_model false m c
      (violate 11 m.removed c.vbv_delay e a
      (violate 9 m.removed c.vbv_delay e o
      (violate 10 m.removed c.vbv_delay e u
      (value
      record {
        vbv_delay = c.vbv_delay;
        expected_delay = e;
        data_bits = c.end_bits - m.prev_end_bits;
        occupancy_before_bits = occupancy m.params m.prev_end_bits (delivered m);
        periods = periods c.interval;
      }))))
  unfolding with_delays pick
  agreed e true o u = refl
  agreed e false true u = refl
  agreed e false false true = refl
  agreed e false false false = refl

  -- and those of 7 and 8 before them
  timely : (f g o u : Bool)
      → and_then
      (and_then (refuse 7 f (refuse 8 g (value (expected_delay m.params c.pos_bits (delivered m))))) (λ e. violate 11 m.removed c.vbv_delay e (apart c.vbv_delay e) (value e)))
      (λ x. recorded x (violate 9 m.removed 0 0 o (violate 10 m.removed 0 0 u (value (model_after false m c)))))
      ≡ with_model false m c
      (refuse 7 f
      (refuse 8 g
      (violate 11 m.removed c.vbv_delay (expected_delay m.params c.pos_bits (delivered m)) (apart c.vbv_delay (expected_delay m.params c.pos_bits (delivered m)))
      (violate 9 m.removed c.vbv_delay (expected_delay m.params c.pos_bits (delivered m)) o
      (violate 10 m.removed c.vbv_delay (expected_delay m.params c.pos_bits (delivered m)) u
      (value (record_of false m.params m.prev_end_bits (delivered m) c)))))))
  unfolding record_of pick
  timely true g o u = refl
  timely false true o u = refl
  timely false false o u = agreed _ _ o u

  -- no refusal of Annex C is told otherwise
  told_10 : (v : Bool) (n e : ℕ) (r : VbvPictureRecord) (u : Bool)
      → verified_answer (result_of (with_model v m c (violate 10 n c.vbv_delay e u (value r)))) ≡ with_model v m c (violate 10 n c.vbv_delay e u (value r))
  unfolding result_of error_of pick
  told_10 v n e r true = refl
  told_10 v n e r false = refl

  told_all : (n e : ℕ) (r : VbvPictureRecord) (f g a o u : Bool)
      → verified_answer (result_of (with_model false m c (refuse 7 f (refuse 8 g (violate 11 n c.vbv_delay e a (violate 9 n c.vbv_delay e o (violate 10 n c.vbv_delay e u (value r))))))))
      ≡ with_model false m c (refuse 7 f (refuse 8 g (violate 11 n c.vbv_delay e a (violate 9 n c.vbv_delay e o (violate 10 n c.vbv_delay e u (value r))))))
  unfolding result_of error_of pick
  told_all n x r true g a o u = rw (model_error_back e.Early)
  told_all n x r false true a o u = rw (model_error_back e.DelayTooLong)
  told_all n e r false false true o u = refl
  told_all n e r false false false true u = refl
  told_all n e r false false false false u = told_10 false n e r u

  told : (v : Bool) → verified_answer (result_of (annex v)) ≡ annex v
  unfolding removal taken_out
  told true = told_10 true _ _ _ _
  told false = told_all _ _ _ _ _ _ _ _

  module _ (s : m.started ≡ true) (g : EndFits m c.end_bits) where
    taking_is : variable_fits m ≡ true → removed true m c ≡ annex true
    unfolding removed expected_at occupancy_at removed_at removal taken_out
    taking_is f = rw (variable-occupancy_told m f s, variable-removal_told m f s c.end_bits c.interval g) (taken _)

    removing_is : model_fits m ≡ true → c.pos_bits ≤ farthest → removed false m c ≡ annex false
    unfolding removed expected_at occupancy_at removed_at removal taken_out
    removing_is f h =
        rw (delay_told m f s c.pos_bits h, occupancy_told m f s, removal_told m f s c.end_bits c.interval g, next_delivered_is m c.interval) (timely _ _ _ _)

pub removal_is : (v : Bool) (m : VbvCbrModel) (c : CodedPicture) → model_fits_at v m ≡ true → m.started ≡ true → c.pos_bits ≤ farthest → EndFits m c.end_bits
    → verified_answer (removing v m c) ≡ with_model v m c (removal v m.params m.removed m.prev_end_bits (delivered m) c)
removal_is true m c f s h g = rw (taking_is m c s g f) (told m c true)
removal_is false m c f s h g = rw (removing_is m c s g f h) (told m c false)

-- ---- the same of the code's

not_violated : {X : Type 0} (coded expected : ℕ) (e : VbvError) → with_delays {X = X} coded expected (model_refusal e) ≡ model_refusal e
unfolding with_delays pick
not_violated coded expected e.FrameRateCode = refl
not_violated coded expected e.Early = refl
not_violated coded expected e.DelayTooLong = refl
not_violated coded expected e.Params = refl
not_violated coded expected e.Order = refl
not_violated coded expected e.Range = refl

violated : {X : Type 0} (coded expected : ℕ) (v : VbvViolation) → ◌≡◌ {A = Answer X} (violation (delays_told coded expected v)) (with_delays coded expected (violation v))
unfolding with_delays delays_told pick
violated coded expected (Overflow n c x) = refl
violated coded expected (Underflow n c x) = refl
violated coded expected (DelayMismatch n c x) = refl

pub error_told : {X : Type 0} (coded expected : ℕ) (e : VbvRemovalError) → ◌≡◌ {A = Answer X} (refusal (removal_error coded expected e)) (with_delays coded expected (removal_answer (Err e)))
unfolding removal_error
error_told coded expected (rm.Model e) = sym (not_violated coded expected e)
error_told coded expected (rm.Violation v) = violated coded expected v

-- and goes on so, whatever would come after
pub refused_on : {X Y : Type 0} (e : VbvVerifyError) (coded expected : ℕ) {a b : Answer X} (next : X → Answer Y) → ◌≡◌ {A = Answer X} (refusal e) (with_delays coded expected a) → a ≡ b
    → ◌≡◌ {A = Answer Y} (refusal e) (and_then (with_delays coded expected b) next)
refused_on e coded expected next h q = rw (← q, ← h) refl

-- which case it is
pub record RefusedBy (x : Result (VbvPictureRecord × VbvCbrModel) VbvVerifyError) (n k c e : ℕ) : Type 0 where
  pub error : VbvVerifyError
  pub is_refused : x ≡ Err error
  pub told : refusal_of error ≡ record { number = n; picture = k; coded = c; expected = e }

pub refused_by : {n k c e : ℕ} (x : Result (VbvPictureRecord × VbvCbrModel) VbvVerifyError) → verified_answer x ≡ refused n k c e → RefusedBy x n k c e
refused_by {n} {k} {c} {e} (Err x) h =
    let a : (refusal_of x).number ≡ n = cc in
    let b : (refusal_of x).picture ≡ k = cc in
    let d : (refusal_of x).coded ≡ c = cc in
    let f : (refusal_of x).expected ≡ e = cc in
    record { error = x; is_refused = refl; told = rw (← a, ← b, ← d, ← f) }
refused_by (Ok x) h = let z : ◌≡◌ {A = ℕ} 0 1 = cc in absurd (omega arith)

pub recorded_by_lem : {r : VbvPictureRecord} {m : VbvCbrModel} (x : Result (VbvPictureRecord × VbvCbrModel) VbvVerifyError) → verified_answer x ≡ value (r, m) → x ≡ Ok (r, m)
recorded_by_lem (Err e) h = let z : ◌≡◌ {A = ℕ} 0 1 = cc in absurd (omega arith)
recorded_by_lem {r} {m} (Ok x) h = let e : ◌≡◌ {A = VbvPictureRecord × VbvCbrModel} x (r, m) = cc in rw e
