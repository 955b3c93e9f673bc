-- What a model that fits and was started answers, by the names of the cases: for callers that match on them.
-- Assumes nothing.
use mathlib.Core.Path.{◌≡◌, refl}
use mathlib.Core.Bool.{true, false}
use Prim.Native.Nat.{ℕ, ◌≤◌}
use lib.Dec.{ltb}
use Rattle.std.specs.Prelude.{Ok, Err}
use Rattle.bits.specs.Bits.{pick}
use Rattle.bits.specs.Refusals.{value, refused}
use Rattle.bits.proofs.Flags.{pick_in}
use Rattle.vbv.specs.declared.RemovalInterval.{RemovalInterval}
use Rattle.vbv.specs.declared.VbvParams.{VbvParams}
use Rattle.vbv.specs.declared.VbvCbrModel.{VbvCbrModel}
use Rattle.vbv.specs.declared.VbvError.TheVariants.{Early, DelayTooLong, Params}
use Rattle.vbv.specs.declared.VbvViolation.TheVariants.{Overflow, Underflow}
use Rattle.vbv.specs.declared.VbvRemovalError.TheVariants.{Violation}
use Rattle.vbv.specs.Annex.{first_delivered, overflows, beyond, expected_delay, occupancy, greatest_end, least_end}
use Rattle.vbv.specs.Model.{farthest, params_fit, delivered, model_fits, at_delivered, after_removal, next_delivered, new_model, start_model, delay_for_picture, remove_picture, max_end_bits, min_end_bits, occupancy_before_removal}
use Rattle.vbv.specs.Steps.{EndFits, model_error_of, model_of, removal_of}
use Rattle.vbv.proofs.Laws.{model-starts, delays, occupancy_told, max_end, min_end}
use Rattle.vbv.proofs.Told.{unmade, makes, delay_told, removal_told}

pub unmade_named : (p : VbvParams) → params_fit p ≡ false → model_of (new_model p) ≡ Err Params
unfolding model_of model_error_of pick
unmade_named p h = rw (unmade p h)

pub makes_named : (p : VbvParams) → params_fit p ≡ true
    → model_of (new_model p) ≡ Ok (record { params = p; whole = 0; rest = 0; prev_end_bits = 0; removed = 0; started = false })
unfolding model_of
makes_named p h = rw (makes p h)

pub starts_named : (m : VbvCbrModel) (delay position : ℕ) → model_fits m ≡ true → m.started ≡ false → position ≤ farthest
    → model_of (start_model m delay position) ≡ Ok (at_delivered m (first_delivered m.params position delay))
unfolding model_of
starts_named m delay position f s h = rw (model-starts m delay position f s h)

-- each answer by its name
pub model_12 : {X : Type 0} → model_of {X = X} (refused 12 0 0 0) ≡ Err Params
unfolding model_of model_error_of pick
model_12 = refl

model_7 : {X : Type 0} → model_of {X = X} (refused 7 0 0 0) ≡ Err Early
unfolding model_of model_error_of pick
model_7 = refl

model_8 : {X : Type 0} → model_of {X = X} (refused 8 0 0 0) ≡ Err DelayTooLong
unfolding model_of model_error_of pick
model_8 = refl

pub model-value : {X : Type 0} (x : X) → model_of (value x) ≡ Ok x
unfolding model_of
model-value x = refl

removal_9 : (n : ℕ) → removal_of {X = VbvCbrModel} (refused 9 n 0 0) ≡ Err (Violation (Overflow n 0 0))
unfolding removal_of pick
removal_9 n = refl

pub removal_10 : (n : ℕ) → removal_of {X = VbvCbrModel} (refused 10 n 0 0) ≡ Err (Violation (Underflow n 0 0))
unfolding removal_of pick
removal_10 n = refl

pub removal-value : (m : VbvCbrModel) → removal_of (value m) ≡ Ok m
unfolding removal_of
removal-value m = refl

module _ (m : VbvCbrModel) (f : model_fits m ≡ true) (s : m.started ≡ true) where
  pub delay_named : (position : ℕ) → position ≤ farthest
      → model_of (delay_for_picture m position)
      ≡ pick (beyond m.params position (delivered m)) (Err Early)
      (pick (ltb 65534 (expected_delay m.params position (delivered m))) (Err DelayTooLong)
      (Ok (expected_delay m.params position (delivered m))))
  delay_named position h = rw (delay_told m f s position h, pick_in model_of, pick_in model_of, model_7, model_8, model-value)

  pub removal_named : (end : ℕ) (i : RemovalInterval) → EndFits m end
      → removal_of (remove_picture m end i)
      ≡ pick (overflows m.params m.prev_end_bits (delivered m)) (Err (Violation (Overflow m.removed 0 0)))
      (pick (beyond m.params end (delivered m)) (Err (Violation (Underflow m.removed 0 0)))
      (Ok (after_removal m end (next_delivered m i))))
  removal_named end i h = rw (removal_told m f s end i h, pick_in removal_of, pick_in removal_of, removal_9, removal_10, removal-value)

  pub occupancy_named : model_of (occupancy_before_removal m) ≡ Ok (occupancy m.params m.prev_end_bits (delivered m))
  unfolding model_of
  occupancy_named = rw (occupancy_told m f s)

  pub max_named : model_of (max_end_bits m) ≡ Ok (greatest_end m.params (delivered m))
  unfolding model_of
  max_named = rw (max_end m f s)

  pub min_named : (i : RemovalInterval) → model_of (min_end_bits m i) ≡ Ok (least_end m.params (next_delivered m i))
  unfolding model_of
  min_named i = rw (min_end m f s i)

pub delays_named : (m : VbvCbrModel) (position : ℕ) → model_fits m ≡ true → m.started ≡ true → position ≤ farthest
    → beyond m.params position (delivered m) ≡ false → expected_delay m.params position (delivered m) ≤ 65534
    → model_of (delay_for_picture m position) ≡ Ok (expected_delay m.params position (delivered m))
unfolding model_of
delays_named m position f s h e l = rw (delays m position f s h e l)
