-- What a model that fits and was started tells, as the tests of Annex C choose.
-- Assumes nothing.
use mathlib.Core.Path.{◌≡◌, refl, sym}
use mathlib.Core.Bool.{true, false}
use Prim.Native.Nat.{ℕ, ◌+◌, ◌≤◌}
use lib.Dec.{ltb}
use borrow.Author.Tests.{le-ltb}
use Rattle.bits.specs.Refusals.{value, refused, refuse, violate}
use Rattle.vbv.specs.declared.RemovalInterval.{RemovalInterval}
use Rattle.vbv.specs.declared.VbvParams.{VbvParams}
use Rattle.vbv.specs.declared.VbvCbrModel.{VbvCbrModel}
use Rattle.vbv.specs.Annex.{gain, overflows, beyond, expected_delay}
use Rattle.vbv.specs.Model.{farthest, params_fit, delivered, model_fits, model_in_range, at_delivered, after_removal, periods, next_delivered, gained, new_model, delay_for_picture, remove_picture}
use Rattle.vbv.specs.Steps.{EndFits}
use Rattle.bits.proofs.Flags.{no, held, failed}
use Rattle.vbv.proofs.Fitting.{fitting-end}

pub unmade : (p : VbvParams) → params_fit p ≡ false → new_model p ≡ refused 12 0 0 0
unfolding new_model
unmade p h = sym (failed _ _ _ h refl)

pub makes : (p : VbvParams) → params_fit p ≡ true
    → new_model p ≡ value (record { params = p; whole = 0; rest = 0; prev_end_bits = 0; removed = 0; started = false })
unfolding new_model
makes p h = sym (held _ _ _ h refl)

-- so much more is delivered at the next removal as the interval brings
pub next_delivered_is : (m : VbvCbrModel) (i : RemovalInterval) → next_delivered m i ≡ delivered m + gain m.params (periods i)
unfolding next_delivered
next_delivered_is m i = refl

-- what the interval brings is delivered too, nothing removed
pub gains : (m : VbvCbrModel) (i : RemovalInterval) → model_in_range m ≡ true → m.started ≡ true → gained m i ≡ value (at_delivered m (next_delivered m i))
unfolding gained
gains m i h s = sym (held _ _ _ h (held _ _ _ s refl))

module _ (m : VbvCbrModel) (f : model_fits m ≡ true) (s : m.started ≡ true) where
  pub delay_told : (position : ℕ) → position ≤ farthest
      → delay_for_picture m position
      ≡ refuse 7 (beyond m.params position (delivered m))
      (refuse 8 (ltb 65534 (expected_delay m.params position (delivered m)))
      (value (expected_delay m.params position (delivered m))))
  unfolding delay_for_picture
  delay_told position h = sym (held _ _ _ f (held _ _ _ s (no _ _ _ (le-ltb _ _ h) refl)))

  pub removal_told : (end : ℕ) (i : RemovalInterval) → EndFits m end
      → remove_picture m end i
      ≡ violate 9 m.removed 0 0 (overflows m.params m.prev_end_bits (delivered m))
      (violate 10 m.removed 0 0 (beyond m.params end (delivered m))
      (value (after_removal m end (next_delivered m i))))
  unfolding remove_picture
  removal_told end i h = sym (held _ _ _ f (held _ _ _ s (held _ _ _ (fitting-end m end h) refl)))
