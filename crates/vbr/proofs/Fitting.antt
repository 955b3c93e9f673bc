-- What the test of a state at a variable rate says: bounds, and back.
-- Assumes nothing.
use mathlib.Core.Path.{◌≡◌, refl}
use mathlib.Core.Bool.{Bool, true, false, not}
use Prim.Native.Nat.{◌≤◌, ◌<◌}
use borrow.Author.Tests.{not-true}
use Rattle.bits.specs.Bits.{pick}
use Rattle.bits.proofs.Flags.{and_left, and_right}
use Rattle.vbv.specs.Annex.{unit, overflows}
use Rattle.vbv.specs.Model.{farthest, most_delivered, params_in_range, delivered, model_in_range}
use Rattle.vbv.specs.declared.VbvCbrModel.{VbvCbrModel}
use Rattle.vbv.proofs.Fitting.{RangeFits, range_fits, fitting_range}
use Rattle.vbr.specs.Variable.{variable_fits}

pub record VariableFits (m : VbvCbrModel) : Type 0 where
  pub params_in : params_in_range m.params ≡ true
  pub whole_high : m.whole ≤ most_delivered
  pub rest_low : m.rest < unit m.params
  pub end_high : m.prev_end_bits ≤ farthest
  pub removed_high : m.removed ≤ farthest
  pub at_most_full : m.started ≡ true → overflows m.params m.prev_end_bits (delivered m) ≡ false

-- a flag's test, where the flag is set
was_chosen : (s x : Bool) → pick s (not x) true ≡ true → s ≡ true → x ≡ false
unfolding pick
was_chosen true x h e = not-true x h
was_chosen false x h e = cc

chosen : (s x : Bool) → (s ≡ true → x ≡ false) → pick s (not x) true ≡ true
unfolding pick
chosen true x h = rw (h refl)
chosen false x h = refl

-- the test by that of the ranges, where a model is started, where it is not, and out of them
module _ (m : VbvCbrModel) where
  pub by_full : model_in_range m ≡ true → m.started ≡ true → not (overflows m.params m.prev_end_bits (delivered m)) ≡ variable_fits m
  unfolding variable_fits pick
  by_full h s = rw (h, s)

  pub by_range : model_in_range m ≡ true → m.started ≡ false → true ≡ variable_fits m
  unfolding variable_fits pick
  by_range h s = rw (h, s)

  -- it is in its ranges, and once started at most full
  pub fits_range : variable_fits m ≡ true → model_in_range m ≡ true
  unfolding variable_fits
  fits_range h = and_left (model_in_range m) _ h

  pub fits-full : variable_fits m ≡ true → m.started ≡ true → overflows m.params m.prev_end_bits (delivered m) ≡ false
  unfolding variable_fits
  fits-full h s = was_chosen m.started _ (and_right (model_in_range m) _ h) s

pub variable_fits_lem : {m : VbvCbrModel} → variable_fits m ≡ true → VariableFits m
variable_fits_lem {m} h =
    let r = range_fits (fits_range m h) in
    record {
      params_in = r.params_in;
      whole_high = r.whole_high;
      rest_low = r.rest_low;
      end_high = r.end_high;
      removed_high = r.removed_high;
      at_most_full = fits-full m h;
    }

-- and back
pub fitting-variable : (m : VbvCbrModel) → RangeFits m → (m.started ≡ true → overflows m.params m.prev_end_bits (delivered m) ≡ false)
    → variable_fits m ≡ true
unfolding variable_fits
fitting-variable m r h = rw (fitting_range m r) (chosen m.started _ h)

pub variable_range : {m : VbvCbrModel} → VariableFits m → RangeFits m
variable_range v =
    record {
      params_in = v.params_in;
      whole_high = v.whole_high;
      rest_low = v.rest_low;
      end_high = v.end_high;
      removed_high = v.removed_high;
    }
