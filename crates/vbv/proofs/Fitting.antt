-- What the tests of parameters and of a state say: bounds, and back.
-- Assumes nothing.
use mathlib.Core.Path.{◌≡◌, refl, sym, ◌∙◌}
use mathlib.Core.Bool.{Bool, true, false, ◌&&◌, and_assoc, true≢false}
use Prim.Native.Nat.{ℕ, ◌+◌, ◌*◌, ◌/◌, ◌≤◌, ◌<◌, max}
use native.Mathlib.Omega.{arith}
use native.Mathlib.Decide.{dec_lt}
use lib.Arith.{digits_div}
use lib.Dec.{leb, ltb}
use borrow.Author.Tests.{leb-true, leb-false, ltb-true, le-leb, lt-leb, lt-ltb}
use Rattle.bits.proofs.Flags.{and_left, and_right}
use Rattle.vbv.specs.declared.RemovalInterval.{RemovalInterval}
use Rattle.vbv.specs.declared.RemovalInterval.TheVariants.{Frame, Field, ThreeFields, TwoFrames, ThreeFrames}
use Rattle.vbv.specs.declared.VbvParams.{VbvParams}
use Rattle.vbv.specs.declared.VbvCbrModel.{VbvCbrModel}
use Rattle.vbv.specs.Annex.{unit}
use Rattle.vbv.specs.Steps.{ParamsFit, ModelFits, ModelInRange, EndFits}
use Rattle.vbv.specs.Model.{farthest, most_delivered, params_in_range, ratio_fits, params_fit, params_fit_at, delivered, counts_fit, model_fits, model_in_range, interval_of, periods, end_fits}

-- in full, for figures
pub in_range_is : (p : VbvParams)
    → params_in_range p
    ≡ (leb 1 p.bit_rate
    && leb p.bit_rate 429496729200
    && leb 1 p.buffer_size_bits
    && leb p.buffer_size_bits 4294950912
    && leb 1 p.frn
    && leb p.frn 240000
    && leb 1 p.frd
    && leb p.frd 32032)
unfolding params_in_range
in_range_is p = refl

-- the ranges keep the test of the ratio, and the products of two frame rates, in 64 bits
pub in_range : (p : VbvParams) → params_in_range p ≡ true → (p.bit_rate ≤ 429496729200) × (p.buffer_size_bits ≤ 4294950912)
unfolding params_in_range
in_range p h = (leb-true _ _ (search (and_left, and_right) depth 14), leb-true _ _ (search (and_left, and_right) depth 14))

pub frames_in_range : (p : VbvParams) → params_in_range p ≡ true → (p.frn ≤ 240000) × (p.frd ≤ 32032)
unfolding params_in_range
frames_in_range p h = (leb-true _ _ (search (and_left, and_right) depth 14), leb-true _ _ (search (and_left, and_right) depth 14))

-- and the rate and the frame rate's numerator are not 0
pub not-zero : (p : VbvParams) → params_in_range p ≡ true → (1 ≤ p.bit_rate) × (1 ≤ p.frn)
unfolding params_in_range
not-zero p h = (leb-true _ _ (search (and_left, and_right) depth 14), leb-true _ _ (search (and_left, and_right) depth 14))

pub params_fit_lem : {p : VbvParams} → params_fit p ≡ true → ParamsFit p
unfolding params_in_range ratio_fits params_fit
params_fit_lem h =
    record {
      rate_low = leb-true _ _ (search (and_left, and_right) depth 14);
      rate_high = leb-true _ _ (search (and_left, and_right) depth 14);
      size_low = leb-true _ _ (search (and_left, and_right) depth 14);
      size_high = leb-true _ _ (search (and_left, and_right) depth 14);
      frn_low = leb-true _ _ (search (and_left, and_right) depth 14);
      frn_high = leb-true _ _ (search (and_left, and_right) depth 14);
      frd_low = leb-true _ _ (search (and_left, and_right) depth 14);
      frd_high = leb-true _ _ (search (and_left, and_right) depth 14);
      full = leb-true _ _ (search (and_left, and_right));
    }

pub model_fits_lem : {m : VbvCbrModel} → model_fits m ≡ true → ModelFits m
unfolding model_fits counts_fit unit
model_fits_lem h =
    record {
      params_fit = params_fit_lem (search (and_left, and_right) depth 8);
      whole_high = leb-true _ _ (search (and_left, and_right) depth 8);
      rest_low = ltb-true _ _ (search (and_left, and_right) depth 8);
      end_high = leb-true _ _ (search (and_left, and_right) depth 8);
      removed_high = leb-true _ _ (search (and_left, and_right) depth 8);
    }

-- whatever the ratio: the parameters in their ranges, and what is counted
pub record RangeFits (m : VbvCbrModel) : Type 0 where
  pub params_in : params_in_range m.params ≡ true
  pub whole_high : m.whole ≤ most_delivered
  pub rest_low : m.rest < unit m.params
  pub end_high : m.prev_end_bits ≤ farthest
  pub removed_high : m.removed ≤ farthest

pub range_fits : {m : VbvCbrModel} → model_in_range m ≡ true → RangeFits m
unfolding model_in_range counts_fit
range_fits h =
    record {
      params_in = search (and_left, and_right) depth 8;
      whole_high = leb-true _ _ (search (and_left, and_right) depth 8);
      rest_low = ltb-true _ _ (search (and_left, and_right) depth 8);
      end_high = leb-true _ _ (search (and_left, and_right) depth 8);
      removed_high = leb-true _ _ (search (and_left, and_right) depth 8);
    }

-- what an advance needs
pub fits_in_range : {m : VbvCbrModel} → ModelFits m → ModelInRange m
fits_in_range f =
    record {
      rate_high = omega arith;
      frn_low = omega arith;
      frn_high = omega arith;
      frd_high = omega arith;
      whole_high = f.whole_high;
      rest_low = f.rest_low;
    }

pub model_in_range_lem : {m : VbvCbrModel} → model_in_range m ≡ true → ModelInRange m
unfolding unit
model_in_range_lem {m} h =
    let r = range_fits h in
    record {
      rate_high = (in_range m.params r.params_in).0;
      frn_low = (not-zero m.params r.params_in).1;
      frn_high = (frames_in_range m.params r.params_in).0;
      frd_high = (frames_in_range m.params r.params_in).1;
      whole_high = r.whole_high;
      rest_low = r.rest_low;
    }

pub end_fits_lem : {m : VbvCbrModel} {end : ℕ} → end_fits m end ≡ true → EndFits m end
unfolding end_fits
end_fits_lem h =
    record {
      end_far = leb-true _ _ (search (and_left, and_right));
      end_low = leb-true _ _ (search (and_left, and_right));
      count = ltb-true _ _ (search (and_left, and_right));
    }

-- two numbers below one bound
pub both_below : (a b n : ℕ) → leb (max a b) n ≡ (leb a n && leb b n)
both_below a b n = go (leb a n) refl (leb b n) refl
  where
    go : (p : Bool) → leb a n ≡ p → (q : Bool) → leb b n ≡ q → leb (max a b) n ≡ (p && q)
    go true e true f = le-leb (max a b) n (omega (arith, leb-true a n e, leb-true b n f))
    go true e false f = lt-leb (max a b) n (omega (arith, leb-false b n f))
    go false e q f = lt-leb (max a b) n (omega (arith, leb-false a n e))

-- what is counted, two of it below one bound
pub counts_are : (m : VbvCbrModel)
    → (leb m.whole most_delivered && ltb m.rest (180000 * m.params.frn) && leb (max m.prev_end_bits m.removed) farthest)
    ≡ counts_fit m
unfolding counts_fit unit
counts_are m = rw (both_below m.prev_end_bits m.removed farthest) (simp and_assoc)

-- and back
pub fitting-params : (p : VbvParams) → ParamsFit p → params_fit p ≡ true
unfolding params_in_range ratio_fits params_fit
fitting-params p f =
    simp (
      le-leb _ _ f.rate_low,
      le-leb _ _ f.rate_high,
      le-leb _ _ f.size_low,
      le-leb _ _ f.size_high,
      le-leb _ _ f.frn_low,
      le-leb _ _ f.frn_high,
      le-leb _ _ f.frd_low,
      le-leb _ _ f.frd_high,
      le-leb _ _ f.full,
    )

pub fitting-model : (m : VbvCbrModel) → ModelFits m → model_fits m ≡ true
unfolding model_fits counts_fit unit
fitting-model m f =
    simp (
      fitting-params m.params f.params_fit,
      le-leb _ _ f.whole_high,
      lt-ltb _ _ f.rest_low,
      le-leb _ _ f.end_high,
      le-leb _ _ f.removed_high,
    )

pub fitting_range : (m : VbvCbrModel) → RangeFits m → model_in_range m ≡ true
unfolding model_in_range counts_fit
fitting_range m f =
    simp (
      f.params_in,
      le-leb _ _ f.whole_high,
      lt-ltb _ _ f.rest_low,
      le-leb _ _ f.end_high,
      le-leb _ _ f.removed_high,
    )

-- a state that fits is in its ranges
pub fits-model_range : (m : VbvCbrModel) → model_fits m ≡ true → model_in_range m ≡ true
unfolding model_fits model_in_range params_fit
fits-model_range m h =
    simp (and_left (params_in_range m.params) (ratio_fits m.params) (and_left (params_fit m.params) (counts_fit m) h), and_right (params_fit m.params) (counts_fit m) h)

pub fitting-end : (m : VbvCbrModel) (end : ℕ) → EndFits m end → end_fits m end ≡ true
unfolding end_fits
fitting-end m end f = simp (le-leb _ _ f.end_far, le-leb _ _ f.end_low, lt-ltb _ _ f.count)

pub unit_pos_in : (p : VbvParams) → params_in_range p ≡ true → 0 < unit p
unfolding unit
unit_pos_in p h = omega (arith, (not-zero p h).1)

-- parameters that fit are in their ranges, at either kind of rate
pub fit_in : (p : VbvParams) → params_fit p ≡ true → params_in_range p ≡ true
unfolding params_fit
fit_in p h = and_left (params_in_range p) (ratio_fits p) h

pub fit_in_at : (v : Bool) (p : VbvParams) → params_fit_at v p ≡ true → params_in_range p ≡ true
fit_in_at true p h = h
fit_in_at false p h = fit_in p h

-- the ranges as bounds; with the ratio, which is asked at a constant rate alone, they fit
pub record ParamsIn (p : VbvParams) : Type 0 where
  pub rate_low : 1 ≤ p.bit_rate
  pub rate_high : p.bit_rate ≤ 429496729200
  pub size_low : 1 ≤ p.buffer_size_bits
  pub size_high : p.buffer_size_bits ≤ 4294950912
  pub frn_low : 1 ≤ p.frn
  pub frn_high : p.frn ≤ 240000
  pub frd_low : 1 ≤ p.frd
  pub frd_high : p.frd ≤ 32032

module _ (p : VbvParams) where
  pub fitting-at : (v : Bool) → ParamsIn p → (v ≡ false → 90000 * p.buffer_size_bits ≤ 65534 * p.bit_rate) → params_fit_at v p ≡ true
  unfolding params_in_range
  fitting-at true i z =
      simp (
        le-leb _ _ i.rate_low,
        le-leb _ _ i.rate_high,
        le-leb _ _ i.size_low,
        le-leb _ _ i.size_high,
        le-leb _ _ i.frn_low,
        le-leb _ _ i.frn_high,
        le-leb _ _ i.frd_low,
        le-leb _ _ i.frd_high,
      )
  fitting-at false i z =
      fitting-params p
      (record {
        rate_low = i.rate_low;
        rate_high = i.rate_high;
        size_low = i.size_low;
        size_high = i.size_high;
        frn_low = i.frn_low;
        frn_high = i.frn_high;
        frd_low = i.frd_low;
        frd_high = i.frd_high;
        full = z refl;
      })

  pub ratio_at : (v : Bool) → params_fit_at v p ≡ true → v ≡ false → 90000 * p.buffer_size_bits ≤ 65534 * p.bit_rate
  ratio_at true f e = absurd (true≢false e)
  ratio_at false f e = (params_fit_lem f).full

  -- in their ranges they are unfit by the ratio alone
  pub unfit_ratio : (v : Bool) → ParamsIn p → params_fit_at v p ≡ false → (v ≡ false) × (65534 * p.bit_rate < 90000 * p.buffer_size_bits)
  unfit_ratio true i f = absurd (true≢false (sym (fitting-at true i (λ e. absurd (true≢false e))) ∙ f))
  unfit_ratio false i f = (refl, go (dec_lt (65534 * p.bit_rate) (90000 * p.buffer_size_bits)))
    where
      go : Dec (65534 * p.bit_rate < 90000 * p.buffer_size_bits) → 65534 * p.bit_rate < 90000 * p.buffer_size_bits
      go (yes z) = z
      go (no z) = absurd (true≢false (sym (fitting-at false i (λ e. omega (arith, z))) ∙ f))

pub unit_pos : (p : VbvParams) → params_fit p ≡ true → 0 < unit p
unit_pos p h = unit_pos_in p (fit_in p h)

-- what is delivered: whole bits and the rest of one
pub delivered_parts : (m : VbvCbrModel) → delivered m ≡ m.whole * unit m.params + m.rest
unfolding delivered
delivered_parts m = refl

pub delivered-whole : (m : VbvCbrModel) → m.rest < unit m.params → delivered m / unit m.params ≡ m.whole
unfolding delivered
delivered-whole m h = digits_div m.whole h

pub delivered_div : (m : VbvCbrModel) → model_fits m ≡ true → delivered m / unit m.params ≡ m.whole
unfolding unit
delivered_div m h = delivered-whole m (model_fits_lem h).rest_low

-- an interval is one period at least and six at most
pub periods-least : (i : RemovalInterval) → 1 ≤ periods i
periods-least Frame = omega arith
periods-least Field = omega arith
periods-least ThreeFields = omega arith
periods-least TwoFrames = omega arith
periods-least ThreeFrames = omega arith

pub periods-most : (i : RemovalInterval) → periods i ≤ 6
periods-most Frame = omega arith
periods-most Field = omega arith
periods-most ThreeFields = omega arith
periods-most TwoFrames = omega arith
periods-most ThreeFrames = omega arith

-- a field picture's interval, and a frame's
pub of_field_lem : interval_of true ≡ Field
unfolding interval_of
of_field_lem = refl

pub of_frame : interval_of false ≡ Frame
unfolding interval_of
of_frame = refl

-- a field picture lasts one, a frame two
pub field-lasts : periods (interval_of true) ≡ 1
unfolding interval_of
field-lasts = refl

pub frame_lasts_lem : periods (interval_of false) ≡ 2
unfolding interval_of
frame_lasts_lem = refl
