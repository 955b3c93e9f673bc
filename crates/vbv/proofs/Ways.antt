-- The ways through each function's chain of tests, in the direction of its promise.
-- Assumes nothing.
use mathlib.Core.Path.{◌≡◌, refl, sym, ap, ◌∙◌}
use mathlib.Core.Bool.{Bool, true, false, not}
use Prim.Native.Nat.{ℕ, ◌+◌, ◌-◌, ◌*◌, ◌/◌, ◌%◌, ◌^◌, ◌≤◌, ◌<◌}
use native.Mathlib.Omega.{arith}
use native.Mathlib.Nat.{mod-lt}
use lib.Dec.{ltb}
use borrow.Author.Tests.{lt-ltb, le-ltb}
use Rattle.std.specs.Prelude.{Result, Ok, Err, IsErrAnd}
use Rattle.bits.specs.Bits.{pick}
use Rattle.bits.specs.Refusals.{Answer, value, refused, refuse, number}
use Rattle.bits.proofs.Following.{refused-value}
use Rattle.vbv.specs.declared.VbvError.{VbvError}
use Rattle.vbv.specs.declared.VbvRemovalError.{VbvRemovalError}
use Rattle.vbv.specs.declared.VbvRemovalError.TheVariants.{Model}
use Rattle.vbv.specs.Answers.{model_number, model_refusal, model_answer, removal_answer}
use Rattle.vbv.specs.declared.RemovalInterval.{RemovalInterval}
use Rattle.vbv.specs.declared.VbvCbrModel.{VbvCbrModel}
use Rattle.vbv.specs.Annex.{unit, first_delivered, gain, overflows, beyond, expected_delay, occupancy, greatest_end, least_end}
use Rattle.vbv.specs.Steps.{Ready, ModelFits, EndFits}
use Rattle.vbv.specs.Model.{farthest, delivered, model_fits, at_delivered, after_removal, periods, next_delivered, gained, model_in_range, delay_for_picture, end_fits, remove_picture, of_started}
use Rattle.vbv.proofs.Arith.{ceiling_whole, ceiling_more, above, floor_beyond, start_div, start_mod, next_div, next_mod, delay_split, delay_large}
use Rattle.bits.proofs.Flags.{yes, no, held, failed}
use Rattle.vbv.proofs.Fitting.{fitting-params, fitting-model, fitting-end, unit_pos, delivered_div}
use Rattle.vbv.proofs.Laws.{beyond-greatest, overflow_ceiling, least_ceiling, fits-params, delivered_at_lem, next-whole}

-- delivered, as whole bits and a remainder: at the start, and one interval on
pub begun_is : (m : VbvCbrModel) (delay position : ℕ) → 1 ≤ m.params.frn
    → ◌≡◌ {A = VbvCbrModel}
    (record {
      params = m.params;
      whole = position + delay * m.params.bit_rate / 90000;
      rest = delay * m.params.bit_rate % 90000 * 2 * m.params.frn;
      prev_end_bits = m.prev_end_bits;
      removed = m.removed;
      started = true;
    })
    (at_delivered m (first_delivered m.params position delay))
unfolding at_delivered first_delivered unit
begun_is m delay position h =
    let p = m.params in
    simp (start_div position (delay * p.bit_rate) p.frn h, start_mod position (delay * p.bit_rate) p.frn h)

pub advanced_is : (m : VbvCbrModel) (i : RemovalInterval) (n : ℕ) → n ≡ periods i → 1 ≤ m.params.frn
    → ◌≡◌ {A = VbvCbrModel}
    (record {
      params = m.params;
      whole =
          m.whole + m.params.bit_rate * m.params.frd * n / (2 * m.params.frn)
          + (m.rest + m.params.bit_rate * m.params.frd * n % (2 * m.params.frn) * 90000) / (180000 * m.params.frn);
      rest = (m.rest + m.params.bit_rate * m.params.frd * n % (2 * m.params.frn) * 90000) % (180000 * m.params.frn);
      prev_end_bits = m.prev_end_bits;
      removed = m.removed;
      started = true;
    })
    (at_delivered m (next_delivered m i))
unfolding at_delivered next_delivered delivered gain unit
advanced_is m i n e h =
    let p = m.params in
    simp (
      e,
      next_div m.whole m.rest p.bit_rate p.frd (periods i) p.frn h,
      next_mod m.whole m.rest p.bit_rate p.frd (periods i) p.frn,
    )

-- rounding up
module _ (m : VbvCbrModel) where
  pub up_more : 0 < m.rest → m.rest < unit m.params → m.whole + 1 ≡ (delivered m + (unit m.params - 1)) / unit m.params
  unfolding delivered
  up_more g h = sym (ceiling_more m.whole m.rest (unit m.params) g h)

  pub up-whole : m.rest ≤ 0 → m.rest < unit m.params → m.whole ≡ (delivered m + (unit m.params - 1)) / unit m.params
  unfolding delivered
  up-whole g h =
      let e : m.rest ≡ 0 = omega arith in
      sym (rw e (ceiling_whole m.whole (unit m.params) (omega arith)))

-- a model that is ready: its whole bits
module _ {m : VbvCbrModel} (v : Ready m) where
  fits : model_fits m ≡ true
  fits = fitting-model m v.fits

  pub greatest_is : m.whole ≡ greatest_end m.params (delivered m)
  unfolding greatest_end
  greatest_is = sym (delivered_div m fits)

  beyond_test : (end : ℕ) → beyond m.params end (delivered m) ≡ ltb m.whole end
  beyond_test end = beyond-greatest m.params (fits-params m fits) end (delivered m) ∙ rw (← greatest_is)

  over_test : (u : ℕ) → u ≡ (delivered m + (unit m.params - 1)) / unit m.params
      → overflows m.params m.prev_end_bits (delivered m) ≡ ltb (m.prev_end_bits + m.params.buffer_size_bits) u
  over_test u e = overflow_ceiling m.params (fits-params m fits) m.prev_end_bits (delivered m) ∙ rw e

  -- the delay
  module _ (position : ℕ) (h : position ≤ farthest) where
    expected_is : position ≤ m.whole
        → expected_delay m.params position (delivered m)
        ≡ (180000 * (m.whole - position) + m.rest / m.params.frn + m.params.bit_rate) / (2 * m.params.bit_rate)
    unfolding expected_delay delivered unit
    expected_is g =
        rw (above m.whole m.rest position (180000 * m.params.frn) g)
        (delay_split (m.whole - position) m.rest m.params.frn m.params.bit_rate (omega arith))

    pub delay-early : m.whole < position → refused 7 0 0 0 ≡ delay_for_picture m position
    unfolding delay_for_picture
    delay-early g = held _ _ _ fits (held _ _ _ v.is_started (no _ _ _ (le-ltb _ _ h) (yes _ _ _ (beyond_test position ∙ lt-ltb _ _ g) refl)))

    -- beyond the test of the position
    there : position ≤ m.whole → (r : Answer ℕ)
        → r
        ≡ refuse 8 (ltb 65534 (expected_delay m.params position (delivered m)))
        (value (expected_delay m.params position (delivered m)))
        → r ≡ delay_for_picture m position
    unfolding delay_for_picture
    there g r e = held _ _ _ fits (held _ _ _ v.is_started (no _ _ _ (le-ltb _ _ h) (no _ _ _ (beyond_test position ∙ le-ltb _ _ g) e)))

    pub delay_long : position ≤ m.whole
        → 65534 < (180000 * (m.whole - position) + m.rest / m.params.frn + m.params.bit_rate) / (2 * m.params.bit_rate)
        → refused 8 0 0 0 ≡ delay_for_picture m position
    delay_long g k = there g _ (yes _ _ _ (rw (expected_is g) (lt-ltb _ _ k)) refl)

    pub delay_second : position ≤ m.whole → m.params.bit_rate ≤ m.whole - position
        → refused 8 0 0 0 ≡ delay_for_picture m position
    delay_second g k =
        delay_long g (delay_large (m.whole - position) m.rest m.params.frn m.params.bit_rate (omega arith) k)

    pub delay_is : position ≤ m.whole
        → (180000 * (m.whole - position) + m.rest / m.params.frn + m.params.bit_rate) / (2 * m.params.bit_rate) ≤ 65534
        → value ((180000 * (m.whole - position) + m.rest / m.params.frn + m.params.bit_rate) / (2 * m.params.bit_rate))
        ≡ delay_for_picture m position
    delay_is g k = there g _ (no _ _ _ (rw (expected_is g) (le-ltb _ _ k)) (rw (expected_is g)))

  -- a removal: over what was delivered, rounded up
  module _ (end : ℕ) (g : EndFits m end) (i : RemovalInterval)
      (u : ℕ) (e : u ≡ (delivered m + (unit m.params - 1)) / unit m.params) where
    pub remove-over : m.prev_end_bits + m.params.buffer_size_bits < u
        → refused 9 m.removed 0 0 ≡ remove_picture m end i
    unfolding remove_picture
    remove-over o =
        held _ _ _ fits (held _ _ _ v.is_started (held _ _ _ (fitting-end m end g) (yes _ _ _ (over_test u e ∙ lt-ltb _ _ o) refl)))

    pub remove_under : u ≤ m.prev_end_bits + m.params.buffer_size_bits → m.whole < end
        → refused 10 m.removed 0 0 ≡ remove_picture m end i
    unfolding remove_picture
    remove_under o k =
        held _ _ _ fits
        (held _ _ _ v.is_started
        (held _ _ _ (fitting-end m end g)
        (no _ _ _ (over_test u e ∙ le-ltb _ _ o) (yes _ _ _ (beyond_test end ∙ lt-ltb _ _ k) refl))))

    pub remove_is : u ≤ m.prev_end_bits + m.params.buffer_size_bits → end ≤ m.whole
        → (x : VbvCbrModel) → x ≡ at_delivered m (next_delivered m i)
        → value
        (record {
          params = x.params;
          whole = x.whole;
          rest = x.rest;
          prev_end_bits = end;
          removed = m.removed + 1;
          started = x.started;
        })
        ≡ remove_picture m end i
    unfolding remove_picture at_delivered after_removal
    remove_is o k x a =
        held _ _ _ fits
        (held _ _ _ v.is_started
        (held _ _ _ (fitting-end m end g)
        (no _ _ _ (over_test u e ∙ le-ltb _ _ o) (no _ _ _ (beyond_test end ∙ le-ltb _ _ k) (rw a)))))

  -- out of range
  pub delay_range : (position : ℕ) → farthest < position → refused 14 0 0 0 ≡ delay_for_picture m position
  unfolding delay_for_picture
  delay_range position h = held _ _ _ fits (held _ _ _ v.is_started (yes _ _ _ (lt-ltb _ _ h) refl))

  pub remove_range : (end : ℕ) (i : RemovalInterval) → end_fits m end ≡ false → refused 14 0 0 0 ≡ remove_picture m end i
  unfolding remove_picture
  remove_range end i h = held _ _ _ fits (held _ _ _ v.is_started (failed _ _ _ h refl))

  -- the bits that it answers
  pub answered : {X : Type 0} (x : X) → value x ≡ of_started m x
  unfolding of_started
  answered x = held _ _ _ fits (held _ _ _ v.is_started refl)

  pub occupancy_is : m.whole - m.prev_end_bits ≡ occupancy m.params m.prev_end_bits (delivered m)
  unfolding occupancy delivered unit
  occupancy_is = sym (floor_beyond m.whole m.rest m.prev_end_bits (180000 * m.params.frn) v.fits.rest_low)

  pub least_at : (i : RemovalInterval) (x : VbvCbrModel) → x ≡ at_delivered m (next_delivered m i)
      → (u : ℕ) → u ≡ (delivered x + (unit x.params - 1)) / unit x.params
      → u - m.params.buffer_size_bits ≡ least_end m.params (next_delivered m i)
  unfolding at_delivered
  least_at i x a u e =
      let k : u ≡ (next_delivered m i + (unit m.params - 1)) / unit m.params =
      e ∙ rw (a, delivered_at_lem m (next_delivered m i)) in
      rw k (sym (least_ceiling m.params (fits-params m fits) (next_delivered m i)))

-- the errors of `ready`, handed on, are what every chain that begins with its tests answers
pub handed_on : {X E : Type 0} (r : Result X E) {e : E} → IsErrAnd r (λ x. x ≡ e) → r ≡ Err e
handed_on (Ok x) h = absurd h
handed_on (Err x) h = ap Err h

pub unready : {X Y : Type 0} (f s : Bool) (e : VbvError) (y : Y) (a : Answer X)
    → model_refusal e ≡ refuse 12 (not f) (refuse 13 (not s) (value y))
    → model_refusal e ≡ refuse 12 (not f) (refuse 13 (not s) a)
unfolding pick
unready true true e y a h = absurd (refused-value h)
unready true false e y a h = let n : model_number e ≡ 13 = ap number h in rw n
unready false s e y a h = let n : model_number e ≡ 12 = ap number h in rw n

module _ (m : VbvCbrModel) (e : VbvError) (h : model_refusal {X = Unit {0}} e ≡ of_started m tt) where
  pub delay_unready : (r : Result ℕ VbvError) → IsErrAnd r (λ x. x ≡ e) → (position : ℕ) → model_answer r ≡ delay_for_picture m position
  unfolding of_started delay_for_picture
  delay_unready r g position = rw (handed_on r g) (unready (model_fits m) m.started e tt _ h)

  pub remove_unready : (r : Result VbvCbrModel VbvRemovalError) → IsErrAnd r (λ x. x ≡ Model e) → (end : ℕ) (i : RemovalInterval) → removal_answer r ≡ remove_picture m end i
  unfolding of_started remove_picture
  remove_unready r g end i = rw (handed_on r g) (unready (model_fits m) m.started e tt _ h)

  pub answer_unready : {X : Type 0} (r : Result X VbvError) → IsErrAnd r (λ x. x ≡ e) → (x : X) → model_answer r ≡ of_started m x
  unfolding of_started
  answer_unready r g x = rw (handed_on r g) (unready (model_fits m) m.started e tt _ h)

-- and a model that is not
module _ (m : VbvCbrModel) where
  pub unfit : model_fits m ≡ false → refused 12 0 0 0 ≡ of_started m (tt {0})
  unfolding of_started
  unfit f = failed _ _ _ f refl

  pub unstarted : model_fits m ≡ true → m.started ≡ false → refused 13 0 0 0 ≡ of_started m (tt {0})
  unfolding of_started
  unstarted f s = held _ _ _ f (failed _ _ _ s refl)

-- an advance
module _ (m : VbvCbrModel) (i : RemovalInterval) where
  pub gain-params : model_in_range m ≡ false → refused 12 0 0 0 ≡ gained m i
  unfolding gained
  gain-params f = failed _ _ _ f refl

  module _ (f : model_in_range m ≡ true) where
    pub gain_order : m.started ≡ false → refused 13 0 0 0 ≡ gained m i
    unfolding gained
    gain_order s = held _ _ _ f (failed _ _ _ s refl)

    pub gain_is : m.started ≡ true → (next : VbvCbrModel) → next ≡ at_delivered m (next_delivered m i) → value next ≡ gained m i
    unfolding gained
    gain_is s next e = held _ _ _ f (held _ _ _ s (rw e))

-- the state one interval on can be rounded up
pub next_fits : (m : VbvCbrModel) (i : RemovalInterval) → ModelFits m → (x : VbvCbrModel) → x ≡ at_delivered m (next_delivered m i)
    → (x.whole < 2 ^ 63) × (x.rest < unit x.params)
unfolding at_delivered
next_fits m i v x e =
    (rw e (omega (arith, next-whole m i v)), rw e (mod-lt (next_delivered m i) (unit_pos m.params (fitting-params m.params v.params_fit))))
