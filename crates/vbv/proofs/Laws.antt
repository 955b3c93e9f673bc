-- The laws of the model that the crates above cite: of Annex C's quantities, and of each step that gave a model.
-- Assumes nothing.
use mathlib.Core.Path.{◌≡◌, refl, ap, sym, ◌∙◌}
use mathlib.Core.Bool.{true, false}
use mathlib.Core.Logic.{⊎_elim}
use Prim.Native.Nat.{ℕ, ◌+◌, ◌-◌, ◌*◌, ◌/◌, ◌≤◌, ◌<◌}
use native.Mathlib.Omega.{arith}
use native.Mathlib.Nat.{mod-lt, div-add-mod', mul-le-mul, le_of_mul-le-mul_right, div-lt_iff_lt-mul, le-div_iff_mul-le}
use lib.Arith.{digits_div}
use lib.Dec.{ltb}
use borrow.Author.Tests.{ltb-true, ltb-false, le-ltb}
use Rattle.bits.specs.Refusals.{value}
use Rattle.bits.proofs.Following.{refused-value}
use Rattle.bits.proofs.Appending.{lt_or_le}
use Rattle.vbv.specs.declared.RemovalInterval.{RemovalInterval}
use Rattle.vbv.specs.declared.VbvParams.{VbvParams}
use Rattle.vbv.specs.declared.VbvCbrModel.{VbvCbrModel}
use Rattle.vbv.specs.Annex.{unit, first_delivered, gain, overflows, beyond, expected_delay, occupancy, greatest_end, least_end}
use Rattle.vbv.specs.Model.{farthest, most_delivered, params_in_range, params_fit, delivered, model_fits, model_in_range, at_delivered, after_removal, periods, next_delivered, new_model, start_model, delay_for_picture, end_fits, remove_picture, of_started, max_end_bits, min_end_bits, occupancy_before_removal}
use Rattle.vbv.specs.Steps.{ModelFits, EndFits}
use Rattle.vbv.proofs.Arith.{same_lt, below_floor, floor_beyond, above_ceiling, ceiling_beyond, start_div, next_div, ticks_most, next-most}
use Rattle.bits.proofs.Flags.{no, held, was_no, was_held}
use Rattle.vbv.proofs.Fitting.{params_fit_lem, model_fits_lem, range_fits, end_fits_lem, fitting-params, fitting-model, fit_in, unit_pos, unit_pos_in, delivered-whole, periods-most}

-- the tests as orders of units, both ways
module _ (p : VbvParams) where
  pub over_units : (previous d : ℕ) → overflows p previous d ≡ false → d ≤ (previous + p.buffer_size_bits) * unit p
  unfolding overflows
  over_units previous d h = ltb-false _ _ h

  pub units_over : (previous d : ℕ) → d ≤ (previous + p.buffer_size_bits) * unit p → overflows p previous d ≡ false
  unfolding overflows
  units_over previous d h = le-ltb _ _ h

  pub over-full : (previous d : ℕ) → overflows p previous d ≡ true → (previous + p.buffer_size_bits) * unit p < d
  unfolding overflows
  over-full previous d h = ltb-true _ _ h

  pub beyond_units : (end d : ℕ) → beyond p end d ≡ false → end * unit p ≤ d
  unfolding beyond
  beyond_units end d h = ltb-false _ _ h

  pub beyond-there : (end d : ℕ) → beyond p end d ≡ true → d < end * unit p
  unfolding beyond
  beyond-there end d h = ltb-true _ _ h

  pub units_beyond : (end d : ℕ) → end * unit p ≤ d → beyond p end d ≡ false
  unfolding beyond
  units_beyond end d h = le-ltb _ _ h

  -- the first removal's position is not
  pub first-in_time : (position delay : ℕ) → beyond p position (first_delivered p position delay) ≡ false
  unfolding first_delivered
  first-in_time position delay = units_beyond position (first_delivered p position delay) (omega arith)

-- whatever the ratio: the greatest end; the buffer, at most full before a removal, and all of the picture in it
module _ (p : VbvParams) (f : params_in_range p ≡ true) where
  pub beyond-greatest_in : (end d : ℕ) → beyond p end d ≡ ltb (greatest_end p d) end
  unfolding beyond greatest_end
  beyond-greatest_in end d = below_floor d end (unit p) (unit_pos_in p f)

  pub occupancy-most_in : (previous d : ℕ) → overflows p previous d ≡ false → occupancy p previous d ≤ p.buffer_size_bits
  unfolding occupancy
  occupancy-most_in previous d h =
      let u = unit_pos_in p f in
      let l = over_units p previous d h in
      let q = (div-lt_iff_lt-mul {k = unit p} {x = d - previous * unit p} {y = p.buffer_size_bits + 1} u).1 (omega arith) in
      omega arith

  pub occupancy-least_in : (previous end d : ℕ) → beyond p end d ≡ false → end - previous ≤ occupancy p previous d
  unfolding occupancy
  occupancy-least_in previous end d h =
      let l = beyond_units p end d h in
      ⊎_elim
      (λ (g : end < previous). omega arith)
      (λ (g : previous ≤ end).
      let e : (end - previous + previous) * unit p ≡ end * unit p = ap (λ (x : ℕ). x * unit p) (omega arith) in
      (le-div_iff_mul-le {k = unit p} {x = end - previous} {y = d - previous * unit p} (unit_pos_in p f)).1 (omega arith))
      (lt_or_le end previous)

-- the ends: a test of either kind is a comparison with the greatest or the least end
module _ (p : VbvParams) (f : params_fit p ≡ true) where
  pub beyond-greatest : (end d : ℕ) → beyond p end d ≡ ltb (greatest_end p d) end
  beyond-greatest = beyond-greatest_in p (fit_in p f)

  pub overflow_ceiling : (previous d : ℕ) → overflows p previous d ≡ ltb (previous + p.buffer_size_bits) ((d + (unit p - 1)) / unit p)
  unfolding overflows
  overflow_ceiling previous d = above_ceiling (previous + p.buffer_size_bits) d (unit p) (unit_pos p f)

  pub least_ceiling : (d : ℕ) → least_end p d ≡ (d + (unit p - 1)) / unit p - p.buffer_size_bits
  unfolding least_end
  least_ceiling d = ceiling_beyond d p.buffer_size_bits (unit p) (unit_pos p f)

  pub least_end_lem : (end d : ℕ) → overflows p end d ≡ ltb end (least_end p d)
  least_end_lem end d =
      overflow_ceiling end d
      ∙ same_lt _ _ _ _
      (λ (h : end + p.buffer_size_bits < (d + (unit p - 1)) / unit p). rw (least_ceiling d) (omega arith))
      (λ (h : end < least_end p d). let g = rw (least_ceiling d) at (h) in omega arith)

  -- the buffer: at most full before a removal, and all of the picture is in it
  pub occupancy-most : (previous d : ℕ) → overflows p previous d ≡ false → occupancy p previous d ≤ p.buffer_size_bits
  occupancy-most = occupancy-most_in p (fit_in p f)

  pub occupancy-least : (previous end d : ℕ) → beyond p end d ≡ false → end - previous ≤ occupancy p previous d
  occupancy-least = occupancy-least_in p (fit_in p f)

  -- the delay: what a buffer that does not overflow holds can be said, and the first delay is the coded one
  pub delay-most : (previous position d : ℕ) → overflows p previous d ≡ false → previous ≤ position → expected_delay p position d ≤ 65534
  unfolding expected_delay unit
  delay-most previous position d h g =
      let a = params_fit_lem f in
      let l = over_units p previous d h in
      let k : 1 ≤ p.frn * p.bit_rate = mul-le-mul {n₁ = 1} {m₁ = 1} a.frn_low a.rate_low in
      let b = mul-le-mul {n₁ = 90000 * p.buffer_size_bits} {m₁ = p.frn} {n₂ = 65534 * p.bit_rate} {m₂ = p.frn} a.full (omega arith) in
      let c = mul-le-mul {n₁ = previous} {m₁ = p.frn} {n₂ = position} {m₂ = p.frn} g (omega arith) in
      let q =
      (div-lt_iff_lt-mul {k = 2 * p.frn * p.bit_rate} {x = d - position * (180000 * p.frn) + p.frn * p.bit_rate} {y = 65535}
      (omega arith)).1 (omega arith) in
      omega arith

  pub first_delay_lem : (position delay : ℕ) → expected_delay p position (first_delivered p position delay) ≡ delay
  unfolding expected_delay first_delivered
  first_delay_lem position delay =
      let a = params_fit_lem f in
      let k : 1 ≤ p.frn * p.bit_rate = mul-le-mul {n₁ = 1} {m₁ = 1} a.frn_low a.rate_low in
      let e : position * unit p + delay * p.bit_rate * 2 * p.frn - position * unit p + p.frn * p.bit_rate
      ≡ delay * (2 * p.frn * p.bit_rate) + p.frn * p.bit_rate = omega arith in
      rw e (digits_div delay {m = 2 * p.frn * p.bit_rate} {r = p.frn * p.bit_rate} (omega arith))

-- a state that fits has parameters that fit
pub fits-params : (m : VbvCbrModel) → model_fits m ≡ true → params_fit m.params ≡ true
fits-params m f = fitting-params m.params (model_fits_lem f).params_fit

-- the whole bits of a state in its ranges, whatever the ratio
module _ (m : VbvCbrModel) (f : model_in_range m ≡ true) where
  pub beyond-whole : (end : ℕ) → beyond m.params end (delivered m) ≡ ltb m.whole end
  unfolding greatest_end
  beyond-whole end =
      beyond-greatest_in m.params (range_fits f).params_in end (delivered m)
      ∙ ap (λ (x : ℕ). ltb x end) (delivered-whole m (range_fits f).rest_low)

  pub occupancy-whole : occupancy m.params m.prev_end_bits (delivered m) ≡ m.whole - m.prev_end_bits
  unfolding occupancy delivered
  occupancy-whole = floor_beyond m.whole m.rest m.prev_end_bits (unit m.params) (range_fits f).rest_low

-- what the state is said to have delivered it has
pub delivered_at_lem : (m : VbvCbrModel) (d : ℕ) → delivered (at_delivered m d) ≡ d
unfolding delivered at_delivered
delivered_at_lem m d = div-add-mod' d (unit m.params)

pub delivered-after : (m : VbvCbrModel) (end d : ℕ) → delivered (after_removal m end d) ≡ d
unfolding delivered after_removal
delivered-after m end d = div-add-mod' d (unit m.params)

-- whole bits after a start and after an advance
start-whole : (m : VbvCbrModel) (delay position : ℕ) → ModelFits m → delay < 65536 → position ≤ farthest
    → first_delivered m.params position delay / unit m.params ≤ most_delivered
unfolding first_delivered unit
start-whole m delay position f l h =
    let b = ticks_most delay m.params.bit_rate l (omega arith) in
    rw (start_div position (delay * m.params.bit_rate) m.params.frn (omega arith)) (omega arith)

pub next-whole : (m : VbvCbrModel) (i : RemovalInterval) → ModelFits m → next_delivered m i / unit m.params ≤ m.whole + 82545921778406400
unfolding next_delivered delivered gain unit
next-whole m i f =
    let p = m.params in
    rw (next_div m.whole m.rest p.bit_rate p.frd (periods i) p.frn (omega arith))
    (next-most m.whole m.rest p.bit_rate p.frd (periods i) p.frn
    (omega arith) (omega arith) (omega arith) (omega arith) (omega arith) (omega arith) (periods-most i))

-- validity is kept
start-stays : (m : VbvCbrModel) (delay position : ℕ) → ModelFits m → delay < 65536 → position ≤ farthest
    → ModelFits (at_delivered m (first_delivered m.params position delay))
unfolding at_delivered unit
start-stays m delay position v l h =
    record {
      params_fit = v.params_fit;
      whole_high = start-whole m delay position v l h;
      rest_low = mod-lt (first_delivered m.params position delay) (omega arith);
      end_high = omega arith;
      removed_high = omega arith;
    }

removal-stays : (m : VbvCbrModel) (end : ℕ) (i : RemovalInterval) → ModelFits m → EndFits m end
    → overflows m.params m.prev_end_bits (delivered m) ≡ false → ModelFits (after_removal m end (next_delivered m i))
unfolding after_removal delivered unit
removal-stays m end i v g o =
    let u = 180000 * m.params.frn in
    let d = over_units m.params m.prev_end_bits (delivered m) o in
    let w : m.whole ≤ m.prev_end_bits + m.params.buffer_size_bits = le_of_mul-le-mul_right {k = u} (omega arith) (omega arith) in
    record {
      params_fit = v.params_fit;
      whole_high = omega (arith, next-whole m i v);
      rest_low = mod-lt (next_delivered m i) (omega arith);
      end_high = omega arith;
      removed_high = omega arith;
    }

-- a model made of parameters
pub record Made (p : VbvParams) (m : VbvCbrModel) : Type 0 where
  pub params_fit : params_fit p ≡ true
  pub params_kept : m.params ≡ p
  pub at_zero : m.prev_end_bits ≡ 0
  pub none_removed : m.removed ≡ 0
  pub unstarted : m.started ≡ false
  pub fits : model_fits m ≡ true

pub model-made : (p : VbvParams) (m : VbvCbrModel) → new_model p ≡ value m → Made p m
unfolding new_model
model-made p m h =
    let a = was_held (params_fit p) _ _ refused-value h in
    let e : m ≡ record { params = p; whole = 0; rest = 0; prev_end_bits = 0; removed = 0; started = false } = cc a.1 in
    rw e
    (record {
      params_fit = a.0;
      params_kept = refl;
      at_zero = refl;
      none_removed = refl;
      unstarted = refl;
      fits =
          fitting-model _
          (record { params_fit = params_fit_lem a.0; whole_high = omega arith; rest_low = omega (arith, params_fit_lem a.0); end_high = omega arith; removed_high = omega arith });
    })

-- a started model
pub record Started (m : VbvCbrModel) (delay position : ℕ) (next : VbvCbrModel) : Type 0 where
  pub fitted : model_fits m ≡ true
  pub unstarted : m.started ≡ false
  pub position_far : position ≤ farthest
  pub next_is : next ≡ at_delivered m (first_delivered m.params position delay)
  pub delivered_is : delivered next ≡ first_delivered m.params position delay
  pub params_kept : next.params ≡ m.params
  pub end_kept : next.prev_end_bits ≡ m.prev_end_bits
  pub count_kept : next.removed ≡ m.removed
  pub is_started : next.started ≡ true
  pub fits : delay < 65536 → model_fits next ≡ true

pub started : (m : VbvCbrModel) (delay position : ℕ) (next : VbvCbrModel) → start_model m delay position ≡ value next
    → Started m delay position next
unfolding start_model at_delivered
started m delay position next h =
    let a = was_held (model_fits m) _ _ refused-value h in
    let b = was_no _ _ _ refused-value a.1 in
    let c = was_no _ _ _ refused-value b.1 in
    let far : position ≤ farthest = ltb-false _ _ c.0 in
    let e : next ≡ at_delivered m (first_delivered m.params position delay) = cc c.1 in
    rw e
    (record {
      fitted = a.0;
      unstarted = b.0;
      position_far = far;
      next_is = refl;
      delivered_is = delivered_at_lem m (first_delivered m.params position delay);
      params_kept = refl;
      end_kept = refl;
      count_kept = refl;
      is_started = refl;
      fits = λ l. fitting-model _ (start-stays m delay position (model_fits_lem a.0) l far);
    })

pub model-starts : (m : VbvCbrModel) (delay position : ℕ) → model_fits m ≡ true → m.started ≡ false → position ≤ farthest
    → start_model m delay position ≡ value (at_delivered m (first_delivered m.params position delay))
unfolding start_model
model-starts m delay position f s h = sym (held _ _ _ f (no _ _ _ s (no _ _ _ (le-ltb _ _ h) refl)))

-- a delay told
pub delays : (m : VbvCbrModel) (position : ℕ) → model_fits m ≡ true → m.started ≡ true → position ≤ farthest
    → beyond m.params position (delivered m) ≡ false → expected_delay m.params position (delivered m) ≤ 65534
    → delay_for_picture m position ≡ value (expected_delay m.params position (delivered m))
unfolding delay_for_picture
delays m position f s h e l =
    sym (held _ _ _ f (held _ _ _ s (no _ _ _ (le-ltb _ _ h) (no _ _ _ e (no _ _ _ (le-ltb _ _ l) refl)))))

-- a picture removed
pub record Removed (m : VbvCbrModel) (end : ℕ) (i : RemovalInterval) (next : VbvCbrModel) : Type 0 where
  pub fitted : model_fits m ≡ true
  pub was_started : m.started ≡ true
  pub end_fitted : EndFits m end
  pub no_overflow : overflows m.params m.prev_end_bits (delivered m) ≡ false
  pub no_underflow : beyond m.params end (delivered m) ≡ false
  pub next_is : next ≡ after_removal m end (next_delivered m i)
  pub delivered_is : delivered next ≡ next_delivered m i
  pub params_kept : next.params ≡ m.params
  pub end_is : next.prev_end_bits ≡ end
  pub count_is : next.removed ≡ m.removed + 1
  pub is_started : next.started ≡ true
  pub fits : model_fits next ≡ true

pub picture-removed : (m : VbvCbrModel) (end : ℕ) (i : RemovalInterval) (next : VbvCbrModel) → remove_picture m end i ≡ value next
    → Removed m end i next
unfolding remove_picture after_removal
picture-removed m end i next h =
    let a = was_held (model_fits m) _ _ refused-value h in
    let b = was_held m.started _ _ refused-value a.1 in
    let c = was_held (end_fits m end) _ _ refused-value b.1 in
    let o = was_no _ _ _ refused-value c.1 in
    let u = was_no _ _ _ refused-value o.1 in
    let e : next ≡ after_removal m end (next_delivered m i) = cc u.1 in
    rw e
    (record {
      fitted = a.0;
      was_started = b.0;
      end_fitted = end_fits_lem c.0;
      no_overflow = o.0;
      no_underflow = u.0;
      next_is = refl;
      delivered_is = delivered-after m end (next_delivered m i);
      params_kept = refl;
      end_is = refl;
      count_is = refl;
      is_started = refl;
      fits = fitting-model _ (removal-stays m end i (model_fits_lem a.0) (end_fits_lem c.0) o.0);
    })

pub removes : (m : VbvCbrModel) (end : ℕ) (i : RemovalInterval) → model_fits m ≡ true → m.started ≡ true → end_fits m end ≡ true
    → overflows m.params m.prev_end_bits (delivered m) ≡ false → beyond m.params end (delivered m) ≡ false
    → remove_picture m end i ≡ value (after_removal m end (next_delivered m i))
unfolding remove_picture
removes m end i f s g o u = sym (held _ _ _ f (held _ _ _ s (held _ _ _ g (no _ _ _ o (no _ _ _ u refl)))))

-- the bits that a started model tells
module _ (m : VbvCbrModel) (f : model_fits m ≡ true) (s : m.started ≡ true) where
  told : (b : ℕ) → of_started m b ≡ value b
  unfolding of_started
  told b = sym (held _ _ _ f (held _ _ _ s refl))

  pub max_end : max_end_bits m ≡ value (greatest_end m.params (delivered m))
  unfolding max_end_bits
  max_end = told _

  pub min_end : (i : RemovalInterval) → min_end_bits m i ≡ value (least_end m.params (next_delivered m i))
  unfolding min_end_bits
  min_end i = told _

  pub occupancy_told : occupancy_before_removal m ≡ value (occupancy m.params m.prev_end_bits (delivered m))
  unfolding occupancy_before_removal
  occupancy_told = told _
