-- The ways through each function's tests, in the direction of its promise.
-- Assumes nothing.
use mathlib.Core.Path.{◌≡◌, refl, ap, ◌∙◌}
use mathlib.Core.Bool.{Bool, true, false, not, ◌&&◌, ◌||◌}
use Prim.Native.Nat.{ℕ, ◌+◌, ◌-◌, ◌*◌, ◌^◌, ◌≤◌, ◌<◌, min}
use native.Mathlib.Omega.{arith}
use native.Mathlib.Nat.{mul-le-mul}
use lib.Arith.{digits_div, digits_mod}
use lib.Dec.{ltb, eqb}
use borrow.Author.Tests.{ltb-true, ltb-false, eqb-true, eqb-false, lt-ltb, le-ltb}
use Rattle.std.specs.Prelude.{Result, IsErrAnd}
use Rattle.bits.specs.Bits.{pick}
use Rattle.bits.specs.Refusals.{Answer, value, refused}
use Rattle.bits.proofs.Flags.{yes, no, held, failed, is_true}
use Rattle.bits.proofs.Following.{refused-value, same_value}
use Rattle.vbv.specs.Annex.{unit, overflows, full, arrived}
use Rattle.vbv.specs.Model.{delivered, model_in_range, at_delivered, after_removal, periods, next_delivered, end_fits, gained}
use Rattle.vbv.specs.Answers.{model_refusal, model_answer, removal_answer}
use Rattle.vbv.specs.Steps.{EndFits}
use Rattle.vbv.specs.declared.RemovalInterval.{RemovalInterval}
use Rattle.vbv.specs.declared.VbvCbrModel.{VbvCbrModel}
use Rattle.vbv.specs.declared.VbvError.{VbvError}
use Rattle.vbv.specs.declared.VbvRemovalError.{VbvRemovalError}
use Rattle.vbv.specs.declared.VbvRemovalError.TheVariants.{Model}
use Rattle.vbv.proofs.Fitting.{in_range, unit_pos_in, range_fits, fitting-end, delivered_parts}
use Rattle.vbv.proofs.Laws.{over_units, units_over, beyond-whole, occupancy-whole}
use Rattle.vbv.proofs.Arrival.{full_is}
use Rattle.vbv.proofs.Told.{next_delivered_is, gains}
use Rattle.vbv.proofs.Ways.{handed_on, unready}
use Rattle.vbv.proofs.After.{model-with, at_rest, after_same}
use Rattle.vbv.proofs.Cases.{after_is, at_is}
use Rattle.vbr.specs.Steps.{Ready, Cappable}
use Rattle.vbr.specs.Variable.{variable_fits, of_filled, start_variable, remove_variable, occupancy_variable}
use Rattle.vbr.proofs.Fitting.{fits_range, variable_fits_lem}
use Rattle.vbr.proofs.Laws.{variable-starts, variable-occupancy_told}

-- at most full: fewer whole bits, or as many and no rest
abbrev most : VbvCbrModel → ℕ
most m = m.prev_end_bits + m.params.buffer_size_bits

pub full_test : (m : VbvCbrModel) → model_in_range m ≡ true
    → (ltb m.whole (most m) || (eqb m.whole (most m) && eqb m.rest 0)) ≡ not (overflows m.params m.prev_end_bits (delivered m))
full_test m h = go (ltb m.whole (most m)) refl (eqb m.whole (most m)) refl (eqb m.rest 0) refl
  where
    under : delivered m ≤ most m * unit m.params → overflows m.params m.prev_end_bits (delivered m) ≡ false
    under l = units_over m.params m.prev_end_bits (delivered m) l

    over : most m * unit m.params < delivered m → overflows m.params m.prev_end_bits (delivered m) ≡ true
    over l = is_true _ (λ o. omega (arith, l, over_units m.params m.prev_end_bits (delivered m) o))

    go : (a : Bool) → ltb m.whole (most m) ≡ a → (b : Bool) → eqb m.whole (most m) ≡ b → (c : Bool) → eqb m.rest 0 ≡ c
        → (a || (b && c)) ≡ not (overflows m.params m.prev_end_bits (delivered m))
    go true e b f c g =
        let z = mul-le-mul {n₁ = m.whole + 1} {m₁ = unit m.params} {n₂ = most m} {m₂ = unit m.params} (omega (arith, ltb-true m.whole (most m) e)) (omega arith) in
        rw (under (omega (arith, delivered_parts m, (range_fits h).rest_low)))
    go false e true f true g =
        let z : m.whole * unit m.params ≡ most m * unit m.params = ap (λ (x : ℕ). x * unit m.params) (eqb-true _ _ f) in
        rw (under (omega (arith, delivered_parts m, eqb-true m.rest 0 g)))
    go false e true f false g =
        let z : m.whole * unit m.params ≡ most m * unit m.params = ap (λ (x : ℕ). x * unit m.params) (eqb-true _ _ f) in
        rw (over (omega (arith, delivered_parts m, eqb-false m.rest 0 g)))
    go false e false f c g =
        let z = mul-le-mul {n₁ = most m + 1} {m₁ = unit m.params} {n₂ = m.whole} {m₂ = unit m.params} (omega (arith, ltb-false m.whole (most m) e, eqb-false m.whole (most m) f)) (omega arith) in
        rw (over (omega (arith, delivered_parts m, (range_fits h).rest_low)))

-- which fits in 64 bits
pub most-fits : (m : VbvCbrModel) → model_in_range m ≡ true → m.prev_end_bits + m.params.buffer_size_bits < 2 ^ 64
most-fits m h = omega (arith, (range_fits h).end_high, (in_range m.params (range_fits h).params_in).1)

-- the errors of `ready`, handed on
module _ (m : VbvCbrModel) (e : VbvError) (h : model_refusal {X = Unit {0}} e ≡ of_filled m tt) where
  pub remove_unready : (r : Result VbvCbrModel VbvRemovalError) → IsErrAnd r (λ x. x ≡ Model e) → (end : ℕ) (i : RemovalInterval) → removal_answer r ≡ remove_variable m end i
  unfolding of_filled remove_variable
  remove_unready r g end i = rw (handed_on r g) (unready (variable_fits m) m.started e tt _ h)

  pub occupancy_unready : (r : Result ℕ VbvError) → IsErrAnd r (λ x. x ≡ e) → model_answer r ≡ occupancy_variable m
  unfolding of_filled occupancy_variable
  occupancy_unready r g = rw (handed_on r g) (unready (variable_fits m) m.started e tt _ h)

-- out of its ranges, and not started
module _ (m : VbvCbrModel) where
  pub unfit : variable_fits m ≡ false → refused 12 0 0 0 ≡ of_filled m (tt {0})
  unfolding of_filled
  unfit f = failed _ _ _ f refl

  pub unstarted : variable_fits m ≡ true → m.started ≡ false → refused 13 0 0 0 ≡ of_filled m (tt {0})
  unfolding of_filled
  unstarted f s = held _ _ _ f (failed _ _ _ s refl)

-- a model that is ready
pub answered : {m : VbvCbrModel} → Ready m → {X : Type 0} (x : X) → value x ≡ of_filled m x
unfolding of_filled
answered v x = held _ _ _ v.fits (held _ _ _ v.is_started refl)

pub remove_range : {m : VbvCbrModel} → Ready m → (end : ℕ) (i : RemovalInterval) → end_fits m end ≡ false → refused 14 0 0 0 ≡ remove_variable m end i
unfolding remove_variable
remove_range v end i h = held _ _ _ v.fits (held _ _ _ v.is_started (failed _ _ _ h refl))

-- a removal: not all there
module _ {m : VbvCbrModel} (v : Ready m) (end : ℕ) (g : EndFits m end) (i : RemovalInterval) where
  f : variable_fits m ≡ true
  f = v.fits

  s : m.started ≡ true
  s = v.is_started

  pub remove_under : m.whole < end → refused 10 m.removed 0 0 ≡ remove_variable m end i
  unfolding remove_variable
  remove_under k =
      held _ _ _ f (held _ _ _ s (held _ _ _ (fitting-end m end g) (yes _ _ _ (beyond-whole m (fits_range m f) end ∙ lt-ltb _ _ k) refl)))

  -- taken out, with what the interval brings and no more than fills the buffer
  module _ (next : VbvCbrModel) (e : value next ≡ gained m i) where
    next_is : next ≡ at_delivered m (next_delivered m i)
    next_is = same_value (e ∙ gains m i (fits_range m f) s)

    pub cappable : Cappable next end
    cappable =
        let w = model-with m (next_delivered m i) in
        let p = (variable_fits_lem f).params_in in
        rw next_is
        (record {
          rest_low = rw w.params_kept (at_rest m (next_delivered m i) (unit_pos_in m.params p));
          size_high = rw w.params_kept (in_range m.params p).1;
          end_far = g.end_far;
          count = rw w.count_kept g.count;
        })

    pub remove_is : end ≤ m.whole → (x : VbvCbrModel) → x ≡ after_removal next end (min (delivered next) (full next.params end))
        → value x ≡ remove_variable m end i
    unfolding remove_variable
    remove_is k x a =
        let w = model-with m (next_delivered m i) in
        let b : x ≡ after_removal m end (arrived true m.params end (delivered m) (periods i)) =
        a
        ∙ ap (λ (y : VbvCbrModel). after_removal y end (min (delivered y) (full y.params end))) next_is
        ∙ after_same m (at_delivered m (next_delivered m i)) end _ w.params_kept w.count_kept
        ∙ rw (w.delivered_is, w.params_kept, next_delivered_is m i) in
        held _ _ _ f (held _ _ _ s (held _ _ _ (fitting-end m end g) (no _ _ _ (beyond-whole m (fits_range m f) end ∙ le-ltb _ _ k) (rw b))))

  -- a model that fits gains
  pub no_refusal : (x : VbvError) (a : Answer VbvCbrModel) → model_refusal x ≡ gained m i → a ≡ remove_variable m end i
  no_refusal x a e = absurd (refused-value (e ∙ gains m i (fits_range m f) s))

-- no more than fills the buffer
module _ (m : VbvCbrModel) (end : ℕ) (v : Cappable m end) where
  below_is : m.whole < end + m.params.buffer_size_bits → min (delivered m) (full m.params end) ≡ m.whole * unit m.params + m.rest
  below_is l =
      let z = mul-le-mul {n₁ = m.whole + 1} {m₁ = unit m.params} {n₂ = end + m.params.buffer_size_bits} {m₂ = unit m.params} (omega arith) (omega arith) in
      omega (arith, delivered_parts m, full_is m.params end)

  above_is : end + m.params.buffer_size_bits ≤ m.whole → min (delivered m) (full m.params end) ≡ (end + m.params.buffer_size_bits) * unit m.params + 0
  above_is l =
      let z = mul-le-mul {n₁ = end + m.params.buffer_size_bits} {m₁ = unit m.params} {n₂ = m.whole} {m₂ = unit m.params} (omega arith) (omega arith) in
      omega (arith, delivered_parts m, full_is m.params end)

  pub capped_is : (w r : ℕ)
      → w ≡ min m.whole (end + m.params.buffer_size_bits)
      → r ≡ pick (ltb m.whole (end + m.params.buffer_size_bits)) m.rest 0
      → ◌≡◌ {A = VbvCbrModel}
      (record { params = m.params; whole = w; rest = r; prev_end_bits = end; removed = m.removed + 1; started = true })
      (after_removal m end (min (delivered m) (full m.params end)))
  unfolding pick
  capped_is w r x y = go (ltb m.whole (end + m.params.buffer_size_bits)) refl y
    where
      go : (t : Bool) → ltb m.whole (end + m.params.buffer_size_bits) ≡ t → r ≡ pick t m.rest 0
          → ◌≡◌ {A = VbvCbrModel}
          (record { params = m.params; whole = w; rest = r; prev_end_bits = end; removed = m.removed + 1; started = true })
          (after_removal m end (min (delivered m) (full m.params end)))
      go true e y =
          let l = ltb-true _ _ e in
          let z : w ≡ m.whole = omega (arith, x, l) in
          rw (after_is m end _, below_is l, z, y, digits_div m.whole v.rest_low, digits_mod m.whole v.rest_low)
      go false e y =
          let l = ltb-false _ _ e in
          let z : w ≡ end + m.params.buffer_size_bits = omega (arith, x, l) in
          let u : 0 < unit m.params = omega (arith, v.rest_low) in
          rw (after_is m end _, above_is l, z, y, digits_div (end + m.params.buffer_size_bits) u, digits_mod (end + m.params.buffer_size_bits) u)

-- a full buffer at the start
pub start_is : (m : VbvCbrModel) → variable_fits m ≡ true → m.started ≡ false
    → ◌≡◌ {A = Answer VbvCbrModel}
    (value
    (record {
      params = m.params;
      whole = m.params.buffer_size_bits;
      rest = 0;
      prev_end_bits = m.prev_end_bits;
      removed = m.removed;
      started = true;
    }))
    (start_variable m)
start_is m f s =
    let u = unit_pos_in m.params (variable_fits_lem f).params_in in
    let e : full m.params 0 ≡ m.params.buffer_size_bits * unit m.params + 0 = omega (arith, full_is m.params 0) in
    rw (variable-starts m f s, at_is m (full m.params 0), e, digits_div m.params.buffer_size_bits u, digits_mod m.params.buffer_size_bits u)

-- whole bits in the buffer
pub occupancy_is : {m : VbvCbrModel} → Ready m → (b : ℕ) → b ≡ m.whole - m.prev_end_bits → value b ≡ occupancy_variable m
occupancy_is {m} v b e = rw (variable-occupancy_told m v.fits v.is_started, occupancy-whole m (fits_range m v.fits), e)
