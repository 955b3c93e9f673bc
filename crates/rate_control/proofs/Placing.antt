-- The numbers of a placing: bits delivered, stuffing, end and delay, by Annex C's laws, and the output part that always has room for it.
-- Assumes nothing.
use mathlib.Core.Path.{◌≡◌, refl, sym, ap, ◌∙◌}
use mathlib.Core.Bool.{Bool, true, false, or-true, true≢false}
use mathlib.Core.List.{List, ◌++◌}
use mathlib.Core.Logic.{◌↔◌}
use Prim.Native.Nat.{ℕ, ◌+◌, ◌-◌, ◌*◌, ◌/◌, ◌≤◌, ◌<◌}
use native.Mathlib.Omega.{arith}
use native.Mathlib.Nat.{le_of_mul-le-mul_right}
use lib.ListN.{length, length-append, length-replicate, replicate}
use borrow.Author.Tests.{ltb-false, ltb-true, le-ltb, not-false}
use Rattle.bits.specs.Bits.{pick}
use Rattle.bits.specs.Refusals.{Answer, number}
use Rattle.bits.proofs.Flags.{is_false, pick_elim}
use Rattle.vbv.specs.Annex.{unit, overflows, beyond, least_end, full, first_arrived, arrived, expected}
use Rattle.vbv.specs.Model.{params_fit, delivered, periods}
use Rattle.vbv.specs.Patch.{patched}
use Rattle.vbv.specs.declared.VbvParams.{VbvParams}
use Rattle.vbv.proofs.Fitting.{unit_pos_in}
use Rattle.vbv.proofs.Laws.{over_units, units_over, beyond_units, least_end_lem, delay-most, first_delay_lem, fits-params}
use Rattle.vbv.proofs.Arrival.{first-most, arrived-most}
use Rattle.vbr.proofs.Laws.{no_overflow}
use Rattle.vbv.proofs.After.{patched_size}
use Rattle.rate_control.specs.Answers.{Given}
use Rattle.rate_control.specs.Writer.{writer_fits}
use Rattle.rate_control.specs.Offer.{Offer, position, content, end, first_delay, delivered_at, interval_at, brought_next, delivered_next, stuffing, delay, end_code, placed_bytes, offer}
use Rattle.rate_control.specs.declared.CbrWriter.{CbrWriter}
use Rattle.rate_control.proofs.Fitting.{writer_fits_lem, params_range, model-constant, model-variable}
use Rattle.rate_control.proofs.Chain.{Placing}

module _ (w : CbrWriter) (o : Offer) where
  -- ---- bits delivered

  pub delivered-later : w.model.started ≡ true → delivered_at w o ≡ delivered w.model
  unfolding delivered_at pick
  delivered-later e = rw e

  pub delivered-first : {v : Bool} → w.variable ≡ v → w.model.started ≡ false
      → delivered_at w o ≡ first_arrived v w.model.params (position w o) (first_delay w.model.params)
  unfolding delivered_at pick
  delivered-first v e = rw (e, v)

  pub next_is : delivered_next w o ≡ arrived w.variable w.model.params (end w o) (delivered_at w o) (periods (interval_at w o))
  unfolding delivered_next
  next_is = refl

  -- ---- sizes

  pub placed_size : length (placed_bytes w o) ≡ length o.headers + length o.layer + stuffing w o + length (end_code o.last)
  unfolding placed_bytes
  placed_size =
      let l : List ℕ = patched o.layer (delay w o) in
      let z : List ℕ = replicate (stuffing w o) 0 in
      let a : length (placed_bytes w o) ≡ length o.headers + length (l ++ (z ++ end_code o.last)) = length-append o.headers (l ++ (z ++ end_code o.last)) in
      let b = length-append l (z ++ end_code o.last) in
      let c = length-append z (end_code o.last) in
      omega (arith, patched_size o.layer (delay w o), length-replicate {A = ℕ} (stuffing w o) 0)

  pub end_is : end w o ≡ w.model.prev_end_bits + 8 * length (placed_bytes w o)
  unfolding end content
  end_is = omega (arith, placed_size)

  -- ---- stuffing

  pub stuffing-variable : w.variable ≡ true → stuffing w o ≡ 0
  unfolding stuffing pick
  stuffing-variable e = rw e

  pub stuffing-last : o.last ≡ true → stuffing w o ≡ 0
  unfolding stuffing pick
  stuffing-last e = rw (e, or-true w.variable)

  stuffing_other : w.variable ≡ false → o.last ≡ false
      → stuffing w o ≡ (least_end w.model.params (brought_next w o) - content w o + 7) / 8
  unfolding stuffing pick
  stuffing_other v e = rw (v, e)

  -- at a variable rate the picture ends with its content
  pub end-variable : w.variable ≡ true → end w o ≡ content w o
  unfolding end
  end-variable e = omega (arith, stuffing-variable e)

  module _ (f : writer_fits w ≡ true) (e : o.last ≡ false) where
    abbrev p : VbvParams
    p = w.model.params

    -- units arrived at the next removal, with k zero bytes
    abbrev next : Bool → ℕ → ℕ
    next v k = arrived v p (content w o + 8 * k) (delivered_at w o) (periods (interval_at w o))

    least_at : (v : Bool) → w.variable ≡ v → (k : ℕ) → (stuffing w o ≤ k) ↔ (next v k ≤ (content w o + 8 * k + p.buffer_size_bits) * unit p)
    unfolding brought_next
    least_at true c k = (λ a. arrived-most p (content w o + 8 * k) (delivered_at w o) (periods (interval_at w o)), λ a. omega (arith, stuffing-variable c))
    least_at false c k = (there, back)
      where
        fitted : params_fit p ≡ true
        fitted = fits-params w.model (model-constant w (writer_fits_lem f) c)

        there : stuffing w o ≤ k → brought_next w o ≤ (content w o + 8 * k + p.buffer_size_bits) * unit p
        there a =
            let l : least_end p (brought_next w o) ≤ content w o + 8 * k = omega (arith, stuffing_other c e) in
            over_units p _ _ (least_end_lem p fitted (content w o + 8 * k) (brought_next w o) ∙ le-ltb _ _ l)

        back : brought_next w o ≤ (content w o + 8 * k + p.buffer_size_bits) * unit p → stuffing w o ≤ k
        back a =
            let l : least_end p (brought_next w o) ≤ content w o + 8 * k
            = ltb-false _ _ (sym (least_end_lem p fitted (content w o + 8 * k) (brought_next w o)) ∙ units_over p _ _ a) in
            omega (arith, stuffing_other c e)

    -- so many zero bytes, and no fewer, keep the next removal from overflow
    pub stuffing-least : (k : ℕ) → (stuffing w o ≤ k) ↔ (next w.variable k ≤ (content w o + 8 * k + p.buffer_size_bits) * unit p)
    stuffing-least k = least_at w.variable refl k

    pub next-room : overflows p (end w o) (delivered_next w o) ≡ false
    unfolding end delivered_next
    next-room = units_over p _ _ ((stuffing-least (stuffing w o)).0 (omega arith))

-- ---- 9 and 22 arise at a constant rate alone

pub never-overflows : (w : CbrWriter) (o : Offer) → writer_fits w ≡ true → w.variable ≡ true
    → overflows w.model.params w.model.prev_end_bits (delivered_at w o) ≡ false
never-overflows w o f v = go w.model.started refl
  where
    go : (b : Bool) → w.model.started ≡ b → overflows w.model.params w.model.prev_end_bits (delivered_at w o) ≡ false
    go true e = rw (delivered-later w o e) (no_overflow w.model (model-variable w (writer_fits_lem f) v) e)
    go false e =
        let p = w.model.params in
        rw (delivered-first w o v e) (units_over p w.model.prev_end_bits (full p 0) (omega (arith, first-most p)))

pub overflow-constant : (w : CbrWriter) (o : Offer) → writer_fits w ≡ true
    → overflows w.model.params w.model.prev_end_bits (delivered_at w o) ≡ true → w.variable ≡ false
overflow-constant w o f e = is_false _ (λ v. true≢false (sym e ∙ never-overflows w o f v))

pub edge_constant : (w : CbrWriter) (o : Offer) → beyond w.model.params (content w o) (delivered_at w o) ≡ false
    → beyond w.model.params (end w o) (delivered_at w o) ≡ true → w.variable ≡ false
edge_constant w o c e = is_false _ (λ v. true≢false (sym e ∙ rw (end-variable w o v) c))

-- ---- the delay

pub delay_is : (w : CbrWriter) (o : Offer) {v : Bool} → w.variable ≡ v → delay w o ≡ expected v w.model.params (position w o) (delivered_at w o)
unfolding delay
delay_is w o v = ap (λ (x : Bool). expected x w.model.params (position w o) (delivered_at w o)) v

module _ (w : CbrWriter) (o : Offer) (g : Placing w o) where
  pub params_fitted : w.variable ≡ false → params_fit w.model.params ≡ true
  params_fitted v = fits-params w.model (model-constant w (writer_fits_lem g.fitted) v)

  pub delay-low : w.variable ≡ false → delay w o ≤ 65534
  unfolding position
  delay-low v =
      rw (delay_is w o v)
      (delay-most w.model.params (params_fitted v) w.model.prev_end_bits (position w o) (delivered_at w o) g.no_overflow (omega arith))

  -- at either rate it has 16 bits
  pub delay_word : delay w o < 65536
  delay_word = go w.variable refl
    where
      go : (v : Bool) → w.variable ≡ v → delay w o < 65536
      go true v = omega (arith, delay_is w o v)
      go false v = omega (arith, delay-low v)

  pub first_told : w.variable ≡ false → w.model.started ≡ false → delay w o ≡ first_delay w.model.params
  first_told v e =
      rw (delay_is w o v, delivered-first w o v e)
      (first_delay_lem w.model.params (params_fitted v) (position w o) (first_delay w.model.params))

  -- what has arrived at the first removal is what the first position and delay say
  pub delivered_told : w.model.started ≡ false → delivered_at w o ≡ first_arrived w.variable w.model.params (position w o) (delay w o)
  delivered_told e = go w.variable refl
    where
      go : (v : Bool) → w.variable ≡ v → delivered_at w o ≡ first_arrived v w.model.params (position w o) (delay w o)
      go true v = delivered-first w o v e
      go false v = rw (first_told v e) (delivered-first w o v e)

-- ---- the output part

-- what is placed lies between the previous end and the bits delivered, and these are at most a buffer apart
placed-most : (w : CbrWriter) (o : Offer) → writer_fits w ≡ true → overflows w.model.params w.model.prev_end_bits (delivered_at w o) ≡ false
    → beyond w.model.params (end w o) (delivered_at w o) ≡ false → 8 * length (placed_bytes w o) ≤ w.model.params.buffer_size_bits
placed-most w o f a b =
    let p : VbvParams = w.model.params in
    let h = over_units p _ _ a in
    let g = beyond_units p _ _ b in
    let k : end w o * unit p ≤ (w.model.prev_end_bits + p.buffer_size_bits) * unit p = omega arith in
    let l = le_of_mul-le-mul_right k (unit_pos_in p (params_range w (writer_fits_lem f))) in
    omega (arith, end_is w o)

-- an output part of the buffer's size is never too short
pub room-enough : (w : CbrWriter) (o : Offer) → w.model.params.buffer_size_bits ≤ 8 * length o.out → number (offer w o) ≡ 19 → ⊥
unfolding offer
room-enough w o l =
    pick_elim P _ (λ e h. omega (arith, h)) λ h12.
    pick_elim P _ (λ e h. omega (arith, h)) λ h17.
    pick_elim P _ (λ e h. omega (arith, h)) λ h18.
    pick_elim P _ (λ e h. omega (arith, h)) λ h20.
    pick_elim P _ (λ e h. omega (arith, h)) λ h14.
    pick_elim P _ (λ e h. omega (arith, h)) λ h7.
    pick_elim P _ (λ e h. omega (arith, h)) λ h9.
    pick_elim P _ (λ e. pick_elim P _ (λ f h. omega (arith, h)) (λ f h. omega (arith, h))) λ size.
    pick_elim P _ (λ e h. omega (arith, h)) λ h22.
    pick_elim P _ (λ e h. omega (arith, l, ltb-true (length o.out) (length (placed_bytes w o)) e, placed-most w o (not-false _ h12) h9 h22)) λ h19.
    (λ h. omega (arith, h))
  where
    P : Answer Given → Type 0
    P a = number a ≡ 19 → ⊥
