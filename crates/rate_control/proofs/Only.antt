-- Of what creation, the calls and their answers told, no other answer is due than the one that is given.
-- Assumes nothing.
use mathlib.Core.Path.{◌≡◌, refl, sym, ◌∙◌}
use mathlib.Core.Bool.{Bool, true, false, not, ◌&&◌, ◌||◌}
use mathlib.Core.List.{List}
use Prim.Native.Nat.{ℕ, ◌+◌, ◌*◌, ◌≤◌, ◌<◌}
use native.Mathlib.Omega.{arith}
use lib.Dec.{ltb}
use lib.ListN.{length}
use borrow.Author.Tests.{ltb-false, lt-ltb, le-ltb, eq-eqb, ne_eqb}
use Rattle.bits.specs.Bits.{pick}
use Rattle.bits.specs.Refusals.{Answer, refuse, violate}
use Rattle.bits.proofs.Flags.{or_left, or_right, or_no, is_true, is_false, yes, no, held, failed}
use Rattle.vbv.specs.Model.{farthest}
use Rattle.vbv.specs.Annex.{unit, overflows, beyond}
use Rattle.vbv.specs.declared.RemovalInterval.{RemovalInterval}
use Rattle.vbv.specs.declared.VbvParams.{VbvParams}
use Rattle.vbv.proofs.Laws.{over_units, units_over, beyond_units, units_beyond}
use Rattle.layers.specs.Headers.{headers_fit}
use Rattle.layers.specs.Layer.{layer_fits}
use Rattle.rate_control.specs.Answers.{Given}
use Rattle.rate_control.specs.Writer.{writer_fits, clashes, asked}
use Rattle.rate_control.specs.Offer.{Offer, position, content, end, delivered_at, stuffing, too_large_answer, placed_bytes, offer}
use Rattle.rate_control.specs.Sent.{content_of, Stuffs}
use Rattle.rate_control.specs.Due.{Known, any_placed, delivered_for, asked_for, holding, OutOfTurn, Fitting, Near, OnTime, AllDelivered, Due, out_of_turn, bad_headers, bad_layer, far_position, far_end, early_position, overflowing, too_large, largest, no_edge, no_room, room, lasts_in}
use Rattle.rate_control.specs.declared.CbrWriter.{CbrWriter}
use Rattle.rate_control.proofs.Chain.{by_constant, asked-constant, Placing}
use Rattle.rate_control.proofs.Placing.{placed_size}
use Rattle.rate_control.proofs.Invariant.{Inv}
use Rattle.rate_control.proofs.Knowing.{delivered_known}
use Rattle.rate_control.proofs.Answering.{turn, in_turn_is, at_position, at-content, at-end, stuffs, delay_known}

-- the zeros are fixed by what they do
stuffing-same : {v : Bool} {p : VbvParams} {n d : ℕ} {i : RemovalInterval} {o : Offer} {a b : ℕ} → Stuffs v p n d i o a → Stuffs v p n d i o b → a ≡ b
stuffing-same {o = o} {a = a} {b = b} g h = go o.last refl
  where
    go : (t : Bool) → o.last ≡ t → a ≡ b
    go true e = g.after_last e ∙ sym (h.after_last e)
    go false e =
        let l = (g.least e b).1 ((h.least e b).0 (omega arith)) in
        let k = (h.least e a).1 ((g.least e a).0 (omega arith)) in
        omega arith

module _ (p : VbvParams) (t : List ℕ) (x : Known) (o : Offer) {n : ℕ} (i : Inv n (holding p t x)) where
  abbrev w : CbrWriter
  w = holding p t x

  -- ---- the chain of `offer`, up to a test

  abbrev up_to20 : Answer Given → Answer Given
  up_to20 r =
      refuse 12 (not (writer_fits w))
      (refuse 17 (x.finished || clashes x.pending o.kind)
      (refuse 18 (not (headers_fit p (any_placed x) o.headers))
      (refuse 20 (not (layer_fits w.cadence.film o.kind o.interval o.layer)) r)))

  abbrev up_to14 : Answer Given → Answer Given
  up_to14 r = up_to20 (refuse 14 (ltb farthest (position w o) || ltb farthest (end w o)) r)

  abbrev up_to9 : Answer Given → Answer Given
  up_to9 r =
      up_to14
      (refuse 7 (not x.variable && beyond p (position w o) (delivered_at w o))
      (violate 9 x.pictures 0 0 (overflows p (8 * x.bytes) (delivered_at w o)) r))

  abbrev up_to22 : Answer Given → Answer Given
  up_to22 r =
      up_to9
      (pick (beyond p (content w o) (delivered_at w o)) (too_large_answer (asked w o.kind))
      (refuse 22 (beyond p (end w o) (delivered_at w o)) r))

  -- ---- each test by its condition

  turn_yes : OutOfTurn x o → (x.finished || clashes x.pending o.kind) ≡ true
  turn_yes c = is_true _ (λ e. in_turn_is x o e c)

  turn_no : (OutOfTurn x o → ⊥) → (x.finished || clashes x.pending o.kind) ≡ false
  turn_no f = is_false _ (λ e. f (turn x o _ refl e))

  stuffing_is : {z : ℕ} → Fitting p x o → Stuffs x.variable p x.bytes (delivered_for p x o) (lasts_in x o) o z → stuffing w o ≡ z
  stuffing_is f g = stuffing-same (stuffs p t x o i f.layer_fits) g

  end_is : {z : ℕ} → Fitting p x o → Stuffs x.variable p x.bytes (delivered_for p x o) (lasts_in x o) o z → end w o ≡ content_of x.bytes o + 8 * z
  end_is f g = rw (← stuffing_is f g) (at-end p t x o i)

  past_20 : {z r : Answer Given} → Fitting p x o → z ≡ r → z ≡ up_to20 r
  past_20 g e =
      held (writer_fits w) _ _ i.fits
      (no _ _ _ (turn_no g.in_turn)
      (held (headers_fit p (any_placed x) o.headers) _ _ g.headers_fit_lem
      (held (layer_fits w.cadence.film o.kind o.interval o.layer) _ _ g.layer_fits e)))

  past_14 : {k : ℕ} {z r : Answer Given} → Near p x o k → z ≡ r → z ≡ up_to14 r
  past_14 g e =
      let a : position w o ≤ farthest = rw (at_position p t x o i) g.position_near in
      let b : end w o ≤ farthest = rw (end_is g.fitting g.stuffs) g.end_near in
      past_20 g.fitting (no _ _ _ (or_no _ _ (le-ltb farthest (position w o) a) (le-ltb farthest (end w o) b)) e)

  past_9 : {k : ℕ} {z r : Answer Given} → OnTime p x o k → z ≡ r → z ≡ up_to9 r
  past_9 g e =
      let a : x.variable ≡ false → position w o * unit p ≤ delivered_at w o = λ v. rw (delivered_known p t x o, at_position p t x o i) (g.in_time v) in
      let b : delivered_at w o ≤ (8 * x.bytes + p.buffer_size_bits) * unit p = rw (delivered_known p t x o) g.no_overflow in
      past_14 g.near (no _ _ _ (by_constant x.variable _ (λ v. units_beyond p _ _ (a v))) (no _ _ _ (units_over p _ _ b) e))

  past_22 : {k : ℕ} {z r : Answer Given} → AllDelivered p x o k → z ≡ r → z ≡ up_to22 r
  past_22 {k} g e =
      let l = g.end_delivered in
      let m : content_of x.bytes o * unit p ≤ delivered_for p x o = omega arith in
      let a : content w o * unit p ≤ delivered_at w o = rw (delivered_known p t x o, at-content p t x o i) m in
      let b : end w o * unit p ≤ delivered_at w o = rw (delivered_known p t x o, end_is g.on_time.near.fitting g.on_time.near.stuffs) l in
      past_9 g.on_time (no _ _ _ (units_beyond p _ _ a) (no _ _ _ (units_beyond p _ _ b) e))

  -- d lies before `end`
  not_there : (end d e f : ℕ) → end ≡ e → d ≡ f → f < e * unit p → beyond p end d ≡ true
  not_there end d e f a b l = is_true _ (λ z. omega (arith, l, beyond_units p (e) (f) (rw (← a, ← b) z)))

  placing : {k : ℕ} → AllDelivered p x o k → length (placed_bytes w o) ≤ length o.out → Placing w o
  placing g s =
      let q = g.on_time in
      let r = q.near in
      let f = turn_no r.fitting.in_turn in
      record {
        fitted = i.fits;
        unfinished = or_left _ _ f;
        same_kind = or_right x.finished _ f;
        headers_fit_lem = r.fitting.headers_fit_lem;
        layer_fits = r.fitting.layer_fits;
        position_far = rw (at_position p t x o i) r.position_near;
        end_far = rw (end_is r.fitting r.stuffs) r.end_near;
        in_time = λ v. units_beyond p _ _ (rw (delivered_known p t x o, at_position p t x o i) (q.in_time v));
        no_overflow = units_over p _ _ (rw (delivered_known p t x o) q.no_overflow);
        no_underflow = units_beyond p _ _ (rw (delivered_known p t x o, end_is r.fitting r.stuffs) g.end_delivered);
        room = s;
      }

  -- ---- one law for all

  pub only : {a : Answer Given} → Due p x o a → a ≡ offer w o
  unfolding offer asked
  only (out_of_turn c) = held (writer_fits w) _ _ i.fits (yes _ _ _ (turn_yes c) refl)
  only (bad_headers f g) =
      held (writer_fits w) _ _ i.fits (no _ _ _ (turn_no f) (failed (headers_fit p (any_placed x) o.headers) _ _ g refl))
  only (bad_layer f g k) =
      held (writer_fits w) _ _ i.fits
      (no _ _ _ (turn_no f)
      (held (headers_fit p (any_placed x) o.headers) _ _ g
      (failed (layer_fits w.cadence.film o.kind o.interval o.layer) _ _ k refl)))
  only (far_position g l) = past_20 g (yes _ _ _ (is_true _ (λ z. omega (arith, l, at_position p t x o i, ltb-false farthest (position w o) (or_left _ _ z)))) refl)
  only (far_end g s l) =
      past_20 g (yes _ _ _ (is_true _ (λ z. omega (arith, l, end_is g s, ltb-false farthest (end w o) (or_right (ltb farthest (position w o)) _ z)))) refl)
  only (early_position v g l k) = past_14 g (yes _ _ _ (asked-constant x.variable _ v (not_there _ _ _ _ (at_position p t x o i) (delivered_known p t x o) l)) refl)
  only (overflowing v g a l k) =
      let b : position w o * unit p ≤ delivered_at w o = rw (delivered_known p t x o, at_position p t x o i) a in
      past_14 g
      (no _ _ _ (by_constant x.variable _ (λ v. units_beyond p _ _ b))
      (yes _ _ _ (is_true _ (λ z. omega (arith, l, over_units p (8 * x.bytes) (delivered_for p x o) (rw (← delivered_known p t x o) z)))) (rw k)))
  only (too_large g l q) =
      past_9 g (yes _ _ _ (not_there _ _ _ _ (at-content p t x o i) (delivered_known p t x o) l) (no _ _ _ (ne_eqb (asked_for x o) 31 (λ z. omega (arith, q, z))) refl))
  only (largest g l q) =
      past_9 g (yes _ _ _ (not_there _ _ _ _ (at-content p t x o i) (delivered_known p t x o) l) (yes _ _ _ (eq-eqb (asked_for x o) 31 q) refl))
  only (no_edge v g a l) =
      let b : content w o * unit p ≤ delivered_at w o = rw (delivered_known p t x o, at-content p t x o i) a in
      past_9 g
      (no _ _ _ (units_beyond p _ _ b)
      (yes _ _ _ (not_there _ _ _ _ (end_is g.near.fitting g.near.stuffs) (delivered_known p t x o) l) refl))
  only (no_room g l) =
      let s : length o.out < length (placed_bytes w o) = rw (placed_size w o, stuffing_is g.on_time.near.fitting g.on_time.near.stuffs) l in
      past_22 g (yes _ _ _ (lt-ltb _ _ s) refl)
  only (room g l) =
      let s : length (placed_bytes w o) ≤ length o.out = rw (placed_size w o, stuffing_is g.on_time.near.fitting g.on_time.near.stuffs) l in
      past_22 g (no _ _ _ (le-ltb _ _ s) (rw (delay_known p t x o i (placing g s), placed_size w o, stuffing_is g.on_time.near.fitting g.on_time.near.stuffs)))
