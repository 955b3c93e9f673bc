-- Every answer is the one that is due.
-- Assumes nothing.
use Rattle.std.specs.Prelude.{Option, Some, None}
use mathlib.Core.Path.{◌≡◌, refl, sym, ap, subst, ◌∙◌}
use mathlib.Core.Bool.{Bool, true, false, not, ◌&&◌, ◌||◌, true≢false}
use mathlib.Core.List.{List}
use Prim.Native.Nat.{ℕ, zero, suc, ◌+◌, ◌*◌, ◌≤◌, ◌<◌}
use native.Mathlib.Omega.{arith}
use lib.Dec.{ltb}
use borrow.Author.Tests.{ltb-false, ltb-true, eqb-true, eqb-false, not-true, not-false}
use Rattle.bits.specs.Bits.{pick}
use Rattle.bits.specs.Refusals.{Answer, refused}
use Rattle.bits.proofs.Flags.{both_true, or_left, or_right, or_other, pick_elim}
use Rattle.bits.proofs.Over.{over-take, over-drop}
use Rattle.vbv.specs.Model.{farthest}
use Rattle.vbv.specs.Annex.{unit, overflows, beyond}
use Rattle.vbv.specs.declared.VbvParams.{VbvParams}
use Rattle.vbv.proofs.Laws.{over_units, over-full, beyond_units, beyond-there, first-in_time}
use Rattle.layers.specs.declared.PictureKind.{PictureKind}
use Rattle.layers.specs.declared.PictureKind.TheVariants.{I, P, B}
use Rattle.layers.specs.Layer.{layer_fits}
use Rattle.rate_control.specs.Answers.{Given}
use Rattle.rate_control.specs.Writer.{index, clashes, asked}
use Rattle.rate_control.specs.Offer.{Offer, position, content, end, delivered_at, stuffing, delay, first_delay, too_large_answer, placed_bytes, offer, out_of}
use Rattle.rate_control.specs.Sent.{position_of, content_of, Stuffs}
use Rattle.rate_control.specs.Due.{Known, delivered_for, holding, OutOfTurn, last_placed, other_kind, Fitting, Near, OnTime, AllDelivered, delay_for, Due, out_of_turn, bad_headers, bad_layer, far_position, far_end, early_position, overflowing, too_large, largest, no_edge, no_room, room, PartHolds, lasts_in}
use Rattle.rate_control.specs.declared.CbrWriter.{CbrWriter}
use Rattle.vbv.proofs.Cases.{delivered-of}
use Rattle.rate_control.proofs.Chain.{at_constant, Placing, Outcome, stays, closes, retries, hands_out}
use Rattle.rate_control.proofs.Placing.{delivered-later, delivered-first, placed_size, stuffing-last, stuffing-least, overflow-constant, edge_constant, delay_is, first_told}
use Rattle.rate_control.proofs.Retries.{below_31}
use Rattle.rate_control.proofs.Invariant.{Inv, asked_quant}
use Rattle.rate_control.proofs.Removing.{position-same, content-same}
use Rattle.rate_control.proofs.Knowing.{any_placed_lem, delivered_known, lasts_known}

index_same : (j k : PictureKind) → index j ≡ index k → j ≡ k
index_same I I e = refl
index_same I P e = absurd (omega (arith, e))
index_same I B e = absurd (omega (arith, e))
index_same P I e = absurd (omega (arith, e))
index_same P P e = refl
index_same P B e = absurd (omega (arith, e))
index_same B I e = absurd (omega (arith, e))
index_same B P e = absurd (omega (arith, e))
index_same B B e = refl

-- ---- the turn

module _ (x : Known) (o : Offer) where
  clash_is : (y : Option (PictureKind × ℕ)) → x.pending ≡ y → clashes y o.kind ≡ true → OutOfTurn x o
  unfolding clashes
  clash_is None h e = absurd (true≢false (sym e))
  clash_is (Some (j, q)) h e = other_kind h (λ g. eqb-false _ _ (not-true _ e) (ap index g))

  no_clash : {k : PictureKind} {q : ℕ} → clashes x.pending o.kind ≡ false → x.pending ≡ Some (k, q) → k ≡ o.kind
  unfolding clashes
  no_clash {k} e h = let g = rw h at (e) in index_same k o.kind (eqb-true _ _ (not-false _ g))

  pub turn : (b : Bool) → x.finished ≡ b → (x.finished || clashes x.pending o.kind) ≡ true → OutOfTurn x o
  turn true e h = last_placed e
  turn false e h = clash_is x.pending refl (or_other x.finished _ h e)

  pub in_turn_is : (x.finished || clashes x.pending o.kind) ≡ false → OutOfTurn x o → ⊥
  in_turn_is h (last_placed e) = true≢false (sym e ∙ or_left _ _ h)
  in_turn_is h (other_kind e n) = n (no_clash (or_right x.finished _ h) e)

-- ---- an offer's answer

module _ (p : VbvParams) (t : List ℕ) (x : Known) (o : Offer) {n : ℕ} (h : Inv n (holding p t x)) where
  abbrev held : CbrWriter
  held = holding p t x

  abbrev D : Answer Given → Type 0
  D a = Due p x o a

  pub at_position : position held o ≡ position_of x.bytes o
  at_position = sym (position-same x.bytes held o refl)

  pub at-content : content held o ≡ content_of x.bytes o
  at-content = sym (content-same x.bytes held o refl)

  pub at-end : end held o ≡ content_of x.bytes o + 8 * stuffing held o
  unfolding end
  at-end = rw at-content

  pub stuffs : layer_fits x.cadence.film o.kind o.interval o.layer ≡ true
      → Stuffs x.variable p x.bytes (delivered_for p x o) (lasts_in x o) o (stuffing held o)
  stuffs f = record {
    least = λ e j. rw (← lasts_known p t x o f, ← delivered_known p t x o, ← at-content) (stuffing-least held o h.fits e j);
    after_last = stuffing-last held o;
  }

  late : x.variable ≡ false → beyond p (position held o) (delivered_at held o) ≡ true → 1 ≤ x.pictures
  late v e = go x.pictures refl
    where
      go : (k : ℕ) → x.pictures ≡ k → 1 ≤ x.pictures
      go zero g =
          let s : held.model.started ≡ false = rw g in
          absurd (true≢false (sym e ∙ rw (delivered-first held o v s) (first-in_time p (position held o) (first_delay p))))
      go (suc k) g = omega (arith, g)

  at_first : x.finished ≡ false → overflows p (8 * x.bytes) (delivered_at held o) ≡ true → x.pictures ≡ 0
  at_first f e = go x.pictures refl
    where
      go : (k : ℕ) → x.pictures ≡ k → x.pictures ≡ 0
      go zero g = g
      go (suc k) g =
          let s : held.model.started ≡ true = rw g (any_placed_lem k) in
          absurd (true≢false (sym e ∙ rw (delivered-later held o s) (h.room s f)))

  pub delay_known : Placing held o → delay held o ≡ delay_for p x o
  unfolding pick
  delay_known g = go x.variable refl held.model.started refl
    where
      go : (v : Bool) → x.variable ≡ v → (b : Bool) → held.model.started ≡ b → delay held o ≡ delay_for p x o
      go true v b e = delay_is held o v ∙ rw v
      go false v true e = delay_is held o v ∙ rw (delivered-later held o e, delivered-of, at_position, v, e)
      go false v false e = first_told held o g v e ∙ rw (v, e)

  size_due : OnTime p x o (stuffing held o) → delivered_for p x o < content_of x.bytes o * unit p → D (too_large_answer (asked held o.kind))
  unfolding asked
  size_due g l =
      pick_elim D _ (λ e. largest g l (eqb-true _ _ e)) (λ e. too_large g l (below_31 (asked_quant o.kind h).0 (eqb-false _ _ e)))

  pub due : D (offer held o)
  unfolding offer asked
  due =
      pick_elim D _ (λ e. absurd (true≢false (sym h.fits ∙ not-true _ e))) λ h12.
      pick_elim D _ (λ e. out_of_turn (turn x o _ refl e)) λ h17.
      pick_elim D _ (λ e. bad_headers (in_turn_is x o h17) (not-true _ e)) λ h18.
      pick_elim D _ (λ e. bad_layer (in_turn_is x o h17) (not-false _ h18) (not-true _ e)) λ h20.
      let g : Fitting p x o = record { in_turn = in_turn_is x o h17; headers_fit_lem = not-false _ h18; layer_fits = not-false _ h20 } in
      pick_elim D _ (λ e. far g _ refl e) λ h14.
      let near : Near p x o (stuffing held o) =
      record {
        fitting = g;
        stuffs = stuffs g.layer_fits;
        position_near = rw (← at_position) (ltb-false farthest (position held o) (or_left _ _ h14));
        end_near = rw (← at-end) (ltb-false farthest (end held o) (or_right (ltb farthest (position held o)) _ h14));
      } in
      pick_elim D _ (λ e. early_due near e) λ h7.
      let in_time : x.variable ≡ false → position_of x.bytes o * unit p ≤ delivered_for p x o
      = λ v. rw (← delivered_known p t x o, ← at_position) (beyond_units p _ _ (at_constant x.variable _ h7 v)) in
      pick_elim D _ (λ e. overflow_due near in_time (or_left _ _ h17) e) λ h9.
      let timely : OnTime p x o (stuffing held o) = record { near = near; in_time = in_time; no_overflow = rw (← delivered_known p t x o) (over_units p _ _ h9) } in
      pick_elim D _ (λ e. size_due timely (rw (← delivered_known p t x o, ← at-content) (beyond-there p _ _ e))) λ size.
      pick_elim D _
      (λ e. no_edge (edge_constant held o size e) timely (rw (← delivered_known p t x o, ← at-content) (beyond_units p _ _ size)) (rw (← delivered_known p t x o, ← at-end) (beyond-there p _ _ e)))
      λ h22.
      let whole : AllDelivered p x o (stuffing held o) = record { on_time = timely; end_delivered = rw (← delivered_known p t x o, ← at-end) (beyond_units p _ _ h22) } in
      pick_elim D _ (λ e. no_room whole (rw (← placed_size held o) (ltb-true _ _ e))) λ h19.
      let k : Placing held o =
      record {
        fitted = h.fits;
        unfinished = or_left _ _ h17;
        same_kind = or_right held.finished _ h17;
        headers_fit_lem = not-false _ h18;
        layer_fits = not-false _ h20;
        position_far = ltb-false farthest (position held o) (or_left _ _ h14);
        end_far = ltb-false farthest (end held o) (or_right (ltb farthest (position held o)) _ h14);
        in_time = at_constant x.variable _ h7;
        no_overflow = h9;
        no_underflow = h22;
        room = ltb-false _ _ h19;
      } in
      rw (delay_known k, placed_size held o) (room whole (rw (← placed_size held o) (ltb-false _ _ h19)))
    where
      far : Fitting p x o → (b : Bool) → ltb farthest (position held o) ≡ b → (ltb farthest (position held o) || ltb farthest (end held o)) ≡ true → D (refused 14 0 0 0)
      far g true e f = far_position g (rw (← at_position) (ltb-true _ _ e))
      far g false e f = far_end g (stuffs g.layer_fits) (rw (← at-end) (ltb-true farthest (end held o) (or_other (ltb farthest (position held o)) _ f e)))

      early_due : Near p x o (stuffing held o) → not x.variable && beyond p (position held o) (delivered_at held o) ≡ true → D (refused 7 0 0 0)
      early_due near e =
          let b = both_true (not x.variable) _ e in
          let v = not-true _ b.0 in
          early_position v near (rw (← delivered_known p t x o, ← at_position) (beyond-there p _ _ b.1)) (late v b.1)

      overflow_due : Near p x o (stuffing held o) → (x.variable ≡ false → position_of x.bytes o * unit p ≤ delivered_for p x o) → x.finished ≡ false
          → overflows p (8 * x.bytes) (delivered_at held o) ≡ true → D (refused 9 x.pictures 0 0)
      overflow_due near in_time f e =
          let z = at_first f e in
          let v = overflow-constant held o h.fits e in
          subst (λ (k : ℕ). D (refused 9 k 0 0)) (sym z) (overflowing v near (in_time v) (rw (← delivered_known p t x o) (over-full p _ _ e)) z)

-- ---- what its output part holds

pub outcome_holds : (w : CbrWriter) (o : Offer) {a : Answer Given} → Outcome w o a → PartHolds o a (out_of a (placed_bytes w o) o.out)
unfolding placed_bytes
outcome_holds w o (stays e) = refl
outcome_holds w o (closes x) = refl
outcome_holds w o (retries x) = refl
outcome_holds w o (hands_out x) = record { bytes = over-take (placed_bytes w o) o.out; rest = over-drop (placed_bytes w o) o.out }
