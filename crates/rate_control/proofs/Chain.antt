-- What an offer can come to, with the facts that the tests on the way give.
-- Assumes nothing.
use mathlib.Core.Path.{◌≡◌, refl}
use mathlib.Core.Bool.{Bool, true, false, not, ◌&&◌}
use Prim.Native.Nat.{ℕ, ◌≤◌}
use lib.Dec.{ltb, eqb}
use lib.ListN.{length}
use borrow.Author.Tests.{ltb-false, eqb-true, eqb-false, not-false}
use Rattle.bits.proofs.Flags.{or_left, or_right, pick_elim}
use Rattle.bits.specs.Refusals.{Answer, value, refused}
use Rattle.vbv.specs.Model.{farthest}
use Rattle.vbv.specs.Annex.{overflows, beyond}
use Rattle.layers.specs.Headers.{headers_fit}
use Rattle.layers.specs.Layer.{layer_fits}
use Rattle.rate_control.specs.Answers.{Given, placed, again}
use Rattle.rate_control.specs.Writer.{writer_fits, clashes, asked, coarser}
use Rattle.rate_control.specs.Offer.{Offer, position, end, delivered_at, stuffing, delay, placed_bytes, too_large_answer, offer}
use Rattle.rate_control.specs.declared.CbrWriter.{CbrWriter}

-- the quantiser that the offered layer was asked for with
abbrev pub q-of : CbrWriter → Offer → ℕ
q-of w o = asked w o.kind

-- a test that is asked only at a constant rate
pub at_constant : (v b : Bool) → not v && b ≡ false → v ≡ false → b ≡ false
at_constant v b h e = rw e at (h)

pub by_constant : (v b : Bool) → (v ≡ false → b ≡ false) → not v && b ≡ false
by_constant true b h = refl
by_constant false b h = h refl

pub asked-constant : (v b : Bool) → v ≡ false → b ≡ true → not v && b ≡ true
asked-constant v b e h = rw (e, h)

-- what the tests before a placing have shown
pub record Placing (w : CbrWriter) (o : Offer) : Type 0 where
  pub fitted : writer_fits w ≡ true
  pub unfinished : w.finished ≡ false
  pub same_kind : clashes w.pending o.kind ≡ false
  pub headers_fit_lem : headers_fit w.model.params w.model.started o.headers ≡ true
  pub layer_fits : layer_fits w.cadence.film o.kind o.interval o.layer ≡ true
  pub position_far : position w o ≤ farthest
  pub end_far : end w o ≤ farthest
  pub in_time : w.variable ≡ false → beyond w.model.params (position w o) (delivered_at w o) ≡ false
  pub no_overflow : overflows w.model.params w.model.prev_end_bits (delivered_at w o) ≡ false
  pub no_underflow : beyond w.model.params (end w o) (delivered_at w o) ≡ false
  pub room : length (placed_bytes w o) ≤ length o.out

-- a refusal other than 21, 21, a retry or a placing
pub data Outcome (w : CbrWriter) (o : Offer) : Answer Given → Type 0 where
  stays : {n k : ℕ} → eqb n 21 ≡ false → Outcome w o (refused n k 0 0)
  closes : q-of w o ≡ 31 → Outcome w o (refused 21 0 0 0)
  retries : (q-of w o ≡ 31 → ⊥) → Outcome w o (value (again (coarser (q-of w o))))
  hands_out : Placing w o → Outcome w o (value (placed (q-of w o) (delay w o) (length (placed_bytes w o)) (stuffing w o)))

size_outcome : (w : CbrWriter) (o : Offer) → Outcome w o (too_large_answer (q-of w o))
size_outcome w o = pick_elim (Outcome w o) _ (λ e. closes (eqb-true _ _ e)) (λ e. retries (eqb-false _ _ e))

pub outcome : (w : CbrWriter) (o : Offer) → Outcome w o (offer w o)
unfolding offer
outcome w o =
    pick_elim P _ (λ e. stays refl) λ h12.
    pick_elim P _ (λ e. stays refl) λ h17.
    pick_elim P _ (λ e. stays refl) λ h18.
    pick_elim P _ (λ e. stays refl) λ h20.
    pick_elim P _ (λ e. stays refl) λ h14.
    pick_elim P _ (λ e. stays refl) λ h7.
    pick_elim P _ (λ e. stays refl) λ h9.
    pick_elim P _ (λ e. size_outcome w o) λ size.
    pick_elim P _ (λ e. stays refl) λ h22.
    pick_elim P _ (λ e. stays refl) λ h19.
    hands_out (record {
      fitted = not-false _ h12;
      unfinished = or_left _ _ h17;
      same_kind = or_right w.finished _ h17;
      headers_fit_lem = not-false _ h18;
      layer_fits = not-false _ h20;
      position_far = ltb-false _ _ (or_left _ _ h14);
      end_far = ltb-false _ _ (or_right (ltb farthest (position w o)) _ h14);
      in_time = at_constant w.variable _ h7;
      no_overflow = h9;
      no_underflow = h22;
      room = ltb-false _ _ h19;
    })
  where
    P : Answer Given → Type 0
    P a = Outcome w o a
