-- What holds of a writer between calls, after n retries of the pending picture.
-- Assumes nothing.
use Rattle.std.specs.Prelude.{Option, Some, None}
use mathlib.Core.Path.{◌≡◌, refl, sym, ap, ◌∙◌}
use mathlib.Core.Bool.{true, false, true≢false}
use Prim.Native.Nat.{ℕ, ◌+◌, ◌≤◌, ◌<◌}
use native.Mathlib.Omega.{arith}
use lib.ListN.{length, length-set}
use Rattle.bits.specs.Bits.{pick}
use Rattle.bits.specs.Refusals.{Answer, or_else}
use Rattle.vbv.specs.Annex.{overflows}
use Rattle.vbv.specs.Model.{farthest, delivered}
use Rattle.vbv.proofs.After.{model-after}
use Rattle.vbr.proofs.Either.{after-fits_at}
use Rattle.layers.specs.declared.PictureKind.{PictureKind}
use Rattle.layers.specs.declared.PictureKind.TheVariants.{I, P, B}
use Rattle.layers.specs.Layer.{facts_in}
use Rattle.layers.proofs.Laws.{layer_long}
use Rattle.cadence.proofs.Keeping.{after-fits as cadence-fits}
use Rattle.rate_control.specs.Writer.{writer_fits, quantiser_fits, index, of, asked, pending_or, coarser, pending_fits}
use Rattle.rate_control.specs.Answers.{Given}
use Rattle.rate_control.specs.Offer.{Offer, end, cadence_at, interval_at, delivered_at, delivered_next, with_pending, with_placed, left_by, withdraw}
use Rattle.rate_control.specs.Calls.{Call, offering, withdrawing, step_of, left_by_call}
use Rattle.rate_control.specs.Demand.{retries_by, retries_after}
use Rattle.rate_control.specs.declared.CbrWriter.{CbrWriter}
use Rattle.rate_control.proofs.Chain.{q-of, Placing, Outcome, stays, closes, retries, hands_out, outcome}
use Rattle.rate_control.proofs.Retries.{Quant, below_31, rest, rest_small, rest-step, coarser_quant, steered_quant}
use Rattle.rate_control.proofs.Fitting.{all_fit-at, all_fit_set, quantiser_is, is_quantiser, none-fits, waits-fits, WriterFits, writer_fits_lem, fitting-writer, end_far}
use Rattle.rate_control.proofs.Placing.{placed_size, end_is, next-room}
use Rattle.rate_control.proofs.Lasting.{before-fits}
use Rattle.rate_control.proofs.States.{withdraw-answer}

-- no picture pending: no retries; one pending: those it had and those it may have are eleven at most
abbrev pub PendingOk : ℕ → Option (PictureKind × ℕ) → Type 0
PendingOk n None = n ≡ 0
PendingOk n (Some (k, q)) = Quant q × (n + rest q ≤ 11)

pub record Inv (n : ℕ) (w : CbrWriter) : Type 0 where
  pub fits : writer_fits w ≡ true
  pub three : length w.q ≡ 3
  pub none_yet : w.model.started ≡ false → w.model.prev_end_bits ≡ 0
  pub waiting : PendingOk n w.pending
  -- unless it was the last, the picture just placed has made room for the next
  pub room : w.model.started ≡ true → w.finished ≡ false → overflows w.model.params w.model.prev_end_bits (delivered w.model) ≡ false

-- before the first placing no picture is removed and no byte stuffed
pub none_removed : {n : ℕ} {w : CbrWriter} → Inv n w → w.model.started ≡ false → (w.model.removed ≡ 0) × (w.stuffing_bytes ≡ 0)
none_removed {w = w} h e =
    let f = writer_fits_lem h.fits in
    let z = h.none_yet e in
    (omega (arith, f.few), omega (arith, f.stuffed))

pub pending-few : (n : ℕ) (x : Option (PictureKind × ℕ)) → PendingOk n x → n ≤ 11
pending-few n None h = omega arith
pending-few n (Some (k, q)) h = omega arith

-- ---- the quantiser of an offer, and the retries it may still have

index-low : (k : PictureKind) → index k < 3
index-low I = omega arith
index-low P = omega arith
index-low B = omega arith

kind_quant : {n : ℕ} {w : CbrWriter} (k : PictureKind) → Inv n w → Quant (of k w.q)
unfolding of
kind_quant {w = w} k h = quantiser_is (all_fit-at quantiser_fits w.q (index k) (writer_fits_lem h.fits).quantisers (omega (arith, index-low k, h.three)))

asked_of : (n : ℕ) {q : ℕ} (x : Option (PictureKind × ℕ)) → PendingOk n x → Quant q → Quant (pending_or x q) × (n + rest (pending_or x q) ≤ 11)
unfolding pending_or
asked_of n None h g = (g, omega (arith, rest_small g))
asked_of n (Some (k, q)) h g = h

pub asked_quant : {n : ℕ} {w : CbrWriter} (k : PictureKind) → Inv n w → Quant (asked w k) × (n + rest (asked w k) ≤ 11)
unfolding asked
asked_quant {n} {w} k h = asked_of n w.pending h.waiting (kind_quant k h)

-- ---- kept by a placing

place_fits : {n : ℕ} {w : CbrWriter} {o : Offer} → Inv n w → Placing w o → WriterFits (with_placed w o)
unfolding with_placed delivered_next
place_fits {w = w} {o = o} h g =
    let m = w.model in
    let f = writer_fits_lem g.fitted in
    let e = end_is w o in
    let s = placed_size w o in
    let l = layer_long w.cadence.film o.kind o.interval o.layer g.layer_fits in
    let c : m.removed < farthest = omega (arith, f.few, end_far w f) in
    let a = model-after m (end w o) (delivered_next w o) in
    record {
      model_fits_lem =
          after-fits_at w.variable m (delivered_at w o) f.model_fits_lem g.no_overflow (end w o) (interval_at w o)
          (record { end_far = g.end_far; end_low = omega arith; count = c }) g.no_underflow;
      whole_bytes = rw a.end_is (omega (arith, f.whole_bytes));
      few = rw (a.end_is, a.count_is) (omega (arith, f.few));
      stuffed = rw a.end_is (omega (arith, f.stuffed));
      targets = f.targets;
      quantisers = all_fit_set quantiser_fits w.q (index o.kind) _ f.quantisers (is_quantiser (steered_quant _ _ (asked_quant o.kind h).0));
      pending = none-fits;
      cadence = cadence-fits (cadence_at w o.headers) (facts_in o.layer) (before-fits w o.headers f.cadence);
    }

place_inv : {n : ℕ} {w : CbrWriter} {o : Offer} → Inv n w → Placing w o → Inv 0 (with_placed w o)
unfolding with_placed
place_inv {w = w} {o = o} h g =
    let a = model-after w.model (end w o) (delivered_next w o) in
    record {
      fits = fitting-writer _ (place_fits h g);
      three = length-set w.q (index o.kind) _ ∙ h.three;
      none_yet = λ e. absurd (true≢false (sym a.is_started ∙ e));
      waiting = refl;
      room = λ s e. rw (a.delivered_is, a.params_kept, a.end_is) (next-room w o g.fitted e);
    }

-- ---- kept by every call

-- another pending picture
pending_inv : {n m : ℕ} {w : CbrWriter} (x : Option (PictureKind × ℕ)) → Inv n w → PendingOk m x → pending_fits x ≡ true → Inv m (with_pending w x)
unfolding with_pending
pending_inv {w = w} x h k e =
    let f = writer_fits_lem h.fits in
    record {
      fits =
          fitting-writer _
          (record {
            model_fits_lem = f.model_fits_lem;
            whole_bytes = f.whole_bytes;
            few = f.few;
            stuffed = f.stuffed;
            targets = f.targets;
            quantisers = f.quantisers;
            pending = e;
            cadence = f.cadence;
          });
      three = h.three;
      none_yet = h.none_yet;
      waiting = k;
      room = h.room;
    }

pub outcome_inv : {n : ℕ} {w : CbrWriter} {o : Offer} {a : Answer Given} → Inv n w → Outcome w o a → Inv (retries_by n a) (left_by w o a)
unfolding pick
outcome_inv h (stays e) = rw e h
outcome_inv h (closes g) = pending_inv None h refl none-fits
outcome_inv {n} {w} {o} h (retries g) =
    let a = asked_quant o.kind h in
    let l = below_31 a.0 g in
    let c = coarser_quant a.0 in
    pending_inv (Some (o.kind, (coarser (q-of w o)))) h (c, omega (arith, rest-step a.0 l)) (waits-fits c o.kind)
outcome_inv h (hands_out g) = place_inv h g

pub withdraw_is : (w : CbrWriter) → writer_fits w ≡ true → or_else w (withdraw w) ≡ with_pending w None
withdraw_is w e = ap (or_else w) (withdraw-answer w e)

pub call_inv : {n : ℕ} {w : CbrWriter} (c : Call) → Inv n w → Inv (retries_after n (step_of w c)) (left_by_call w c)
unfolding step_of left_by_call
call_inv {w = w} (offering o) h = outcome_inv h (outcome w o)
call_inv {w = w} withdrawing h = rw (withdraw_is w h.fits) (pending_inv None h refl none-fits)
