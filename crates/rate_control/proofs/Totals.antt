-- The stuffing total and the bytes handed out, over a list of calls.
-- Assumes nothing.
use mathlib.Core.Path.{◌≡◌, ◌∙◌}
use mathlib.Core.Bool.{true}
use mathlib.Core.List.{List, [], ◌∷◌}
use Prim.Native.Nat.{ℕ, ◌+◌, ◌*◌, ◌≤◌}
use native.Mathlib.Omega.{arith}
use lib.ListN.{length, length-append, take}
use Rattle.bits.specs.Bits.{pick}
use Rattle.bits.specs.Refusals.{Answer}
use Rattle.bits.proofs.Over.{over-take}
use Rattle.vbv.specs.Model.{farthest}
use Rattle.vbv.proofs.After.{model-after}
use Rattle.rate_control.specs.Answers.{Given}
use Rattle.rate_control.specs.Writer.{writer_fits}
use Rattle.rate_control.specs.Offer.{Offer, end, delivered_next, placed_bytes, with_pending, with_placed, left_by, out_of}
use Rattle.rate_control.specs.Calls.{Call, offering, withdrawing, step_of, left_by_call, steps_of, final}
use Rattle.rate_control.specs.Sent.{sent_by, sent, end_to_end, stuffing_of}
use Rattle.rate_control.specs.Demand.{retries_after}
use Rattle.rate_control.specs.declared.CbrWriter.{CbrWriter}
use Rattle.rate_control.proofs.Chain.{Outcome, stays, closes, retries, hands_out, outcome}
use Rattle.rate_control.proofs.Placing.{end_is}
use Rattle.rate_control.proofs.Fitting.{writer_fits_lem, end_far}
use Rattle.rate_control.proofs.Invariant.{Inv, call_inv, withdraw_is}

-- ---- the stuffing total

outcome_stuffing : {w : CbrWriter} {o : Offer} {a : Answer Given} (n x : ℕ) (out : List ℕ) (l : List Call) → Outcome w o a
    → ((k : ℕ) → x ≡ (left_by w o a).stuffing_bytes + stuffing_of (sent k (steps_of (left_by w o a) l)))
    → x ≡ w.stuffing_bytes + stuffing_of (sent_by n o a out (λ j. sent j (steps_of (left_by w o a) l)))
unfolding with_pending with_placed stuffing_of pick
outcome_stuffing n x out l (stays e) h = let d = rw e at (h n) in rw e d
outcome_stuffing n x out l (closes g) h = h n
outcome_stuffing n x out l (retries g) h = h n
outcome_stuffing {w} {o} n x out l (hands_out g) h = omega (arith, h (n + length (take (length (placed_bytes w o)) out)))

pub stuffing-total : {m : ℕ} (n : ℕ) (w : CbrWriter) (l : List Call) → Inv m w → (final w l).stuffing_bytes ≡ w.stuffing_bytes + stuffing_of (sent n (steps_of w l))
unfolding steps_of step_of left_by_call final sent stuffing_of with_pending
stuffing-total n w [] h = omega arith
stuffing-total {m = m} n w (offering o ∷ l) h =
    outcome_stuffing n _ _ l (outcome w o) (λ k. stuffing-total {m = retries_after m (step_of w (offering o))} k _ l (call_inv (offering o) h))
stuffing-total {m = m} n w (withdrawing ∷ l) h = stuffing-total {m = retries_after m (step_of w withdrawing)} n _ l (call_inv withdrawing h) ∙ rw (withdraw_is w h.fits)

-- ---- the bytes handed out

outcome_laid : {w : CbrWriter} {o : Offer} {a : Answer Given} (n x : ℕ) (l : List Call) → Outcome w o a
    → ((k : ℕ) → x ≡ (left_by w o a).model.prev_end_bits + 8 * length (end_to_end (sent k (steps_of (left_by w o a) l))))
    → x ≡ w.model.prev_end_bits + 8 * length (end_to_end (sent_by n o a (out_of a (placed_bytes w o) o.out) (λ j. sent j (steps_of (left_by w o a) l))))
unfolding with_pending with_placed end_to_end pick
outcome_laid n x l (stays e) h = let d = rw e at (h n) in rw e d
outcome_laid n x l (closes g) h = h n
outcome_laid n x l (retries g) h = h n
outcome_laid {w} {o} n x l (hands_out g) h =
    rw (over-take (placed_bytes w o) o.out)
    (omega (
      arith,
      h (n + length (placed_bytes w o)),
      end_is w o,
      (model-after w.model (end w o) (delivered_next w o)).end_is,
      length-append (placed_bytes w o) (end_to_end (sent (n + length (placed_bytes w o)) (steps_of (with_placed w o) l))),
    ))

laid_bits : {m : ℕ} (n : ℕ) (w : CbrWriter) (l : List Call) → Inv m w
    → (final w l).model.prev_end_bits ≡ w.model.prev_end_bits + 8 * length (end_to_end (sent n (steps_of w l)))
unfolding steps_of step_of left_by_call final sent end_to_end with_pending
laid_bits n w [] h = omega arith
laid_bits {m = m} n w (offering o ∷ l) h =
    outcome_laid n _ l (outcome w o) (λ k. laid_bits {m = retries_after m (step_of w (offering o))} k _ l (call_inv (offering o) h))
laid_bits {m = m} n w (withdrawing ∷ l) h = laid_bits {m = retries_after m (step_of w withdrawing)} n _ l (call_inv withdrawing h) ∙ rw (withdraw_is w h.fits)

final-fits : {m : ℕ} (w : CbrWriter) (l : List Call) → Inv m w → writer_fits (final w l) ≡ true
unfolding final
final-fits w [] h = h.fits
final-fits {m = m} w (c ∷ l) h = final-fits {m = retries_after m (step_of w c)} _ l (call_inv c h)

-- never more than 2^48 bits
pub laid-low : {m : ℕ} (n : ℕ) (w : CbrWriter) (l : List Call) → Inv m w → 8 * length (end_to_end (sent n (steps_of w l))) ≤ farthest
laid-low n w l h = omega (arith, end_far (final w l) (writer_fits_lem (final-fits w l h)), laid_bits n w l h)
