-- Every call's answer is the one that is due, 21 comes at quantiser 31 alone, after at most eleven retries, and a variable writer says no 7, 9 or 22.
-- Assumes nothing.
use mathlib.Core.Path.{◌≡◌, refl, sym, ap, subst, ◌∙◌}
use mathlib.Core.Bool.{true, false, true≢false}
use mathlib.Core.List.{List, [], ◌∷◌}
use Prim.Native.Nat.{ℕ}
use native.Mathlib.Omega.{arith}
use lib.Dec.{eqb}
use borrow.Author.Tests.{eqb-false}
use Rattle.bits.specs.Refusals.{Answer, number}
use Rattle.bits.specs.Numbers.{one_of, Numbered, a_value, by_number, by_picture, by_all}
use Rattle.bits.proofs.Flags.{or_left, or_right}
use Rattle.vbv.specs.declared.VbvParams.{VbvParams}
use Rattle.rate_control.specs.Answers.{Given}
use Rattle.rate_control.specs.Writer.{asked}
use Rattle.rate_control.specs.Offer.{Offer, offer, left}
use Rattle.rate_control.specs.Calls.{Call, offering, withdrawing, step_of, left_by_call, steps_of}
use Rattle.rate_control.specs.Due.{Known, asked_for, holding, Answered, no_calls, offer_then, withdrawal_then}
use Rattle.rate_control.specs.Demand.{retries_after, Patient, calls_end, step_then, Other, Unsaid}
use Rattle.rate_control.specs.declared.CbrWriter.{CbrWriter}
use Rattle.rate_control.proofs.Chain.{Outcome, stays, closes, retries, hands_out, outcome}
use Rattle.rate_control.proofs.Invariant.{Inv, pending-few, call_inv}
use Rattle.rate_control.proofs.States.{withdraw-answer}
use Rattle.rate_control.proofs.Knowing.{offer_told, withdrawal_told}
use Rattle.rate_control.proofs.Answering.{due, outcome_holds}
use Rattle.rate_control.proofs.Only.{only}
use Rattle.rate_control.proofs.Keeping.{left_kept}
use Rattle.rate_control.proofs.Refusing.{writer_numbers}

module _ (p : VbvParams) (t : List ℕ) where
  pub all-answered : {n : ℕ} (w : CbrWriter) (x : Known) (l : List Call) → w ≡ holding p t x → Inv n w → Answered p t x (steps_of w l)
  unfolding steps_of step_of left_by_call
  all-answered w x [] e h = no_calls
  all-answered {n} w x (offering o ∷ l) e h =
      let i = subst (λ (v : CbrWriter). Inv n v) e h in
      offer_then {x = x} {o = o} {a = offer w o} {l = steps_of (left w o) l} (rw e (due p t x o i))
      (λ b d. only p t x o i d ∙ ap (λ (v : CbrWriter). offer v o) (sym e)) (outcome_holds w o (outcome w o))
      (all-answered {n = retries_after n (step_of w (offering o))} _ _ l (offer_told p t w x o e) (call_inv (offering o) h))
  all-answered {n} w x (withdrawing ∷ l) e h =
      rw (ap number (withdraw-answer w h.fits)) (withdrawal_then (all-answered {n = retries_after n (step_of w withdrawing)} _ _ l (withdrawal_told p t w x h.fits e) (call_inv withdrawing h)))

  coarsest : (x : Known) (o : Offer) {a : Answer Given} → Outcome (holding p t x) o a → number a ≡ 21 → asked_for x o ≡ 31
  unfolding asked
  coarsest x o (stays {n} e) h = absurd (eqb-false n 21 e h)
  coarsest x o (closes g) h = g
  coarsest x o (retries g) h = absurd (omega (arith, h))
  coarsest x o (hands_out g) h = absurd (omega (arith, h))

  pub patient : {n : ℕ} (w : CbrWriter) (x : Known) (l : List Call) → w ≡ holding p t x → Inv n w → Patient p t x n (steps_of w l)
  unfolding steps_of step_of left_by_call
  patient w x [] e h = calls_end (pending-few _ w.pending h.waiting)
  patient {n = n} w x (offering o ∷ l) e h =
      step_then (pending-few _ w.pending h.waiting) (coarsest x o (subst (λ (v : CbrWriter). Outcome v o (offer w o)) e (outcome w o)))
      (patient {n = retries_after n (step_of w (offering o))} _ _ l (offer_told p t w x o e) (call_inv (offering o) h))
  patient {n = n} w x (withdrawing ∷ l) e h =
      step_then (pending-few _ w.pending h.waiting) tt (patient {n = retries_after n (step_of w withdrawing)} _ _ l (withdrawal_told p t w x h.fits e) (call_inv withdrawing h))

-- ---- at a variable rate

-- an answer carries no number but 0 and those of its list
unnumbered : {X : Type 0} {ns : List ℕ} {a : Answer X} (k : ℕ) → one_of (0 ∷ ns) k ≡ false → Numbered ns [] [] a → number a ≡ k → ⊥
unnumbered k z a_value e = eqb-false k 0 (or_left _ _ z) (sym e)
unnumbered {ns = ns} k z (by_number i) e = true≢false (sym i ∙ ap (one_of ns) e ∙ or_right (eqb k 0) _ z)
unnumbered k z (by_picture i) e = true≢false (sym i)
unnumbered k z (by_all i) e = true≢false (sym i)

other : {X : Type 0} {ns : List ℕ} {a : Answer X} → one_of (0 ∷ ns) 7 ≡ false → one_of (0 ∷ ns) 9 ≡ false → one_of (0 ∷ ns) 22 ≡ false → Numbered ns [] [] a
    → Other (number a)
other x y z h = (unnumbered 7 x h, (unnumbered 9 y h, unnumbered 22 z h))

pub unsaid : (w : CbrWriter) (l : List Call) → w.variable ≡ true → Unsaid (steps_of w l)
unfolding steps_of step_of
unsaid w [] v = tt
unsaid w (offering o ∷ l) v = (other refl refl refl (writer_numbers.variable_offers w o v), unsaid (left_by_call w (offering o)) l ((left_kept w (offering o)).1 ∙ v))
unsaid w (withdrawing ∷ l) v = (other refl refl refl (writer_numbers.withdrawals w), unsaid (left_by_call w withdrawing) l ((left_kept w withdrawing).1 ∙ v))
