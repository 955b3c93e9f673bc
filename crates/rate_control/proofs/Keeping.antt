-- What calls keep of a writer: after a refusal, with nothing pending, and between any calls.
-- Assumes nothing.
use Rattle.std.specs.Prelude.{None}
use mathlib.Core.Path.{◌≡◌, refl, ap, ◌∙◌}
use mathlib.Core.Bool.{true}
use mathlib.Core.List.{List, [], ◌∷◌}
use Prim.Native.Nat.{ℕ}
use lib.ListN.{length}
use borrow.Author.Tests.{ne_eqb}
use Rattle.bits.proofs.Flags.{pick_elim}
use Rattle.bits.specs.Bits.{pick}
use Rattle.bits.specs.Refusals.{Answer, value, refused, or_else}
use Rattle.vbv.specs.declared.VbvCbrModel.{VbvCbrModel}
use Rattle.rate_control.specs.Targets.{targets}
use Rattle.rate_control.specs.Create.{fresh_writer, create}
use Rattle.rate_control.specs.Writer.{writer_fits}
use Rattle.rate_control.specs.Answers.{Given}
use Rattle.rate_control.specs.Offer.{Offer, with_pending, with_placed, offer, left_by, left, out_after, withdraw}
use Rattle.rate_control.specs.Calls.{Call, offering, withdrawing, left_by_call, final}
use Rattle.rate_control.specs.declared.CbrConfig.{CbrConfig}
use Rattle.rate_control.specs.declared.CbrWriter.{CbrWriter}
use Rattle.rate_control.proofs.Chain.{Outcome, stays, closes, retries, hands_out, outcome}
use Rattle.rate_control.proofs.Invariant.{Inv, withdraw_is, call_inv}
use Rattle.rate_control.proofs.Creation.{creation-found, created_fresh}

-- ---- a refusal: nothing changes, but that 21 closes the pending picture, as a withdrawal does

module _ (w : CbrWriter) (o : Offer) {n k c e : ℕ} (h : offer w o ≡ refused n k c e) where
  pub refused_keeps : (n ≡ 21 → ⊥) → left w o ≡ w
  unfolding pick
  refused_keeps g = rw (h, ne_eqb n 21 g)

  pub refused-closes : writer_fits w ≡ true → n ≡ 21 → left w o ≡ or_else w (withdraw w)
  unfolding pick
  refused-closes f g = rw (h, g, withdraw_is w f)

  pub refused-out : out_after w o ≡ o.out
  refused-out = rw h

-- ---- nothing pending: nothing to close

none-pending : (w : CbrWriter) → w.pending ≡ None → with_pending w None ≡ w
unfolding with_pending
none-pending w h = rw (← h)

pub withdraw_unpending : (w : CbrWriter) → w.pending ≡ None → or_else w (withdraw w) ≡ w
unfolding withdraw
withdraw_unpending w p = pick_elim (λ (r : Answer CbrWriter). or_else w r ≡ w) _ (λ e. refl) (λ e. none-pending w p)

-- ---- three targets, and the rate

abbrev Kept : CbrWriter → CbrWriter → Type 0
Kept v w = (v.target_bits ≡ w.target_bits) × (v.variable ≡ w.variable)

outcome_kept : {w : CbrWriter} {o : Offer} {a : Answer Given} → Outcome w o a → Kept (left_by w o a) w
unfolding with_pending with_placed pick
outcome_kept (stays e) = (rw e, rw e)
outcome_kept (closes g) = (refl, refl)
outcome_kept (retries g) = (refl, refl)
outcome_kept (hands_out g) = (refl, refl)

withdraw_kept : (w : CbrWriter) → Kept (or_else w (withdraw w)) w
unfolding withdraw with_pending
withdraw_kept w = pick_elim (λ (r : Answer CbrWriter). Kept (or_else w r) w) _ (λ e. (refl, refl)) (λ e. (refl, refl))

pub left_kept : (w : CbrWriter) (c : Call) → Kept (left_by_call w c) w
unfolding left_by_call
left_kept w (offering o) = outcome_kept (outcome w o)
left_kept w withdrawing = withdraw_kept w

-- ---- what holds of a writer between calls, with the numbers of targets and quantisers that its type has

pub record Whole (w : CbrWriter) : Type 0 where
  pub tries : ℕ
  pub inv : Inv tries w
  pub targets : length w.target_bits ≡ 3

fresh_targets : (c : CbrConfig) (m : VbvCbrModel) → length (fresh_writer c m).target_bits ≡ 3
unfolding fresh_writer targets
fresh_targets c m = refl

pub created-whole : (c : CbrConfig) (w : CbrWriter) → create c ≡ value w → Whole w
created-whole c w h = record { tries = 0; inv = (created_fresh c w h).inv; targets = rw (← (creation-found c w h).writer_is) (fresh_targets c _) }

pub left-whole : {w : CbrWriter} (c : Call) → Whole w → Whole (left_by_call w c)
left-whole {w} c h = record { tries = _; inv = call_inv c h.inv; targets = ap length (left_kept w c).0 ∙ h.targets }

pub final-whole : {w : CbrWriter} (l : List Call) → Whole w → Whole (final w l)
unfolding final
final-whole [] h = h
final-whole {w = w} (c ∷ l) h = final-whole {w = left_by_call w c} l (left-whole c h)
