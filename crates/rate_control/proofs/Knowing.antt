-- What a writer holds after any calls is what creation, the calls and their answers told.
-- Assumes nothing.
use Rattle.std.specs.Prelude.{None}
use mathlib.Core.Path.{◌≡◌, refl, sym, ap, ◌∙◌}
use mathlib.Core.Bool.{Bool, true, false}
use mathlib.Core.List.{List, [], ◌∷◌}
use Prim.Native.Nat.{ℕ, suc, ◌+◌, ◌*◌}
use native.Mathlib.Omega.{arith}
use native.Mathlib.Numerals.{add-one}
use lib.Dec.{ltb}
use lib.ListN.{length}
use borrow.Author.Tests.{lt-ltb}
use Rattle.bits.specs.Bits.{pick}
use Rattle.bits.specs.Refusals.{Answer, value, or_else}
use Rattle.vbv.specs.Annex.{arrived}
use Rattle.vbv.specs.Answers.{frame_rate}
use Rattle.vbv.specs.Model.{periods}
use Rattle.vbv.specs.declared.VbvParams.{VbvParams}
use Rattle.cadence.specs.Cadence.{interval, after}
use Rattle.cadence.specs.declared.VbvCadence.{VbvCadence}
use Rattle.layers.specs.Layer.{layer_fits, facts_in}
use Rattle.layers.proofs.Telling.{as_offered}
use Rattle.rate_control.specs.Answers.{Given}
use Rattle.rate_control.specs.Writer.{writer_fits, asked}
use Rattle.rate_control.specs.Create.{writer_params, fresh_writer, create}
use Rattle.rate_control.specs.Offer.{Offer, end, cadence_at, interval_at, delivered_at, delivered_next, placed_bytes, with_pending, with_placed, offer, left_by, left, withdraw}
use Rattle.rate_control.specs.Calls.{Call, offering, withdrawing, step_of, left_by_call, steps_of, final}
use Rattle.rate_control.specs.Due.{Known, at_first, delivered_for, cadence_for, facts_for, lasts_in, pending_now, known_after_offer, known_after, holding, targets_of}
use Rattle.rate_control.specs.declared.CbrConfig.{CbrConfig}
use Rattle.rate_control.specs.Demand.{retries_after}
use Rattle.rate_control.specs.declared.CbrWriter.{CbrWriter}
use Rattle.vbv.proofs.Cases.{model_at, after_is, delivered-of}
use Rattle.vbr.proofs.Either.{made-at_is}
use Rattle.rate_control.proofs.Chain.{Outcome, stays, closes, retries, hands_out, outcome}
use Rattle.rate_control.proofs.Placing.{delivered-later, delivered-first, next_is, end_is}
use Rattle.rate_control.proofs.Creation.{creation-found}
use Rattle.rate_control.proofs.Invariant.{Inv, call_inv, withdraw_is}
use Rattle.rate_control.proofs.Removing.{position-same}

pub any_placed_lem : (n : ℕ) → ltb 0 (suc n) ≡ true
any_placed_lem n = lt-ltb 0 (suc n) (omega arith)

module _ (p : VbvParams) (t : List ℕ) where
  -- ---- an offer

  module _ (x : Known) (o : Offer) where
    pub delivered_known : delivered_at (holding p t x) o ≡ delivered_for p x o
    unfolding pick
    delivered_known = go (holding p t x).model.started refl
      where
        go : (b : Bool) → (holding p t x).model.started ≡ b → delivered_at (holding p t x) o ≡ delivered_for p x o
        go true e = rw (delivered-later (holding p t x) o e, delivered-of, e)
        go false e = rw (delivered-first (holding p t x) o refl e, position-same x.bytes (holding p t x) o refl, e)

    pub cadence_known : cadence_at (holding p t x) o.headers ≡ cadence_for x o
    unfolding cadence_at
    cadence_known = refl

    end_known : end (holding p t x) o ≡ 8 * (x.bytes + length (placed_bytes (holding p t x) o))
    end_known = omega (arith, end_is (holding p t x) o)

    -- a layer that fits tells what the offer says
    module _ (f : layer_fits x.cadence.film o.kind o.interval o.layer ≡ true) where
      facts_known : facts_in o.layer ≡ facts_for o
      facts_known = as_offered x.cadence.film o.kind o.interval o.layer f

      pub lasts_known : interval_at (holding p t x) o ≡ lasts_in x o
      unfolding interval_at
      lasts_known = ap (λ (k : VbvCadence). interval k (facts_in o.layer)) cadence_known ∙ ap (interval (cadence_for x o)) facts_known

      next_known : delivered_next (holding p t x) o
          ≡ arrived x.variable p (8 * (x.bytes + length (placed_bytes (holding p t x) o))) (delivered_for p x o) (periods (lasts_in x o))
      next_known = rw (next_is, end_known, delivered_known, lasts_known)

      moved_known : after (cadence_at (holding p t x) o.headers) (facts_in o.layer) ≡ after (cadence_for x o) (facts_for o)
      moved_known = ap (λ (k : VbvCadence). after k (facts_in o.layer)) cadence_known ∙ ap (after (cadence_for x o)) facts_known

    outcome_told : {a : Answer Given} → Outcome (holding p t x) o a → left_by (holding p t x) o a ≡ holding p t (known_after_offer p t x o a)
    unfolding with_pending with_placed asked pick
    outcome_told (stays e) = rw e
    outcome_told (closes g) = refl
    outcome_told (retries g) = refl
    outcome_told (hands_out g) =
        rw (after_is, next_known g.layer_fits, end_known, moved_known g.layer_fits, add-one, ← any_placed_lem x.pictures)

  pub offer_told : (w : CbrWriter) (x : Known) (o : Offer) → w ≡ holding p t x → left w o ≡ holding p t (known_after_offer p t x o (offer w o))
  offer_told w x o e = rw e (outcome_told x o (outcome _ o))

  pub withdrawal_told : (w : CbrWriter) (x : Known) → writer_fits w ≡ true → w ≡ holding p t x → or_else w (withdraw w) ≡ holding p t (pending_now x None)
  unfolding with_pending
  withdrawal_told w x f e = withdraw_is w f ∙ rw e

  -- ---- a list of calls

  pub state : {n : ℕ} (w : CbrWriter) (x : Known) (l : List Call) → w ≡ holding p t x → Inv n w → final w l ≡ holding p t (known_after p t x (steps_of w l))
  unfolding steps_of step_of left_by_call final
  state w x [] e h = e
  state {n = n} w x (offering o ∷ l) e h =
      state {n = retries_after n (step_of w (offering o))} _ _ l (offer_told w x o e) (call_inv (offering o) h)
  state {n = n} w x (withdrawing ∷ l) e h = state {n = retries_after n (step_of w withdrawing)} _ _ l (withdrawal_told w x h.fits e) (call_inv withdrawing h)

-- ---- a writer that was created

pub fresh_known : (c : CbrConfig) (f : ℕ × ℕ)
    → fresh_writer c (model_at (writer_params c f) 0 0 0 false)
    ≡ holding (writer_params c f) (targets_of c f) (at_first c)
unfolding fresh_writer
fresh_known c f = refl

pub created_known : (c : CbrConfig) (f : ℕ × ℕ) (w : CbrWriter) → frame_rate c.frame_rate_code c.frame_rate_extension_n c.frame_rate_extension_d ≡ value f → create c ≡ value w
    → w ≡ holding (writer_params c f) (targets_of c f) (at_first c)
created_known c f w e h =
    let x = creation-found c w h in
    let same : value x.frames ≡ value f = sym x.frames_are ∙ e in
    let g : x.frames ≡ f = cc in
    let m : x.model ≡ model_at (writer_params c x.frames) 0 0 0 false = made-at_is c.mode.variable _ _ x.model_is in
    sym x.writer_is ∙ rw (m, g) (fresh_known c f)
