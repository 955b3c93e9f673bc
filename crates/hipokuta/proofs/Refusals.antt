-- What a refused call leaves: state and output part as they were, but that 21 closes the pending picture; and the output part that has room for every picture.
-- Assumes nothing.
use mathlib.Core.Path.{◌≡◌, refl, ◌∙◌}
use mathlib.Core.Bool.{Bool, true, false}
use mathlib.Core.List.{List}
use Prim.Native.Nat.{ℕ, ◌*◌, ◌≤◌}
use native.Mathlib.Omega.{arith}
use lib.ListN.{length}
use borrow.Author.Tests.{not-false, ltb-true}
use Rattle.bits.proofs.Flags.{pick_elim}
use Rattle.bits.specs.Bits.{pick}
use Rattle.bits.specs.Refusals.{Answer, value, refused, and_then, or_else, number}
use Rattle.headers.specs.RoundTrips.{Bytes}
use Rattle.rate_control.specs.Answers.{Given}
use Rattle.rate_control.specs.Offer.{Offer, offer, left, out_after, withdraw}
use Rattle.rate_control.specs.declared.CbrWriter.{CbrWriter}
use Rattle.std.specs.Prelude.{None}
use Rattle.rate_control.proofs.Placing.{room-enough}
use Rattle.rate_control.proofs.Keeping.{refused_keeps, refused-closes, refused-out, withdraw_unpending}
use Rattle.rate_control.proofs.States.{withdraw-answer}
use Rattle.layout.specs.State.{state_bytes, state_fits, writer_at}
use Rattle.words.specs.Words.{laid}
use Rattle.layout.proofs.RoundTrip.{read_back, state_fits_lem}
use Rattle.hipokuta.specs.Send.{state_after, create_in, create_with, COffer, offer_of, reach, offer_in, offer_state, offer_out, withdraw_in}
use Rattle.hipokuta.specs.Calls.{OwedOfRefusals}
use Rattle.layout.specs.Answers.{answer_size}

-- a refused creation or withdrawal
refused-after : (a : Answer CbrWriter) (s : List ℕ) → 1 ≤ number a → state_after a s ≡ s
unfolding state_after
refused-after (value w) s h = absurd (omega arith)
refused-after (refused n k c e) s h = refl

-- how far an offer comes
data Way (s : List ℕ) (o : COffer) : Answer (CbrWriter × Offer) → Type 0 where
  stops : (n : ℕ) → (answer_size ≤ length o.answer → n ≡ 12) → n ≤ 19 → Way s o (refused n 0 0 0)
  reaches : state_fits s ≡ true → Way s o (value (writer_at s, offer_of o))

way : (s : List ℕ) (o : COffer) → Way s o (reach s o)
unfolding reach
way s o =
    pick_elim W _ (λ e. stops 12 (λ h. refl) (omega arith)) λ f.
    pick_elim W _ (λ e. stops 19 (λ h. absurd (omega (arith, ltb-true (length o.answer) answer_size e))) (omega arith)) λ a.
    pick_elim W _ (λ e. stops 12 (λ h. refl) (omega arith)) λ c.
    reaches (not-false _ f)
  where
    W : Answer (CbrWriter × Offer) → Type 0
    W r = Way s o r

module _ (s : List ℕ) (o : COffer) (b : Bytes s) where
  abbrev w : CbrWriter
  w = writer_at s

  abbrev p : Offer
  p = offer_of o

  -- the same writer's state
  same_writer : {v : CbrWriter} → state_fits s ≡ true → v ≡ w → laid (state_bytes v) s ≡ s
  same_writer f e = rw e (read_back s f b)

  withdrawn-state : state_fits s ≡ true → state_after (withdraw_in s) s ≡ laid (state_bytes (or_else w (withdraw w))) s
  unfolding withdraw_in state_after pick
  withdrawn-state f = rw (f, withdraw-answer w (state_fits_lem s f).2)

  -- number, state and output part, by how far the offer comes
  abbrev told_number : Answer (CbrWriter × Offer) → ℕ
  told_number r = number (and_then r (λ x. offer x.0 x.1))

  abbrev leaves : Answer (CbrWriter × Offer) → List ℕ
  leaves r = state_after (and_then r (λ x. value (left x.0 x.1))) s

  abbrev puts : Answer (CbrWriter × Offer) → List ℕ
  puts r = or_else o.out (and_then r (λ x. value (out_after x.0 x.1)))

  state_kept : {r : Answer (CbrWriter × Offer)} → Way s o r → 1 ≤ told_number r → (told_number r ≡ 21 → ⊥) → leaves r ≡ s
  unfolding state_after
  state_kept (stops n k l) h t = refl
  state_kept (reaches f) h t = go (offer w p) refl h t
    where
      go : (a : Answer Given) → offer w p ≡ a → 1 ≤ number a → (number a ≡ 21 → ⊥) → laid (state_bytes (left w p)) s ≡ s
      go (value g) e h t = absurd (omega arith)
      go (refused n k c x) e h t = same_writer f (refused_keeps w p e t)

  closing : {r : Answer (CbrWriter × Offer)} → Way s o r → told_number r ≡ 21 → leaves r ≡ state_after (withdraw_in s) s
  unfolding state_after
  closing (stops n k l) h = absurd (omega arith)
  closing (reaches f) h = go (offer w p) refl h
    where
      go : (a : Answer Given) → offer w p ≡ a → number a ≡ 21 → laid (state_bytes (left w p)) s ≡ state_after (withdraw_in s) s
      go (value g) e h = absurd (omega arith)
      go (refused n k c x) e h = rw (withdrawn-state f, refused-closes w p e (state_fits_lem s f).2 h)

  out_kept : {r : Answer (CbrWriter × Offer)} → Way s o r → 1 ≤ told_number r → puts r ≡ o.out
  unfolding offer_of
  out_kept (stops n k l) h = refl
  out_kept (reaches f) h = go (offer w p) refl h
    where
      go : (a : Answer Given) → offer w p ≡ a → 1 ≤ number a → out_after w p ≡ o.out
      go (value g) e h = absurd (omega arith)
      go (refused n k c x) e h = refused-out w p e

  withdrawal_kept : w.pending ≡ None → state_after (withdraw_in s) s ≡ s
  unfolding withdraw_in state_after pick
  withdrawal_kept n = go (state_fits s) refl
    where
      go : (t : Bool) → state_fits s ≡ t → state_after (withdraw_in s) s ≡ s
      go true f = withdrawn-state f ∙ same_writer f (withdraw_unpending w n)
      go false f = rw f

  room_kept : {r : Answer (CbrWriter × Offer)} → Way s o r → answer_size ≤ length o.answer → w.model.params.buffer_size_bits ≤ 8 * length o.out → told_number r ≡ 19 → ⊥
  unfolding offer_of
  room_kept (stops n k m) a l h = omega (arith, k a)
  room_kept (reaches f) a l h = room-enough w p l h

no_writer-first : (s : List ℕ) (o : COffer) → state_fits s ≡ false → (offer_in s o ≡ refused 12 0 0 0) × (withdraw_in s ≡ refused 12 0 0 0)
unfolding offer_in reach withdraw_in pick
no_writer-first s o e = (rw e, rw e)

pub refusals : OwedOfRefusals
unfolding offer_in offer_state offer_out
refusals s o b =
    let y = way s o in
    record {
      no_writer_lem = no_writer-first s o;
      state = state_kept s o b y;
      closes = closing s o b y;
      not_pending = withdrawal_kept s o b;
      out = out_kept s o b y;
      room = room_kept s o b y;
      not_withdrawn = refused-after (withdraw_in s) s;
      not_created_lem = λ c. refused-after (create_in c s) s;
      not_configured = λ config. refused-after (create_with config s) s;
    }
