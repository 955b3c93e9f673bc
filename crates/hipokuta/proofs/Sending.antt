-- The ways through the writer's entries.
-- Assumes nothing.
use mathlib.Core.Path.{◌≡◌, refl, sym, ap, ◌∙◌}
use mathlib.Core.Bool.{Bool, true, false, ◌&&◌}
use mathlib.Core.List.{List}
use Prim.Native.Nat.{ℕ, ◌≤◌, ◌<◌}
use native.Mathlib.Omega.{arith}
use lib.Dec.{leb, eqb}
use lib.ListN.{length}
use borrow.Author.Tests.{lt-ltb, le-ltb}
use Rattle.bits.specs.Bits.{pick}
use Rattle.bits.specs.Refusals.{value, refused, number}
use Rattle.std.specs.Prelude.{Option, Some, None, Result, Ok, Err}
use Rattle.vbv.specs.Answers.{model_number, model_answer}
use Rattle.vbv.specs.declared.RemovalInterval.{RemovalInterval}
use Rattle.vbv.specs.declared.VbvError.{VbvError}
use Rattle.bits.specs.Refusals.{plain}
use Rattle.bits.specs.declared.VbvRefusal.{VbvRefusal}
use Rattle.layers.specs.declared.PictureKind.{PictureKind}
use Rattle.rate_control.specs.Answers.{offer_answer}
use Rattle.rate_control.specs.Create.{create}
use Rattle.rate_control.specs.Offer.{Offer, offer, left, out_after, withdraw}
use Rattle.rate_control.specs.declared.CbrConfig.{CbrConfig}
use Rattle.rate_control.specs.declared.CbrWriter.{CbrWriter}
use Rattle.rate_control.specs.declared.CbrOffered.{CbrOffered}
use Rattle.rate_control.proofs.Creation.{within_is}
use Rattle.layout.specs.Answers.{answer_size, answer_words}
use Rattle.layout.specs.Config.{config_size, config_in}
use Rattle.layout.specs.State.{state_size, state_bytes, state_at}
use Rattle.words.specs.Words.{words_bytes, laid, word_at}
use Rattle.layout.proofs.Answering.{length-refused-answer}
use Rattle.layout.specs.Mode.{is_mode}
use Rattle.layout.proofs.Configured.{mode_fits_lem}
use Rattle.layout.proofs.Held.{holds, holds_none}
use Rattle.words.proofs.Laying.{laid-short}
use Rattle.hipokuta.specs.Send.{state_after, create_in, create_with, COffer, kind_for, interval_for, choices_fit, offer_of, reach, offer_in, offer_state, offer_out, offer_place, withdraw_in}

-- ---- creation: the number, and the place afterwards

-- of a writer, or why there is none
module _ (r : Result CbrWriter VbvError) (place : List ℕ) where
  abbrev pub Puts : ℕ → List ℕ → Type 0
  Puts n after = (n ≡ number (model_answer r)) × (after ≡ state_after (model_answer r) place)

  pub is_put : (w : CbrWriter) (after : List ℕ) → r ≡ Ok w → after ≡ laid (state_bytes w) place → Puts 0 after
  unfolding state_after
  is_put w after h g = rw h (refl, g)

  pub not_put : (v : VbvError) (n : ℕ) → r ≡ Err v → n ≡ model_number v → Puts n place
  unfolding state_after
  not_put v n h g = rw h (g, refl)

module _ (c : CbrConfig) (place : List ℕ) where
  abbrev Creates : ℕ → List ℕ → Type 0
  Creates n after = (n ≡ number (create_in c place)) × (after ≡ state_after (create_in c place) place)

  pub no_state_place : length place < state_size → Creates 19 place
  unfolding create_in state_after pick
  no_state_place h = rw (lt-ltb (length place) state_size h) (refl, refl)

  pub created_in : state_size ≤ length place → (r : Result CbrWriter VbvError) → model_answer r ≡ create c → (n : ℕ) (after : List ℕ) → Puts r place n after → Creates n after
  unfolding create_in pick
  created_in room r e n after h = rw (le-ltb (length place) state_size room, ← e) h

module _ (config place : List ℕ) where
  abbrev CreatesWith : ℕ → List ℕ → Type 0
  CreatesWith n after = (n ≡ number (create_with config place)) × (after ≡ state_after (create_with config place) place)

  pub config_short : length config < config_size → 12 ≡ number (create_with config place)
  unfolding create_with pick
  config_short h = rw (lt-ltb (length config) config_size h)

  pub config_short_leaves : length config < config_size → place ≡ state_after (create_with config place) place
  unfolding create_with state_after pick
  config_short_leaves h = rw (lt-ltb (length config) config_size h)

  module _ (long : config_size ≤ length config) where
    pub no_place-with : length place < state_size → CreatesWith 19 place
    unfolding create_with state_after pick
    no_place-with h = rw (le-ltb (length config) config_size long, lt-ltb (length place) state_size h) (refl, refl)

    module _ (room : state_size ≤ length place) (b : Bool) (m : b ≡ is_mode (word_at config 0)) where
      pub other_mode : b ≡ false → CreatesWith 12 place
      unfolding create_with state_after pick
      other_mode n = rw (le-ltb (length config) config_size long, le-ltb (length place) state_size room, mode_fits_lem config, ← m, n) (refl, refl)

      -- with room and a mode it is the creation with what the bytes hold
      pub with_mode : b ≡ true → create_with config place ≡ create_in (config_in config) place
      unfolding create_with create_in pick
      with_mode h = rw (le-ltb (length config) config_size long, le-ltb (length place) state_size room, mode_fits_lem config, ← m, h)

      pub created-with : b ≡ true → (r : Result CbrWriter VbvError) → model_answer r ≡ create (config_in config) → (n : ℕ) (after : List ℕ) → Puts r place n after
          → CreatesWith n after
      created-with h r e n after t = rw (with_mode h) (created_in (config_in config) place room r e n after t)

-- ---- an offer: the number, and state, output part and answer place afterwards

module _ (s : List ℕ) (o : COffer) where
  abbrev Leaves : ℕ → List ℕ → List ℕ → List ℕ → Type 0
  Leaves n after out answer = (n ≡ number (offer_in s o)) × ((after ≡ offer_state s o) × ((out ≡ offer_out s o) × (answer ≡ offer_place s o)))

  -- a refusal's words in the answer place
  abbrev worded : VbvRefusal → List ℕ
  worded r = laid (words_bytes (answer_words (refused r.number r.picture r.coded r.expected))) o.answer

  stopped : (n : ℕ) → reach s o ≡ refused n 0 0 0 → {r : VbvRefusal} {answer : List ℕ} → r ≡ plain n → answer ≡ worded r → Leaves n s o.out answer
  unfolding offer_in offer_state offer_out offer_place state_after
  stopped n e f g = rw e (refl, (refl, (refl, g ∙ ap worded f)))

  -- the test of kind, interval and flag as the code has it, and the offer with what they stand for
  abbrev codes : Bool
  codes = leb o.kind 2 && ((leb 1 o.interval && leb o.interval 2) && leb o.last 1)

  abbrev offered : PictureKind → RemovalInterval → Offer
  offered k i = record { headers = o.headers; kind = k; interval = i; last = eqb o.last 1; layer = o.layer; out = o.out }

  codes_told : codes ≡ choices_fit o
  unfolding choices_fit
  codes_told = rw (within_is 1 2 o.interval)

  module _ (x : Option CbrWriter) (e : x ≡ state_at s) where
    pub no_state_lem : x ≡ None → {r : VbvRefusal} {answer : List ℕ} → r ≡ plain 12 → answer ≡ worded r → Leaves 12 s o.out answer
    unfolding reach pick
    no_state_lem h f g = stopped 12 (rw (holds_none s x e h)) f g

    module _ (w : CbrWriter) (h : x ≡ Some w) where
      pub no_answer_place : length o.answer < answer_size → Leaves 19 s o.out o.answer
      unfolding reach pick
      no_answer_place l =
          let short = laid-short (words_bytes (answer_words (refused 19 0 0 0))) o.answer (omega (arith, length-refused-answer 19 0 0 0)) in
          stopped 19 (rw ((holds s x e h).0, lt-ltb (length o.answer) answer_size l)) refl (sym short)

      module _ (l : answer_size ≤ length o.answer) where
        pub no_code : codes ≡ false → {r : VbvRefusal} {answer : List ℕ} → r ≡ plain 12 → answer ≡ worded r → Leaves 12 s o.out answer
        unfolding reach pick
        no_code t f g = stopped 12 (rw ((holds s x e h).0, le-ltb (length o.answer) answer_size l, sym codes_told ∙ t)) f g

        -- the writer is asked
        module _ (t : codes ≡ true) where
          reaches : reach s o ≡ value (w, offer_of o)
          unfolding reach pick
          reaches =
              let k = holds s x e h in
              rw (k.0, le-ltb (length o.answer) answer_size l, sym codes_told ∙ t, k.1)

          pub asked : (k : PictureKind) (i : RemovalInterval) → k ≡ kind_for o.kind → i ≡ interval_for o.interval
              → (r : CbrOffered) → offer_answer r.answer ≡ offer w (offered k i) → r.writer ≡ left w (offered k i)
              → {n : ℕ} {after out answer : List ℕ} → n ≡ number (offer_answer r.answer) → after ≡ laid (state_bytes r.writer) s
              → out ≡ out_after w (offered k i)
              → answer ≡ laid (words_bytes (answer_words (offer_answer r.answer))) o.answer
              → Leaves n after out answer
          unfolding offer_in offer_state offer_out offer_place state_after offer_of
          asked k i kind interval r f g n after out answer =
              rw (reaches, ← kind, ← interval)
              (n ∙ ap number f, (after ∙ ap (λ y. laid (state_bytes y) s) g, (out, answer ∙ ap (λ y. laid (words_bytes (answer_words y)) o.answer) f)))

-- ---- a withdrawal: the number, and the state afterwards

module _ (s : List ℕ) (x : Option CbrWriter) (e : x ≡ state_at s) where
  abbrev Withdraws : ℕ → List ℕ → Type 0
  Withdraws n after = (n ≡ number (withdraw_in s)) × (after ≡ state_after (withdraw_in s) s)

  pub no_writer_lem : x ≡ None → Withdraws 12 s
  unfolding withdraw_in state_after pick
  no_writer_lem h = rw (holds_none s x e h) (refl, refl)

  pub withdraws : (w : CbrWriter) → x ≡ Some w → (r : Result CbrWriter VbvError) → model_answer r ≡ withdraw w → (n : ℕ) (after : List ℕ) → Puts r s n after → Withdraws n after
  unfolding withdraw_in pick
  withdraws w h r f n after t = let k = holds s x e h in rw ((holds s x e h).0, ← (holds s x e h).1, ← f) t
