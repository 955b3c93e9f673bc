-- Demand 3 from C: a list of calls on the state that a creation left asks the writer the calls of it that are for the writer, in order, and leaves the
-- bytes of the writer that is left.
-- Assumes nothing.
use mathlib.Core.Path.{◌≡◌, refl, sym, ap, ◌∙◌}
use mathlib.Core.Bool.{Bool, true, false, not}
use mathlib.Core.List.{List, [], ◌∷◌, ◌++◌}
use Prim.Native.Nat.{ℕ, ◌^◌, ◌≤◌, ◌<◌}
use native.Mathlib.Decide.{dec_lt}
use native.Mathlib.Omega.{arith}
use lib.Dec.{ltb}
use lib.ListN.{length, get_or, length-append}
use borrow.Author.Tests.{ltb-false, lt-ltb, le-ltb}
use Rattle.bits.specs.Bits.{pick}
use Rattle.bits.specs.Refusals.{Answer, value, refused, or_else, number}
use Rattle.rate_control.specs.Create.{create}
use Rattle.rate_control.specs.Offer.{withdraw}
use Rattle.rate_control.specs.Calls.{Call, offering, withdrawing, steps_of, final, left_by_call}
use Rattle.rate_control.specs.declared.CbrConfig.{CbrConfig}
use Rattle.rate_control.specs.declared.CbrWriter.{CbrWriter}
use Rattle.rate_control.proofs.Creation.{creation-found}
use Rattle.rate_control.proofs.Demand.{demand}
use Rattle.rate_control.proofs.Lists.{steps_none, steps_one, steps_append, final-none, final-one, final-append, left_by-offer, left_by_withdrawal, step-offer, step_withdrawal}
use Rattle.rate_control.proofs.Keeping.{Whole, created-whole, left-whole, final-whole}
use Rattle.bits.proofs.Numbering.{refused-low}
use Rattle.rate_control.proofs.Refusing.{writer_numbers}
use Rattle.layout.specs.State.{state_size, state_bytes, state_fits, writer_at}
use Rattle.layout.specs.Config.{config_size, has_mode, config_in}
use Rattle.words.specs.Words.{words_bytes, word_at, laid}
use Rattle.words.proofs.Bytes.{each_small, length_words, word_put}
use Rattle.layout.specs.Mode.{mode_number, is_mode, mode_for}
use Rattle.layout.proofs.Modes.{modes_numbered, no_mpeg1, for_one, Numbered, one, two, six, ten, fourteen, one_of}
use Rattle.layout.proofs.Configured.{mode_fits_lem, config_is}
use Rattle.pictures.specs.declared.VbvStandard.TheVariants.{Mpeg1, Mpeg2}
use Rattle.verify.specs.Mode.{mode_fits}
use Rattle.verify.proofs.Modes.{unfit_mode}
use Rattle.rate_control.specs.Due.{bad_range}
use Rattle.rate_control.proofs.Creating.{creation_only}
use Rattle.layout.proofs.RoundTrip.{read_put, length-state}
use Rattle.words.proofs.Laying.{laid-laid}
use Rattle.hipokuta.specs.Send.{state_after, create_in, create_with, COffer, choices_fit, offer_of, reach, offer_in, offer_state, offer_out, offer_place, withdraw_in}
use Rattle.hipokuta.specs.Calls.{CCall, offers, withdraws, call_state, offer_steps, call_steps, steps_from_c, final_state, for_writer, all_for_writer, c_sees, c_sees_all, shows_answer, shows_step, writer_shows, writer_shows_all, FromCreation, OwedFromC, config_words, ConfigRead, FromConfig, OwedFromConfig}
use Rattle.hipokuta.proofs.Sending.{with_mode}
use Rattle.layout.specs.Answers.{answer_size}

-- ---- a call on a writer's state in a place

module _ (w : CbrWriter) (h : Whole w) (place : List ℕ) (room : state_size ≤ length place) where
  abbrev bytes : List ℕ
  bytes = laid (state_bytes w) place

  fits : state_fits bytes ≡ true
  fits = (read_put w place h.inv.fits h.targets h.inv.three room).0

  read : writer_at bytes ≡ w
  read = (read_put w place h.inv.fits h.targets h.inv.three room).1

  -- the next writer's state covers the one before
  next-laid : (c : Call) → laid (state_bytes (left_by_call w c)) bytes ≡ laid (state_bytes (left_by_call w c)) place
  next-laid c =
      let n = left-whole c h in
      laid-laid _ _ place (length-state (left_by_call w c) n.targets n.inv.three ∙ sym (length-state w h.targets h.inv.three))

  -- what C sees
  sees-offer : (o : COffer) (a f : Bool) → ltb (length o.answer) answer_size ≡ a → choices_fit o ≡ f → c_sees bytes (offers o) ≡ writer_shows w (offers o)
  unfolding c_sees writer_shows shows_answer shows_step reach offer_in offer_out offer_place pick
  sees-offer o true f e g = rw (fits, e)
  sees-offer o false false e g = rw (fits, e, g)
  sees-offer o false true e g = rw (fits, e, g, read, step-offer w (offer_of o))

  sees : (c : CCall) → c_sees bytes c ≡ writer_shows w c
  unfolding c_sees writer_shows shows_step withdraw_in pick
  sees (offers o) = sees-offer o _ _ refl refl
  sees withdraws = rw (fits, read, step_withdrawal w)

  -- what a call asks and leaves
  record Asks (c : CCall) : Type 0 where
    same : call_steps bytes c ≡ steps_of w (for_writer c)
    left : call_state bytes c ≡ laid (state_bytes (final w (for_writer c))) place

  asks_nothing : (o : COffer) (n : ℕ) → reach bytes o ≡ refused n 0 0 0 → for_writer (offers o) ≡ [] → Asks (offers o)
  unfolding call_steps offer_steps call_state offer_state state_after
  asks_nothing o n e f = record { same = rw (e, f) (sym (steps_none w)); left = rw (e, f, final-none w) }

  asks_offer : (o : COffer) → reach bytes o ≡ value (w, offer_of o) → for_writer (offers o) ≡ offering (offer_of o) ∷ [] → Asks (offers o)
  unfolding call_steps offer_steps call_state offer_state state_after
  asks_offer o e f =
      record {
        same = rw (e, f) (sym (steps_one w (offering (offer_of o))));
        left = rw (e, f, final-one w (offering (offer_of o)), ← left_by-offer w (offer_of o)) (next-laid (offering (offer_of o)));
      }

  withdrawal_leaves : (a : Answer CbrWriter) → withdraw w ≡ a → laid (state_bytes (or_else w a)) bytes ≡ laid (state_bytes (or_else w a)) place
      → state_after a bytes ≡ laid (state_bytes (or_else w a)) place
  unfolding state_after
  withdrawal_leaves (value v) e l = l
  withdrawal_leaves (refused n k c x) e l = refl

  asks_withdrawal : Asks withdraws
  unfolding call_steps call_state withdraw_in for_writer pick
  asks_withdrawal =
      record {
        same = rw (fits, read) (sym (steps_one w withdrawing));
        left = rw (fits, read, final-one w withdrawing, left_by_withdrawal w)
            (withdrawal_leaves (withdraw w) refl (rw (← left_by_withdrawal w) (next-laid withdrawing)));
      }

  asks : (c : CCall) → Asks c
  unfolding reach for_writer pick
  asks withdraws = asks_withdrawal
  asks (offers o) = go (ltb (length o.answer) answer_size) (choices_fit o) refl refl
    where
      go : (a t : Bool) → ltb (length o.answer) answer_size ≡ a → choices_fit o ≡ t → Asks (offers o)
      go true t e f = asks_nothing o 19 (rw (fits, e)) (rw e)
      go false false e f = asks_nothing o 12 (rw (fits, e, f)) (rw (e, f))
      go false true e f = asks_offer o (rw (fits, e, f, read)) (rw (e, f))

-- ---- lists of calls

record AskAll (w : CbrWriter) (place : List ℕ) (cs : List CCall) : Type 0 where
  same : steps_from_c (laid (state_bytes w) place) cs ≡ steps_of w (all_for_writer cs)
  sees : c_sees_all (laid (state_bytes w) place) cs ≡ writer_shows_all w cs
  left : final_state (laid (state_bytes w) place) cs ≡ laid (state_bytes (final w (all_for_writer cs))) place

ask_all : (w : CbrWriter) → Whole w → (place : List ℕ) → state_size ≤ length place → (cs : List CCall) → AskAll w place cs
unfolding steps_from_c final_state c_sees_all writer_shows_all all_for_writer
ask_all w h place room [] = record { same = sym (steps_none w); sees = refl; left = rw (final-none w) }
ask_all w h place room (c ∷ cs) =
    let a = asks w h place room c in
    let b = ask_all (final w (for_writer c)) (final-whole (for_writer c) h) place room cs in
    record {
      same = rw (a.same, a.left, b.same) (sym (steps_append w (for_writer c) (all_for_writer cs)));
      sees = rw (sees w h place room c, a.left, b.sees);
      left = rw (a.left, final-append w (for_writer c) (all_for_writer cs)) b.left;
    }

-- ---- creation

created-state : (c : CbrConfig) (w : CbrWriter) (place : List ℕ) → create c ≡ value w → ltb (length place) state_size ≡ false
    → state_after (create_in c place) place ≡ laid (state_bytes w) place
unfolding create_in state_after pick
created-state c w place h e = rw (e, h)

created_from : (c : CbrConfig) (w : CbrWriter) (place : List ℕ) → create c ≡ value w → ltb (length place) state_size ≡ false → FromCreation c place
created_from c w place h e =
    let m = creation-found c w h in
    let s = created-state c w place h e in
    record {
      rate = m.frames;
      writer = w;
      rate_is = m.frames_are;
      writer_is = h;
      from_c =
          λ cs b.
          let a = ask_all w (created-whole c w h) place (ltb-false (length place) state_size e) cs in
          record { same = rw s a.same; sees = rw s a.sees; left = rw s a.left; demand = demand c m.frames w (all_for_writer cs) m.frames_are h b };
    }

-- 0 says that there is room, and a writer
pub from_c : OwedFromC
unfolding create_in pick
from_c c place n = go (ltb (length place) state_size) (create c) refl refl n
  where
    go : (t : Bool) (a : Answer CbrWriter) → ltb (length place) state_size ≡ t → create c ≡ a → number (pick t (refused 19 0 0 0) a) ≡ 0 → FromCreation c place
    go true a e f h = absurd (omega arith)
    go false (value w) e f h = created_from c w place f e
    go false (refused m k i j) e f h = absurd (omega (arith, refused-low refl refl refl (writer_numbers.creation c) f))

-- ---- a creation by a configuration's bytes

no_room : (c : CbrConfig) (place : List ℕ) → length place < state_size → create_in c place ≡ refused 19 0 0 0
unfolding create_in pick
no_room c place h = rw (lt-ltb (length place) state_size h)

too_short : (config place : List ℕ) → length config < config_size → create_with config place ≡ refused 12 0 0 0
unfolding create_with pick
too_short config place h = rw (lt-ltb (length config) config_size h)

no_room-with : (config place : List ℕ) → config_size ≤ length config → length place < state_size → create_with config place ≡ refused 19 0 0 0
unfolding create_with pick
no_room-with config place l h = rw (le-ltb (length config) config_size l, lt-ltb (length place) state_size h)

-- the first words' bytes are a configuration
read_words : (c : CbrConfig) (more : List ℕ) → ((k : ℕ) → get_or (config_words c) k 0 < 2 ^ 64) → (k : ℕ) → k < 9
    → word_at (words_bytes (config_words c) ++ more) k ≡ get_or (config_words c) k 0
read_words c more b k h = word_put (each_small (config_words c) (λ j g. b j)) more k h

words_long : (c : CbrConfig) (more : List ℕ) → config_size ≤ length (words_bytes (config_words c) ++ more)
words_long c more = omega (arith, length-append (words_bytes (config_words c)) more, length_words (config_words c))

config_read_back : (c : CbrConfig) (more : List ℕ) → ((k : ℕ) → get_or (config_words c) k 0 < 2 ^ 64) → mode_for (mode_number c.mode) ≡ c.mode
    → config_in (words_bytes (config_words c) ++ more) ≡ c
config_read_back c more b f =
    rw (
      config_is (words_bytes (config_words c) ++ more),
      read_words c more b 0 (omega arith),
      f,
      read_words c more b 1 (omega arith),
      read_words c more b 2 (omega arith),
      read_words c more b 3 (omega arith),
      read_words c more b 4 (omega arith),
      read_words c more b 5 (omega arith),
      read_words c more b 6 (omega arith),
      read_words c more b 7 (omega arith),
      read_words c more b 8 (omega arith),
    )

-- MPEG-1 is not written: 12 among the ranges
unwritten : (c : CbrConfig) (place : List ℕ) → state_size ≤ length place → c.mode.standard ≡ Mpeg1 → create_in c place ≡ refused 12 0 0 0
unfolding create_in pick
unwritten c place l e = rw (le-ltb (length place) state_size l) (sym (creation_only c (refused 12 0 0 0) (bad_range (λ r. clash_of (sym e ∙ r.mode_written)))))
  where
    clash_of : Mpeg1 ≡ Mpeg2 → ⊥
    clash_of z = let y : ◌≡◌ {A = ℕ} 0 1 = cc in omega arith

no_such_mode : (config place : List ℕ) → config_size ≤ length config → state_size ≤ length place → is_mode (word_at config 0) ≡ false → create_with config place ≡ refused 12 0 0 0
unfolding create_with pick
no_such_mode config place l h n = rw (le-ltb (length config) config_size l, le-ltb (length place) state_size h, mode_fits_lem config, n)

as_create : (c : CbrConfig) (more place : List ℕ) → ((k : ℕ) → get_or (config_words c) k 0 < 2 ^ 64)
    → create_with (words_bytes (config_words c) ++ more) place ≡ create_in c place
as_create c more place b = go (dec_lt (length place) state_size) (mode_fits c.mode) refl
  where
    word : word_at (words_bytes (config_words c) ++ more) 0 ≡ mode_number c.mode
    word = read_words c more b 0 (omega arith)

    go : Dec (length place < state_size) → (t : Bool) → mode_fits c.mode ≡ t → create_with (words_bytes (config_words c) ++ more) place ≡ create_in c place
    go (yes h) t e = no_room-with _ place (words_long c more) h ∙ sym (no_room c place h)
    go (no h) true e =
        let m = modes_numbered.has_number c.mode e in
        with_mode _ place (words_long c more) (omega (arith, h)) _ refl (rw word m.0) ∙ ap (λ (x : CbrConfig). create_in x place) (config_read_back c more b m.1)
    go (no h) false e =
        let u = unfit_mode c.mode e in
        no_such_mode _ place (words_long c more) (omega (arith, h)) (rw (word, u.0) (no_mpeg1 c.mode.film c.mode.variable u.1))
        ∙ sym (unwritten c place (omega (arith, h)) u.0)

another_mode : (config place : List ℕ) → config_size ≤ length config → state_size ≤ length place → (word_at config 0 ≡ 2 → ⊥) → (word_at config 0 ≡ 6 → ⊥) → (word_at config 0 ≡ 10 → ⊥) → (word_at config 0 ≡ 14 → ⊥)
    → create_with config place ≡ refused 12 0 0 0
another_mode config place l h a b c d = go (is_mode (word_at config 0)) refl
  where
    mode_is : (n : ℕ) → word_at config 0 ≡ n → Numbered n → (config_in config).mode.standard ≡ Mpeg1
    mode_is n e one = rw (config_is config, e, for_one)
    mode_is n e two = absurd (a e)
    mode_is n e six = absurd (b e)
    mode_is n e ten = absurd (c e)
    mode_is n e fourteen = absurd (d e)

    go : (t : Bool) → is_mode (word_at config 0) ≡ t → create_with config place ≡ refused 12 0 0 0
    go true e = with_mode config place l h _ refl e ∙ unwritten (config_in config) place h (mode_is (word_at config 0) refl (one_of (word_at config 0) e))
    go false e = no_such_mode config place l h e

pub config_read : ConfigRead
config_read = record { as_create = as_create; too_short = too_short; no_place = no_room-with; other_mode = another_mode }

-- 0 says that the bytes are long enough, that there is room, and that there is the mode
pub from_config : OwedFromConfig
unfolding create_with create_in pick
from_config config place n = go (ltb (length config) config_size) (ltb (length place) state_size) (has_mode config) refl refl refl n
  where
    go : (a b m : Bool) → ltb (length config) config_size ≡ a → ltb (length place) state_size ≡ b → has_mode config ≡ m
        → number (pick a (refused 12 0 0 0) (pick b (refused 19 0 0 0) (pick (not m) (refused 12 0 0 0) (create (config_in config))))) ≡ 0 → FromConfig config place
    go true b m e f g h = absurd (omega arith)
    go false true m e f g h = absurd (omega arith)
    go false false false e f g h = absurd (omega arith)
    go false false true e f g h = record { same = rw (e, f, g); from_creation = from_c (config_in config) place (rw f h) }
