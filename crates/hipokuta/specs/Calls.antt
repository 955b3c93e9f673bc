-- Lists of calls from C on the state that `cbr_create` or `cbr_create_config` left (paper 01, 'Rust forms to replace'): demand 3 covers them, since those that reach the writer are answered as the same
-- calls on the writer itself; a refusal leaves the state's bytes alone, but for 21; and what output part is large enough.
-- Assumes nothing.
use Rattle.std.specs.Prelude.{ℕ, ◌*◌, ◌^◌, ◌≤◌, ◌<◌, ◌≡◌, List, [], ◌∷◌, ◌++◌, false, not, ltb, length, get_or, None}
use Rattle.bits.specs.Bits.{pick}
use Rattle.bits.specs.Refusals.{Answer, value, refused, number}
use Rattle.headers.specs.RoundTrips.{Bytes}
use Rattle.vbv.specs.Answers.{frame_rate}
use Rattle.rate_control.specs.Answers.{Given}
use Rattle.rate_control.specs.Create.{create}
use Rattle.rate_control.specs.Offer.{Offer}
use Rattle.rate_control.specs.Calls.{Call, offering, withdrawing, Step, offered, withdrawn, step_of, steps_of, final}
use Rattle.rate_control.specs.Demand.{AllBytes, DemandOf}
use Rattle.rate_control.specs.declared.CbrConfig.{CbrConfig}
use Rattle.rate_control.specs.declared.CbrWriter.{CbrWriter}
use Rattle.layout.specs.Mode.{mode_number}
use Rattle.layout.specs.Config.{config_in}
use Rattle.layout.specs.State.{state_bytes, state_fits, writer_at}
use Rattle.layout.specs.Answers.{answer_size, answer_words}
use Rattle.words.specs.Words.{words_bytes, word_at, laid}
use Rattle.hipokuta.specs.Send.{state_after, create_in, create_with, COffer, choices_fit, offer_of, reach, offer_in, offer_state, offer_out, offer_place, withdraw_in}

pub data CCall : Type 0 where
  offers : COffer → CCall
  withdraws : CCall

-- the state's bytes after a call
unfoldable pub call_state : List ℕ → CCall → List ℕ
call_state s (offers o) = offer_state s o
call_state s withdraws = state_after (withdraw_in s) s

-- what the writer was asked and answered in a call; nothing, where the call stopped ahead of it
unfoldable pub offer_steps : Answer (CbrWriter × Offer) → List Step
offer_steps (value x) = step_of x.0 (offering x.1) ∷ []
offer_steps (refused n k c e) = []

unfoldable pub call_steps : List ℕ → CCall → List Step
call_steps s (offers o) = offer_steps (reach s o)
call_steps s withdraws = pick (not (state_fits s)) [] (step_of (writer_at s) withdrawing ∷ [])

unfoldable pub steps_from_c : List ℕ → List CCall → List Step
steps_from_c s [] = []
steps_from_c s (c ∷ cs) = call_steps s c ++ steps_from_c (call_state s c) cs

unfoldable pub final_state : List ℕ → List CCall → List ℕ
final_state s [] = s
final_state s (c ∷ cs) = final_state (call_state s c) cs

-- the calls of the list that are for the writer: an offer with an answer place, and with a kind, interval and flag
unfoldable pub for_writer : CCall → List Call
for_writer (offers o) =
    pick (ltb (length o.answer) answer_size) []
    (pick (not (choices_fit o)) []
    (offering (offer_of o) ∷ []))
for_writer withdraws = withdrawing ∷ []

unfoldable pub all_for_writer : List CCall → List Call
all_for_writer [] = []
all_for_writer (c ∷ cs) = for_writer c ++ all_for_writer cs

-- what C sees of a call: the value returned, and its output part and answer place afterwards
pub record SeenByC : Type 0 where
  pub returned : ℕ
  pub out : List ℕ
  pub answer : List ℕ

-- of calls on a state's bytes, by the promises of the entries
unfoldable pub c_sees : List ℕ → CCall → SeenByC
c_sees s (offers o) = record { returned = number (offer_in s o); out = offer_out s o; answer = offer_place s o }
c_sees s withdraws = record { returned = number (withdraw_in s); out = []; answer = [] }

unfoldable pub c_sees_all : List ℕ → List CCall → List SeenByC
c_sees_all s [] = []
c_sees_all s (c ∷ cs) = c_sees s c ∷ c_sees_all (call_state s c) cs

-- of the same calls on a writer: what it answered and put out, as number and words; or the refusal that stops an offer ahead of it
unfoldable pub shows_answer : Answer Given → List ℕ → List ℕ → SeenByC
shows_answer a out place = record { returned = number a; out = out; answer = laid (words_bytes (answer_words a)) place }

unfoldable pub shows_step : Step → List ℕ → SeenByC
shows_step (offered o a out) place = shows_answer a out place
shows_step (withdrawn n) place = record { returned = n; out = []; answer = place }

unfoldable pub writer_shows : CbrWriter → CCall → SeenByC
writer_shows w (offers o) =
    pick (ltb (length o.answer) answer_size) (shows_answer (refused 19 0 0 0) o.out o.answer)
    (pick (not (choices_fit o)) (shows_answer (refused 12 0 0 0) o.out o.answer)
    (shows_step (step_of w (offering (offer_of o))) o.answer))
writer_shows w withdraws = shows_step (step_of w withdrawing) []

unfoldable pub writer_shows_all : CbrWriter → List CCall → List SeenByC
writer_shows_all w [] = []
writer_shows_all w (c ∷ cs) = writer_shows w c ∷ writer_shows_all (final w (for_writer c)) cs

-- of calls on the state of the writer w, created with c in a place, its frame rate being f
pub record FromC (c : CbrConfig) (f : ℕ × ℕ) (w : CbrWriter) (place : List ℕ) (cs : List CCall) : Type 0 where
  -- the writer is asked these calls, in order, each on what the one before left, and these are its answers
  pub same : steps_from_c (state_after (create_in c place) place) cs ≡ steps_of w (all_for_writer cs)
  -- C sees of every call what the writer shows of it; no call finds the state unfit
  pub sees : c_sees_all (state_after (create_in c place) place) cs ≡ writer_shows_all w cs
  -- the bytes that are left are those of the writer that is left
  pub left : final_state (state_after (create_in c place) place) cs ≡ laid (state_bytes (final w (all_for_writer cs))) place
  pub demand : DemandOf c f w (all_for_writer cs)

-- a creation that C sees accepted has a frame rate and a writer, and so it is with every list of calls
pub record FromCreation (c : CbrConfig) (place : List ℕ) : Type 0 where
  pub rate : ℕ × ℕ
  pub writer : CbrWriter
  pub rate_is : frame_rate c.frame_rate_code c.frame_rate_extension_n c.frame_rate_extension_d ≡ value rate
  pub writer_is : create c ≡ value writer
  pub from_c : (cs : List CCall) → AllBytes (all_for_writer cs) → FromC c rate writer place cs

abbrev pub OwedFromC : Type 0
OwedFromC = (c : CbrConfig) (place : List ℕ) → number (create_in c place) ≡ 0 → FromCreation c place

-- ---- a creation by a configuration's bytes

-- the words of a configuration, in their order: the mode's number before its other fields
abbrev pub config_words : CbrConfig → List ℕ
config_words c =
    mode_number c.mode
    ∷ c.bit_rate_value
    ∷ c.vbv_buffer_size_value
    ∷ c.frame_rate_code
    ∷ c.frame_rate_extension_n
    ∷ c.frame_rate_extension_d
    ∷ c.initial_quantiser_scale_code
    ∷ c.b_between
    ∷ c.anchors_per_gop
    ∷ []

-- a creation by the bytes of these words is the creation with the fields, large ones too, whatever stands after them: in mode 2 with n and d 0
-- that of `cbr_create`. First 12 for bytes that are too few, then 19 for a place that is too short, then 12 for another mode
pub record ConfigRead : Type 0 where
  pub as_create : (c : CbrConfig) (more place : List ℕ) → ((k : ℕ) → get_or (config_words c) k 0 < 2 ^ 64)
      → create_with (words_bytes (config_words c) ++ more) place ≡ create_in c place
  pub too_short : (config place : List ℕ) → length config < 72 → create_with config place ≡ refused 12 0 0 0
  pub no_place : (config place : List ℕ) → 72 ≤ length config → length place < 200 → create_with config place ≡ refused 19 0 0 0
  pub other_mode : (config place : List ℕ) → 72 ≤ length config → 200 ≤ length place → (word_at config 0 ≡ 2 → ⊥) → (word_at config 0 ≡ 6 → ⊥) → (word_at config 0 ≡ 10 → ⊥) → (word_at config 0 ≡ 14 → ⊥)
      → create_with config place ≡ refused 12 0 0 0

-- an accepted creation by a configuration's bytes leaves the place as the creation with what they hold does, and so it is with every list of calls
pub record FromConfig (config place : List ℕ) : Type 0 where
  pub same : create_with config place ≡ create_in (config_in config) place
  pub from_creation : FromCreation (config_in config) place

abbrev pub OwedFromConfig : Type 0
OwedFromConfig = (config place : List ℕ) → number (create_with config place) ≡ 0 → FromConfig config place

-- ---- one call

-- what a refusal leaves as it was, of any state bytes and offer; Numbers.antt says which numbers there are
pub record Keeps (s : List ℕ) (o : COffer) : Type 0 where
  -- state bytes that hold no writer are 12 before anything else
  pub no_writer_lem : state_fits s ≡ false → (offer_in s o ≡ refused 12 0 0 0) × (withdraw_in s ≡ refused 12 0 0 0)
  -- a refusal changes neither state nor output part, but that 21 does what a withdrawal does
  pub state : 1 ≤ number (offer_in s o) → (number (offer_in s o) ≡ 21 → ⊥) → offer_state s o ≡ s
  pub closes : number (offer_in s o) ≡ 21 → offer_state s o ≡ state_after (withdraw_in s) s
  -- which with nothing pending has nothing to close
  pub not_pending : (writer_at s).pending ≡ None → state_after (withdraw_in s) s ≡ s
  pub out : 1 ≤ number (offer_in s o) → offer_out s o ≡ o.out
  -- an output part as large as the buffer always has room
  pub room : answer_size ≤ length o.answer → (writer_at s).model.params.buffer_size_bits ≤ 8 * length o.out → number (offer_in s o) ≡ 19 → ⊥
  -- a refused withdrawal, and a refused creation in the same place
  pub not_withdrawn : 1 ≤ number (withdraw_in s) → state_after (withdraw_in s) s ≡ s
  pub not_created_lem : (c : CbrConfig) → 1 ≤ number (create_in c s) → state_after (create_in c s) s ≡ s
  pub not_configured : (config : List ℕ) → 1 ≤ number (create_with config s) → state_after (create_with config s) s ≡ s

abbrev pub OwedOfRefusals : Type 0
OwedOfRefusals = (s : List ℕ) (o : COffer) → Bytes s → Keeps s o
