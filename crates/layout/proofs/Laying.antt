-- A writer's state as words over a place.
-- Assumes nothing.
use mathlib.Core.Path.{◌≡◌, refl}
use mathlib.Core.Bool.{Bool, true, false}
use Prim.Native.Nat.{ℕ}
use mathlib.Core.List.{List, [], ◌∷◌, ◌++◌}
use lib.ListN.{length, get_or}
use Rattle.std.specs.Int.{from_bool}
use Rattle.words.specs.Words.{words_bytes, laid}
use Rattle.headers.specs.Answers.{flag_of}
use Rattle.rate_control.specs.declared.CbrWriter.{CbrWriter}
use Rattle.rate_control.proofs.States.{Three, of_three, is_three}
use Rattle.verify.specs.Mode.{mpeg2}
use Rattle.layout.specs.Mode.{mode_number}
use Rattle.layout.specs.State.{pending_code, pending_quantiser, open_code, cadence_words, state_words, state_bytes}

-- a flag as the number that it is cast to
flag_is : (b : Bool) → from_bool b ≡ flag_of b
flag_is true = refl
flag_is false = refl

-- three values one by one
three_then : {s : List ℕ} (t : List ℕ) → Three s → s ++ t ≡ get_or s 0 0 ∷ get_or s 1 0 ∷ get_or s 2 0 ∷ t
three_then t (of_three a b c) = refl

pub state_told : (place : List ℕ) (w : CbrWriter) (started code waits finished : ℕ) → length w.target_bits ≡ 3 → length w.q ≡ 3
    → started ≡ from_bool w.model.started → code ≡ pending_code w.pending → waits ≡ pending_quantiser w.pending → finished ≡ from_bool w.finished
    → (mode progressive low repeat top waiting : ℕ) → mode ≡ mode_number (mpeg2 w.cadence.film w.variable) → progressive ≡ from_bool w.cadence.progressive
    → low ≡ from_bool w.cadence.low_delay → repeat ≡ from_bool w.cadence.repeat → top ≡ from_bool w.cadence.top → waiting ≡ open_code w.cadence.waiting
    → (out : List ℕ)
    → out
    ≡ laid
    (words_bytes
    (w.model.params.bit_rate
    ∷ w.model.params.buffer_size_bits
    ∷ w.model.params.frn
    ∷ w.model.params.frd
    ∷ w.model.whole
    ∷ w.model.rest
    ∷ w.model.prev_end_bits
    ∷ w.model.removed
    ∷ started
    ∷ get_or w.target_bits 0 0
    ∷ get_or w.target_bits 1 0
    ∷ get_or w.target_bits 2 0
    ∷ get_or w.q 0 0
    ∷ get_or w.q 1 0
    ∷ get_or w.q 2 0
    ∷ code
    ∷ waits
    ∷ w.stuffing_bytes
    ∷ finished
    ∷ mode
    ∷ progressive
    ∷ low
    ∷ repeat
    ∷ top
    ∷ waiting
    ∷ []))
    place
    → out ≡ laid (state_bytes w) place
unfolding state_bytes state_words cadence_words
state_told place w started code waits finished l m e f g h mode progressive low repeat top waiting a b c d i j out z =
    rw (
      three_then _ (is_three w.target_bits l),
      three_then _ (is_three w.q m),
      ← flag_is w.model.started,
      ← e,
      ← f,
      ← g,
      ← flag_is w.finished,
      ← h,
      ← a,
      ← flag_is w.cadence.progressive,
      ← b,
      ← flag_is w.cadence.low_delay,
      ← c,
      ← flag_is w.cadence.repeat,
      ← d,
      ← flag_is w.cadence.top,
      ← i,
      ← j,
    )
    z
