-- A writer's state as bytes (docs/LAYOUT.md, 'A writer's state'), and the writer that bytes hold.
-- Bytes that are too few, or with a value out of its range, hold none (paper 01, 'Rust forms to replace').
-- Assumes nothing.
use Rattle.std.specs.Prelude.{ℕ, ◌+◌, List, [], ◌∷◌, ◌++◌, Bool, true, not, ◌&&◌, leb, eqb, length, Option, Some, None}
use Rattle.bits.specs.Bits.{pick}
use Rattle.headers.specs.Answers.{flag_of}
use Rattle.layers.specs.declared.PictureKind.{PictureKind}
use Rattle.layers.specs.declared.PictureKind.TheVariants.{I, P, B}
use Rattle.cadence.specs.declared.OpenField.{OpenField}
use Rattle.cadence.specs.declared.OpenField.TheVariants.{Closed, LedByAnchor, LedByOther}
use Rattle.cadence.specs.declared.VbvCadence.{VbvCadence}
use Rattle.verify.specs.Mode.{mpeg2}
use Rattle.rate_control.specs.Writer.{index, writer_fits}
use Rattle.rate_control.specs.declared.CbrWriter.{CbrWriter}
use Rattle.words.specs.Words.{words_bytes, word_at}
use Rattle.layout.specs.Mode.{mode_number, is_mode, mode_for}

-- twenty-five words of 8 bytes
abbrev pub state_size : ℕ
state_size = 200

-- ---- written

-- the pending picture's kind: 0 none, 1 I, 2 P, 3 B
unfoldable pub pending_code : Option (PictureKind × ℕ) → ℕ
pending_code None = 0
pending_code (Some p) = 1 + index p.0

-- its quantiser; 0 where there is none
unfoldable pub pending_quantiser : Option (PictureKind × ℕ) → ℕ
pending_quantiser None = 0
pending_quantiser (Some p) = p.1

-- the open field: 0 none, 1 led by I or P, 2 led by B
unfoldable pub open_code : OpenField → ℕ
open_code Closed = 0
open_code LedByAnchor = 1
open_code LedByOther = 2

-- mode, progressive_sequence, low_delay, the previous anchor's repeat_first_field and top_field_first, the open field
unfoldable pub cadence_words : Bool → VbvCadence → List ℕ
cadence_words variable k =
    mode_number (mpeg2 k.film variable)
    ∷ flag_of k.progressive
    ∷ flag_of k.low_delay
    ∷ flag_of k.repeat
    ∷ flag_of k.top
    ∷ open_code k.waiting
    ∷ []

unfoldable pub state_words : CbrWriter → List ℕ
state_words w =
    w.model.params.bit_rate
    ∷ w.model.params.buffer_size_bits
    ∷ w.model.params.frn
    ∷ w.model.params.frd
    ∷ w.model.whole
    ∷ w.model.rest
    ∷ w.model.prev_end_bits
    ∷ w.model.removed
    ∷ flag_of w.model.started
    ∷ (w.target_bits
    ++ (w.q ++ (pending_code w.pending ∷ pending_quantiser w.pending ∷ w.stuffing_bytes ∷ flag_of w.finished ∷ cadence_words w.variable w.cadence)))

unfoldable pub state_bytes : CbrWriter → List ℕ
state_bytes w = words_bytes (state_words w)

-- ---- read

unfoldable pub pending_of : ℕ → ℕ → Option (PictureKind × ℕ)
pending_of code q =
    pick (eqb code 0) None
    (pick (eqb code 1) (Some (I, q))
    (pick (eqb code 2) (Some (P, q))
    (Some (B, q))))

unfoldable pub open_of : ℕ → OpenField
open_of code = pick (eqb code 0) Closed (pick (eqb code 1) LedByAnchor LedByOther)

-- the mode of a writer, which is not MPEG-1's; flags, an open field
unfoldable pub cadence_codes_fit : List ℕ → Bool
cadence_codes_fit s =
    (is_mode (word_at s 19) && not (eqb (word_at s 19) 1))
    && (leb (word_at s 20) 1
    && (leb (word_at s 21) 1
    && (leb (word_at s 22) 1
    && (leb (word_at s 23) 1
    && leb (word_at s 24) 2))))

-- the values that have no range in a writer: two flags, the pending code, and no quantiser where none is pending; and those of the cadence
unfoldable pub codes_fit : List ℕ → Bool
codes_fit s =
    leb (word_at s 8) 1
    && (leb (word_at s 15) 3
    && (pick (eqb (word_at s 15) 0) (eqb (word_at s 16) 0) true
    && (leb (word_at s 18) 1
    && cadence_codes_fit s)))

unfoldable pub cadence_in : List ℕ → VbvCadence
cadence_in s = record {
  film = (mode_for (word_at s 19)).film;
  progressive = eqb (word_at s 20) 1;
  low_delay = eqb (word_at s 21) 1;
  repeat = eqb (word_at s 22) 1;
  top = eqb (word_at s 23) 1;
  waiting = open_of (word_at s 24);
}

unfoldable pub writer_at : List ℕ → CbrWriter
writer_at s = record {
  model =
      record {
        params =
            record {
              bit_rate = word_at s 0;
              buffer_size_bits = word_at s 1;
              frn = word_at s 2;
              frd = word_at s 3;
            };
        whole = word_at s 4;
        rest = word_at s 5;
        prev_end_bits = word_at s 6;
        removed = word_at s 7;
        started = eqb (word_at s 8) 1;
      };
  target_bits = word_at s 9 ∷ word_at s 10 ∷ word_at s 11 ∷ [];
  q = word_at s 12 ∷ word_at s 13 ∷ word_at s 14 ∷ [];
  pending = pending_of (word_at s 15) (word_at s 16);
  stuffing_bytes = word_at s 17;
  finished = eqb (word_at s 18) 1;
  cadence = cadence_in s;
  variable = (mode_for (word_at s 19)).variable;
}

unfoldable pub state_fits : List ℕ → Bool
state_fits s = leb state_size (length s) && (codes_fit s && writer_fits (writer_at s))

-- the writer that bytes hold, if they hold one
unfoldable pub state_at : List ℕ → Option CbrWriter
state_at s = pick (state_fits s) (Some (writer_at s)) None
