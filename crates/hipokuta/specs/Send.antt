-- `cbr_create`, `cbr_create_config`, `cbr_offer` and `cbr_withdraw` (paper 01, 'A placed picture' and 'Rust forms to replace'; requests 02, 05 and 06; docs/LAYOUT.md): the writer's own answers, its state as bytes.
-- Assumes nothing.
use Rattle.std.specs.Prelude.{ℕ, List, Bool, not, ◌&&◌, leb, ltb, eqb, length}
use Rattle.bits.specs.Bits.{pick}
use Rattle.bits.specs.Refusals.{Answer, value, refused, refuse, and_then, or_else}
use Rattle.vbv.specs.declared.RemovalInterval.{RemovalInterval}
use Rattle.vbv.specs.declared.RemovalInterval.TheVariants.{Frame, Field}
use Rattle.layers.specs.declared.PictureKind.{PictureKind}
use Rattle.layers.specs.declared.PictureKind.TheVariants.{I, P, B}
use Rattle.pictures.specs.declared.VbvStandard.TheVariants.{Mpeg2}
use Rattle.verify.specs.Mode.{plain}
use Rattle.rate_control.specs.Answers.{Given}
use Rattle.rate_control.specs.Create.{create, within}
use Rattle.rate_control.specs.Offer.{Offer, offer, left, out_after, withdraw}
use Rattle.rate_control.specs.declared.CbrConfig.{CbrConfig}
use Rattle.rate_control.specs.declared.CbrWriter.{CbrWriter}
use Rattle.words.specs.Words.{words_bytes, laid}
use Rattle.layout.specs.Config.{config_size, has_mode, config_in}
use Rattle.layout.specs.State.{state_size, state_bytes, state_fits, writer_at}
use Rattle.layout.specs.Answers.{answer_size, answer_words}
use Rattle.hipokuta.specs.Lent.{Slice, MutSlice}

-- the place of a state afterwards: the new writer's state over its first bytes; as it was beside a refusal
unfoldable pub state_after : Answer CbrWriter → List ℕ → List ℕ
state_after (value w) place = laid (state_bytes w) place
state_after (refused n k c e) place = place

-- ---- creation

-- what `cbr_create` brings: MPEG-2, not film, at a constant rate, and n and d are 0
abbrev pub config_of : ℕ → ℕ → ℕ → ℕ → ℕ → ℕ → CbrConfig
config_of rate buffer code quantiser between anchors = record {
  mode = plain Mpeg2;
  bit_rate_value = rate;
  vbv_buffer_size_value = buffer;
  frame_rate_code = code;
  frame_rate_extension_n = 0;
  frame_rate_extension_d = 0;
  initial_quantiser_scale_code = quantiser;
  b_between = between;
  anchors_per_gop = anchors;
}

-- 19 for a place too short for a state, then the creation's own answer
unfoldable pub create_in : CbrConfig → List ℕ → Answer CbrWriter
create_in c place = refuse 19 (ltb (length place) state_size) (create c)

-- of a configuration's bytes: 12 where they are too few, 19 for a place too short for a state, 12 for a mode that is none, then the creation's own answer
unfoldable pub create_with : List ℕ → List ℕ → Answer CbrWriter
create_with config place =
    refuse 12 (ltb (length config) config_size)
    (refuse 19 (ltb (length place) state_size)
    (refuse 12 (not (has_mode config))
    (create (config_in config))))

-- ---- an offer

-- what an offer from C brings beside the state
pub record COffer : Type 0 where
  pub headers : List ℕ
  pub kind : ℕ
  pub interval : ℕ
  pub last : ℕ
  pub layer : List ℕ
  pub out : List ℕ
  pub answer : List ℕ

-- by what the slices hold when `cbr_offer` is called
abbrev pub brought : Slice → ℕ → ℕ → ℕ → Slice → MutSlice → MutSlice → COffer
brought headers kind interval last layer out answer = record {
  headers = headers.entry.now;
  kind = kind;
  interval = interval;
  last = last;
  layer = layer.entry.now;
  out = out.entry.now;
  answer = answer.entry.now;
}

-- kinds 0 I, 1 P, 2 B; intervals 1 a field, 2 a frame; a flag 0 or 1
unfoldable pub kind_for : ℕ → PictureKind
kind_for n = pick (eqb n 0) I (pick (eqb n 1) P B)

unfoldable pub interval_for : ℕ → RemovalInterval
interval_for n = pick (eqb n 1) Field Frame

unfoldable pub choices_fit : COffer → Bool
choices_fit o = leb o.kind 2 && (within 1 2 o.interval && leb o.last 1)

unfoldable pub offer_of : COffer → Offer
offer_of o = record {
  headers = o.headers;
  kind = kind_for o.kind;
  interval = interval_for o.interval;
  last = eqb o.last 1;
  layer = o.layer;
  out = o.out;
}

-- 12 for a state that holds no writer, 19 for a place too short for an answer, 12 for a kind, interval or flag that is none; then the writer that is asked, and what it is offered
unfoldable pub reach : List ℕ → COffer → Answer (CbrWriter × Offer)
reach s o =
    refuse 12 (not (state_fits s))
    (refuse 19 (ltb (length o.answer) answer_size)
    (refuse 12 (not (choices_fit o))
    (value (writer_at s, offer_of o))))

-- then the writer's own answer
unfoldable pub offer_in : List ℕ → COffer → Answer Given
offer_in s o = and_then (reach s o) (λ x. offer x.0 x.1)

-- state, output part and answer place afterwards
unfoldable pub offer_state : List ℕ → COffer → List ℕ
offer_state s o = state_after (and_then (reach s o) (λ x. value (left x.0 x.1))) s

unfoldable pub offer_out : List ℕ → COffer → List ℕ
offer_out s o = or_else o.out (and_then (reach s o) (λ x. value (out_after x.0 x.1)))

unfoldable pub offer_place : List ℕ → COffer → List ℕ
offer_place s o = laid (words_bytes (answer_words (offer_in s o))) o.answer

-- ---- a withdrawal

-- 12 for a state that holds no writer, then the withdrawal's own answer
unfoldable pub withdraw_in : List ℕ → Answer CbrWriter
withdraw_in s = refuse 12 (not (state_fits s)) (withdraw (writer_at s))
