-- Which answer is due to creation and to each offer (paper 01, 'A placed picture'), by conditions in ≤ and <, from creation, the calls and their answers: not from the writer's state,
-- nor from the tests, positions, stuffing or bytes of `offer`. The fit tests, `first_delay`, `end_code`, `patched`, `coarser`, `steered`, `pending_or`, `of`, `index`, `frame_rate`, `writer_params`, `targets`, `periods`, `cadence_by`, `offered_facts`, `interval`, `after` and
-- Annex C are the ones that `create` and `offer` compute with: they are to be read against the papers themselves; vbv/specs/Arrival holds `first_arrived` and `arrived`, cadence/specs/Table and History hold `interval` and `after`, `SequenceOpens` (pictures/specs/Due) holds `cadence_by`. Assumes nothing.
use Rattle.std.specs.Prelude.{ℕ, suc, ◌+◌, ◌*◌, ◌/◌, ◌%◌, ◌≤◌, ◌<◌, ◌≡◌, List, [], ◌∷◌, ◌++◌, Bool, true, false, eqb, ltb, length, take, drop, replicate, set, Option, Some, None}
use Rattle.bits.specs.Bits.{pick}
use Rattle.bits.specs.Refusals.{Answer, value, refused}
use Rattle.rate_control.specs.Create.{writer_params}
use Rattle.vbv.specs.Annex.{unit, expected_delay, first_arrived, arrived}
use Rattle.vbv.specs.Model.{farthest, periods}
use Rattle.vbv.specs.Patch.{patched}
use Rattle.vbv.specs.Answers.{frame_rate}
use Rattle.vbv.specs.declared.VbvParams.{VbvParams}
use Rattle.layers.specs.Headers.{headers_fit}
use Rattle.layers.specs.Layer.{layer_fits, offered_facts}
use Rattle.picture_header.specs.declared.PictureFacts.{PictureFacts}
use Rattle.cadence.specs.Cadence.{opened, interval, after}
use Rattle.cadence.specs.declared.VbvCadence.{VbvCadence}
use Rattle.pictures.specs.Cadence.{cadence_by}
use Rattle.pictures.specs.declared.VbvStandard.TheVariants.{Mpeg2}
use Rattle.vbv.specs.declared.RemovalInterval.{RemovalInterval}
use Rattle.layers.specs.declared.PictureKind.{PictureKind}
use Rattle.rate_control.specs.Answers.{Given, placed, again}
use Rattle.rate_control.specs.Targets.{targets}
use Rattle.rate_control.specs.Writer.{index, of, pending_or, coarser, steered}
use Rattle.rate_control.specs.Offer.{Offer, first_delay, end_code}
use Rattle.rate_control.specs.Calls.{Step, offered, withdrawn}
use Rattle.rate_control.specs.Sent.{position_of, content_of, Stuffs}
use Rattle.rate_control.specs.declared.CbrConfig.{CbrConfig}
use Rattle.rate_control.specs.declared.CbrWriter.{CbrWriter}

-- ---- what is known between two calls

-- bytes handed out, the zeros among them, pictures placed, units arrived at the next removal (unread until a picture is placed), the quantisers of I, P and B, the picture to be
-- offered again, whether the last picture is placed, the cadence (its flags unread until a picture is placed), and whether the rate is variable
pub record Known : Type 0 where
  pub bytes : ℕ
  pub stuffing : ℕ
  pub pictures : ℕ
  pub delivered : ℕ
  pub q : List ℕ
  pub pending : Option (PictureKind × ℕ)
  pub finished : Bool
  pub cadence : VbvCadence
  pub variable : Bool

-- after creation
abbrev pub at_first : CbrConfig → Known
at_first c = record {
  bytes = 0;
  stuffing = 0;
  pictures = 0;
  delivered = 0;
  q = c.initial_quantiser_scale_code ∷ c.initial_quantiser_scale_code ∷ c.initial_quantiser_scale_code ∷ [];
  pending = None;
  finished = false;
  cadence = opened c.mode.film false false;
  variable = c.mode.variable;
}

abbrev pub any_placed : Known → Bool
any_placed x = ltb 0 x.pictures

-- units arrived at this picture's removal: until a picture is placed, from the offer's own headers and the first delay; at a variable rate a full buffer (request 06)
abbrev pub delivered_for : VbvParams → Known → Offer → ℕ
delivered_for p x o = pick (any_placed x) x.delivered (first_arrived x.variable p (position_of x.bytes o) (first_delay p))

-- the cadence before it: until a picture is placed, the one that the offer's own headers open (request 05)
abbrev pub cadence_for : Known → Offer → VbvCadence
cadence_for x o = pick (any_placed x) x.cadence (cadence_by x.cadence.film o.headers)

-- by the offer's own words, and its layer's flags
abbrev pub facts_for : Offer → PictureFacts
facts_for o = offered_facts o.kind o.interval o.layer

abbrev pub lasts_in : Known → Offer → RemovalInterval
lasts_in x o = interval (cadence_for x o) (facts_for o)

-- the quantiser that its layer was to be encoded with
abbrev pub asked_for : Known → Offer → ℕ
asked_for x o = pending_or x.pending (of o.kind x.q)

abbrev pub pending_now : Known → Option (PictureKind × ℕ) → Known
pending_now x y = record {
  bytes = x.bytes;
  stuffing = x.stuffing;
  pictures = x.pictures;
  delivered = x.delivered;
  q = x.q;
  pending = y;
  finished = x.finished;
  cadence = x.cadence;
  variable = x.variable;
}

-- after an offer's answer, the targets being t: of a refusal only 21 changes anything
abbrev pub known_after_offer : VbvParams → List ℕ → Known → Offer → Answer Given → Known
known_after_offer p t x o (value (placed q delay bytes stuffing)) = record {
  bytes = x.bytes + bytes;
  stuffing = x.stuffing + stuffing;
  pictures = suc x.pictures;
  delivered = arrived x.variable p (8 * (x.bytes + bytes)) (delivered_for p x o) (periods (lasts_in x o));
  q = set x.q (index o.kind) (steered q (of o.kind t) (8 * length o.layer));
  pending = None;
  finished = o.last;
  cadence = after (cadence_for x o) (facts_for o);
  variable = x.variable;
}
known_after_offer p t x o (value (again q)) = pending_now x (Some (o.kind, q))
known_after_offer p t x o (refused n picture coded expected) = pick (eqb n 21) (pending_now x None) x

-- after a call
abbrev pub known_after_step : VbvParams → List ℕ → Known → Step → Known
known_after_step p t x (offered o a out) = known_after_offer p t x o a
known_after_step p t x (withdrawn n) = pending_now x None

abbrev pub known_after : VbvParams → List ℕ → Known → List Step → Known
known_after p t x [] = x
known_after p t x (s ∷ l) = known_after p t (known_after_step p t x s) l

-- the writer that holds this and nothing else
abbrev pub holding : VbvParams → List ℕ → Known → CbrWriter
holding p t x = record {
  model =
      record {
        params = p;
        whole = x.delivered / unit p;
        rest = x.delivered % unit p;
        prev_end_bits = 8 * x.bytes;
        removed = x.pictures;
        started = any_placed x;
      };
  target_bits = t;
  q = x.q;
  pending = x.pending;
  stuffing_bytes = x.stuffing;
  finished = x.finished;
  cadence = x.cadence;
  variable = x.variable;
}

-- ---- the tests, in paper 01's order

-- 17: the last picture is placed, or another kind is pending
pub data OutOfTurn (x : Known) (o : Offer) : Type 0 where
  last_placed : x.finished ≡ true → OutOfTurn x o
  other_kind : {k : PictureKind} {q : ℕ} → x.pending ≡ Some (k, q) → (k ≡ o.kind → ⊥) → OutOfTurn x o

-- passed: 17, 18, 20
pub record Fitting (p : VbvParams) (x : Known) (o : Offer) : Type 0 where
  pub in_turn : OutOfTurn x o → ⊥
  pub headers_fit_lem : headers_fit p (any_placed x) o.headers ≡ true
  pub layer_fits : layer_fits x.cadence.film o.kind o.interval o.layer ≡ true

-- passed: 17, 18, 20, 14; z is the zero bytes due
pub record Near (p : VbvParams) (x : Known) (o : Offer) (z : ℕ) : Type 0 where
  pub fitting : Fitting p x o
  pub stuffs : Stuffs x.variable p x.bytes (delivered_for p x o) (lasts_in x o) o z
  pub position_near : position_of x.bytes o ≤ farthest
  pub end_near : content_of x.bytes o + 8 * z ≤ farthest

-- passed: 17, 18, 20, 14, 7, 9; at a variable rate 7 is not asked
pub record OnTime (p : VbvParams) (x : Known) (o : Offer) (z : ℕ) : Type 0 where
  pub near : Near p x o z
  pub in_time : x.variable ≡ false → position_of x.bytes o * unit p ≤ delivered_for p x o
  pub no_overflow : delivered_for p x o ≤ (8 * x.bytes + p.buffer_size_bits) * unit p

-- passed: 17, 18, 20, 14, 7, 9, size, 22
pub record AllDelivered (p : VbvParams) (x : Known) (o : Offer) (z : ℕ) : Type 0 where
  pub on_time : OnTime p x o z
  pub end_delivered : (content_of x.bytes o + 8 * z) * unit p ≤ delivered_for p x o

-- the bytes to place, and the delay: the first one, then what Annex C expects; at a variable rate always 0xFFFF
abbrev pub size_of : Offer → ℕ → ℕ
size_of o z = length o.headers + length o.layer + z + length (end_code o.last)

abbrev pub delay_for : VbvParams → Known → Offer → ℕ
delay_for p x o = pick x.variable 0xFFFF (pick (any_placed x) (expected_delay p (position_of x.bytes o) x.delivered) (first_delay p))

-- ---- an offer's answer

pub data Due (p : VbvParams) (x : Known) (o : Offer) : Answer Given → Type 0 where
  out_of_turn : OutOfTurn x o → Due p x o (refused 17 0 0 0)
  bad_headers : (OutOfTurn x o → ⊥) → headers_fit p (any_placed x) o.headers ≡ false → Due p x o (refused 18 0 0 0)
  bad_layer : (OutOfTurn x o → ⊥) → headers_fit p (any_placed x) o.headers ≡ true
      → layer_fits x.cadence.film o.kind o.interval o.layer ≡ false → Due p x o (refused 20 0 0 0)
  far_position : Fitting p x o → farthest < position_of x.bytes o → Due p x o (refused 14 0 0 0)
  far_end : {z : ℕ} → Fitting p x o → Stuffs x.variable p x.bytes (delivered_for p x o) (lasts_in x o) o z → farthest < content_of x.bytes o + 8 * z
      → Due p x o (refused 14 0 0 0)
  -- the last condition of these two is added: it always holds where they arise, for before a placing the position is always delivered, and after one the stuffing keeps overflow away.
  -- So a 9 names picture 0, and no delay, since none was coded (docs/DECISIONS.md 40). `x.variable ≡ false` is request 06's 'never 7, 9 or 22': 7 is then not asked, and of 9 and 22 it always holds where they arise
  early_position : {z : ℕ} → x.variable ≡ false → Near p x o z → delivered_for p x o < position_of x.bytes o * unit p → 1 ≤ x.pictures → Due p x o (refused 7 0 0 0)
  overflowing : {z : ℕ} → x.variable ≡ false → Near p x o z → position_of x.bytes o * unit p ≤ delivered_for p x o
      → (8 * x.bytes + p.buffer_size_bits) * unit p < delivered_for p x o → x.pictures ≡ 0 → Due p x o (refused 9 0 0 0)
  too_large : {z : ℕ} → OnTime p x o z → delivered_for p x o < content_of x.bytes o * unit p → asked_for x o < 31
      → Due p x o (value (again (coarser (asked_for x o))))
  largest : {z : ℕ} → OnTime p x o z → delivered_for p x o < content_of x.bytes o * unit p → asked_for x o ≡ 31 → Due p x o (refused 21 0 0 0)
  no_edge : {z : ℕ} → x.variable ≡ false → OnTime p x o z → content_of x.bytes o * unit p ≤ delivered_for p x o
      → delivered_for p x o < (content_of x.bytes o + 8 * z) * unit p → Due p x o (refused 22 0 0 0)
  no_room : {z : ℕ} → AllDelivered p x o z → length o.out < size_of o z → Due p x o (refused 19 0 0 0)
  room : {z : ℕ} → AllDelivered p x o z → size_of o z ≤ length o.out
      → Due p x o (value (placed (asked_for x o) (delay_for p x o) (size_of o z) z))

-- what its output part then holds: headers, the layer with its delay patched, zeros, and after the last picture the sequence's end; the rest of the part keeps its bytes
pub record PlacedIn (o : Offer) (delay n z : ℕ) (out : List ℕ) : Type 0 where
  pub bytes : take n out ≡ o.headers ++ (patched o.layer delay ++ (replicate z 0 ++ end_code o.last))
  pub rest : drop n out ≡ drop n o.out

-- no byte is written where none is placed
abbrev pub PartHolds : Offer → Answer Given → List ℕ → Type 0
PartHolds o (value (placed q delay bytes stuffing)) out = PlacedIn o delay bytes stuffing out
PartHolds o (value (again q)) out = out ≡ o.out
PartHolds o (refused n picture coded expected) out = out ≡ o.out

-- ---- creation's answer

-- each field in the range of paper 01 or request 02, the rate code apart; of the modes MPEG-2's are written (requests 05 and 06)
pub record Ranges (c : CbrConfig) : Type 0 where
  pub mode_written : c.mode.standard ≡ Mpeg2
  pub rate_low : 1 ≤ c.bit_rate_value
  pub rate_high : c.bit_rate_value ≤ 262143
  pub buffer_low : 1 ≤ c.vbv_buffer_size_value
  pub buffer_high : c.vbv_buffer_size_value ≤ 1023
  pub n_high : c.frame_rate_extension_n ≤ 3
  pub d_high : c.frame_rate_extension_d ≤ 31
  pub quantiser_low : 1 ≤ c.initial_quantiser_scale_code
  pub quantiser_high : c.initial_quantiser_scale_code ≤ 31
  pub between_high : c.b_between ≤ 15
  pub anchors_low : 1 ≤ c.anchors_per_gop
  pub anchors_high : c.anchors_per_gop ≤ 255

-- the targets of a group, the frame rate being f
abbrev pub targets_of : CbrConfig → ℕ × ℕ → List ℕ
targets_of c f = targets (writer_params c f) c.b_between c.anchors_per_gop

-- 12 for a range, 6 for the rate code, at a constant rate 12 for the ratio; else a writer that holds what is known at first
pub data CreationDue (c : CbrConfig) : Answer CbrWriter → Type 0 where
  bad_range : (Ranges c → ⊥) → CreationDue c (refused 12 0 0 0)
  bad_code : Ranges c → (1 ≤ c.frame_rate_code → c.frame_rate_code ≤ 8 → ⊥) → CreationDue c (refused 6 0 0 0)
  bad_ratio : {f : ℕ × ℕ} → c.mode.variable ≡ false → Ranges c → 1 ≤ c.frame_rate_code → c.frame_rate_code ≤ 8 → frame_rate c.frame_rate_code c.frame_rate_extension_n c.frame_rate_extension_d ≡ value f
      → 65534 * (writer_params c f).bit_rate < 90000 * (writer_params c f).buffer_size_bits → CreationDue c (refused 12 0 0 0)
  created : {f : ℕ × ℕ} → Ranges c → 1 ≤ c.frame_rate_code → c.frame_rate_code ≤ 8 → frame_rate c.frame_rate_code c.frame_rate_extension_n c.frame_rate_extension_d ≡ value f
      → (c.mode.variable ≡ false → 90000 * (writer_params c f).buffer_size_bits ≤ 65534 * (writer_params c f).bit_rate)
      → CreationDue c (value (holding (writer_params c f) (targets_of c f) (at_first c)))

-- ---- of a list

-- of all calls: every offer's answer is due and no other is, and no withdrawal is refused
pub data Answered (p : VbvParams) (t : List ℕ) : Known → List Step → Type 0 where
  no_calls : {x : Known} → Answered p t x []
  offer_then : {x : Known} {o : Offer} {a : Answer Given} {out : List ℕ} {l : List Step} → Due p x o a → ((b : Answer Given) → Due p x o b → b ≡ a)
      → PartHolds o a out → Answered p t (known_after_step p t x (offered o a out)) l → Answered p t x (offered o a out ∷ l)
  withdrawal_then : {x : Known} {l : List Step} → Answered p t (known_after_step p t x (withdrawn 0)) l → Answered p t x (withdrawn 0 ∷ l)
