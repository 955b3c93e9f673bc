-- An offer and a withdrawal (paper 01, 'A placed picture'; paper 02, requests 05 and 06): in this order 12 for the state, then 17, 18, 20, 14, 7, 9, size, 22, 19; else the picture is placed. At a variable rate 7 is not asked, for a picture whose start has not arrived is too large, and 9 and 22 do not arise.
-- Assumes nothing.
use Rattle.std.specs.Prelude.{ℕ, ◌+◌, ◌-◌, ◌*◌, ◌/◌, List, [], ◌++◌, Bool, true, false, not, ◌&&◌, ◌||◌, ltb, eqb, length, replicate, set, Option, Some, None}
use Rattle.bits.specs.Bits.{pick}
use Rattle.bits.specs.Answers.{over}
use Rattle.bits.specs.Refusals.{Answer, value, refused, refuse, violate}
use Rattle.vbv.specs.Annex.{gain, overflows, beyond, least_end, first_arrived, arrived, expected}
use Rattle.vbv.specs.Model.{farthest, delivered, periods, after_removal}
use Rattle.vbv.specs.Patch.{patched}
use Rattle.vbv.specs.declared.RemovalInterval.{RemovalInterval}
use Rattle.vbv.specs.declared.VbvParams.{VbvParams}
use Rattle.scan.specs.Codes.{sequence_end}
use Rattle.layers.specs.declared.PictureKind.{PictureKind}
use Rattle.layers.specs.Headers.{headers_fit}
use Rattle.layers.specs.Layer.{layer_fits, facts_in}
use Rattle.cadence.specs.Cadence.{interval, after}
use Rattle.cadence.specs.declared.VbvCadence.{VbvCadence}
use Rattle.pictures.specs.Cadence.{cadence_by}
use Rattle.rate_control.specs.Answers.{Given, placed, again}
use Rattle.rate_control.specs.Writer.{writer_fits, index, of, clashes, asked, coarser, steered}
use Rattle.rate_control.specs.declared.CbrWriter.{CbrWriter}

-- headers, kind, interval (frame or field), last flag, one layer and an output part
pub record Offer : Type 0 where
  pub headers : List ℕ
  pub kind : PictureKind
  pub interval : RemovalInterval
  pub last : Bool
  pub layer : List ℕ
  pub out : List ℕ

-- ---- in bits from the stream's first

-- where the picture's start code ends
unfoldable pub position : CbrWriter → Offer → ℕ
position w o = w.model.prev_end_bits + 8 * (length o.headers + 4)

-- the sequence's end follows the last picture
unfoldable pub end_code : Bool → List ℕ
end_code true = sequence_end
end_code false = []

-- where headers, layer and the sequence's end come to
unfoldable pub content : CbrWriter → Offer → ℕ
content w o = w.model.prev_end_bits + 8 * (length o.headers + length o.layer + length (end_code o.last))

-- the first delay at a constant rate: three quarters of the buffer
unfoldable pub first_delay : VbvParams → ℕ
first_delay p = 90000 * p.buffer_size_bits * 3 / (4 * p.bit_rate)

-- units arrived at this picture's removal
unfoldable pub delivered_at : CbrWriter → Offer → ℕ
unfolding position
delivered_at w o =
    pick w.model.started (delivered w.model) (first_arrived w.variable w.model.params (position w o) (first_delay w.model.params))

-- the cadence before the picture: until one is placed, that which the offer's own headers open
unfoldable pub cadence_at : CbrWriter → List ℕ → VbvCadence
cadence_at w headers = pick w.model.started w.cadence (cadence_by w.cadence.film headers)

-- how long it lasts
unfoldable pub interval_at : CbrWriter → Offer → RemovalInterval
unfolding cadence_at
interval_at w o = interval (cadence_at w o.headers) (facts_in o.layer)

-- arrived at the next removal, were the buffer never full; read at a constant rate alone
unfoldable pub brought_next : CbrWriter → Offer → ℕ
unfolding delivered_at interval_at
brought_next w o = delivered_at w o + gain w.model.params (periods (interval_at w o))

-- zero bytes to the least byte edge at which the next removal does not overflow; none after the last, and none at a variable rate, where no removal does
unfoldable pub stuffing : CbrWriter → Offer → ℕ
unfolding content brought_next
stuffing w o = pick (w.variable || o.last) 0 ((least_end w.model.params (brought_next w o) - content w o + 7) / 8)

unfoldable pub end : CbrWriter → Offer → ℕ
unfolding content stuffing
end w o = content w o + 8 * stuffing w o

-- units arrived at the next removal
unfoldable pub delivered_next : CbrWriter → Offer → ℕ
unfolding delivered_at interval_at end
delivered_next w o = arrived w.variable w.model.params (end w o) (delivered_at w o) (periods (interval_at w o))

-- ---- what is placed

unfoldable pub delay : CbrWriter → Offer → ℕ
unfolding position delivered_at
delay w o = expected w.variable w.model.params (position w o) (delivered_at w o)

unfoldable pub placed_bytes : CbrWriter → Offer → List ℕ
unfolding delay stuffing end_code
placed_bytes w o = o.headers ++ (patched o.layer (delay w o) ++ (replicate (stuffing w o) 0 ++ end_code o.last))

-- ---- the answers

-- too large: asked for again with a coarser quantiser, or 21 at 31
abbrev pub too_large_answer : ℕ → Answer Given
too_large_answer q = refuse 21 (eqb q 31) (value (again (coarser q)))

unfoldable pub offer : CbrWriter → Offer → Answer Given
offer w o =
    refuse 12 (not (writer_fits w))
    (refuse 17 (w.finished || clashes w.pending o.kind)
    (refuse 18 (not (headers_fit w.model.params w.model.started o.headers))
    (refuse 20 (not (layer_fits w.cadence.film o.kind o.interval o.layer))
    (refuse 14 (ltb farthest (position w o) || ltb farthest (end w o))
    (refuse 7 (not w.variable && beyond w.model.params (position w o) (delivered_at w o))
    (violate 9 w.model.removed 0 0 (overflows w.model.params w.model.prev_end_bits (delivered_at w o))
    (pick (beyond w.model.params (content w o) (delivered_at w o)) (too_large_answer (asked w o.kind))
    (refuse 22 (beyond w.model.params (end w o) (delivered_at w o))
    (refuse 19 (ltb (length o.out) (length (placed_bytes w o)))
    (value (placed (asked w o.kind) (delay w o) (length (placed_bytes w o)) (stuffing w o))))))))))))

unfoldable pub with_pending : CbrWriter → Option (PictureKind × ℕ) → CbrWriter
with_pending w x = record {
  model = w.model;
  target_bits = w.target_bits;
  q = w.q;
  pending = x;
  stuffing_bytes = w.stuffing_bytes;
  finished = w.finished;
  cadence = w.cadence;
  variable = w.variable;
}

-- the writer that a placing leaves: the next removal's bits are delivered, the kind's quantiser is steered, nothing is pending, the cadence has moved on
unfoldable pub with_placed : CbrWriter → Offer → CbrWriter
with_placed w o = record {
  model = after_removal w.model (end w o) (delivered_next w o);
  target_bits = w.target_bits;
  q = set w.q (index o.kind) (steered (asked w o.kind) (of o.kind w.target_bits) (8 * length o.layer));
  pending = None;
  stuffing_bytes = w.stuffing_bytes + stuffing w o;
  finished = o.last;
  cadence = after (cadence_at w o.headers) (facts_in o.layer);
  variable = w.variable;
}

-- the writer that an answer leaves: a refusal changes nothing, 21 excepted, which closes the pending picture
abbrev pub left_by : CbrWriter → Offer → Answer Given → CbrWriter
left_by w o (value (placed q delay bytes stuffing)) = with_placed w o
left_by w o (value (again q)) = with_pending w (Some (o.kind, q))
left_by w o (refused n picture coded expected) = pick (eqb n 21) (with_pending w None) w

abbrev pub left : CbrWriter → Offer → CbrWriter
left w o = left_by w o (offer w o)

-- what the output part then holds: the bytes placed over its first ones; as it was, where none are placed
abbrev pub out_of : Answer Given → List ℕ → List ℕ → List ℕ
out_of (value (placed q delay n stuffing)) bytes out = over bytes out
out_of (value (again q)) bytes out = out
out_of (refused n picture coded expected) bytes out = out

abbrev pub out_after : CbrWriter → Offer → List ℕ
out_after w o = out_of (offer w o) (placed_bytes w o) o.out

-- a withdrawal closes a pending picture, if there is one
unfoldable pub withdraw : CbrWriter → Answer CbrWriter
withdraw w = refuse 12 (not (writer_fits w)) (value (with_pending w None))
