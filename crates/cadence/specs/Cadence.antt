-- How long a picture lasts (ISO/IEC 13818-2 C.9 to C.12, without big pictures; paper 02, request 05): the interval up to the next removal, by the picture's facts and what those before it left.
-- Table.antt says the same row by row, History.antt by the pictures before. Assumes nothing.
use Rattle.std.specs.Prelude.{Bool, true, false, not, ◌&&◌}
use Rattle.bits.specs.Bits.{pick}
use Rattle.vbv.specs.Model.{interval_of}
use Rattle.vbv.specs.declared.RemovalInterval.{RemovalInterval}
use Rattle.vbv.specs.declared.RemovalInterval.TheVariants.{Frame, Field, ThreeFields, TwoFrames, ThreeFrames}
use Rattle.picture_header.specs.declared.PictureFacts.{PictureFacts}
use Rattle.cadence.specs.declared.OpenField.{OpenField}
use Rattle.cadence.specs.declared.OpenField.TheVariants.{Closed, LedByAnchor, LedByOther}
use Rattle.cadence.specs.declared.VbvCadence.{VbvCadence}

unfoldable pub is_closed : OpenField → Bool
is_closed Closed = true
is_closed LedByAnchor = false
is_closed LedByOther = false

-- before the first picture: no anchor, no field. Outside film the sequence's flags are not looked at
unfoldable pub opened : Bool → Bool → Bool → VbvCadence
opened film progressive low = record {
  film = film;
  progressive = film && progressive;
  low_delay = film && low;
  repeat = false;
  top = false;
  waiting = Closed;
}

-- outside film nothing is kept
unfoldable pub cadence_fits : VbvCadence → Bool
cadence_fits k =
    pick k.film true
    (not k.progressive && (not k.low_delay && (not k.repeat && (not k.top && is_closed k.waiting))))

-- ---- how long

-- a frame by these flags: a field more where the first is repeated; in a progressive sequence one or two frames more (6.3.10)
unfoldable pub lasting : Bool → Bool → Bool → RemovalInterval
lasting progressive repeat top = pick repeat (pick progressive (pick top ThreeFrames TwoFrames) ThreeFields) Frame

unfoldable pub led_by_anchor : OpenField → Bool
led_by_anchor Closed = false
led_by_anchor LedByAnchor = true
led_by_anchor LedByOther = false

-- a field lasts 1; the second of a pair led by I or P 2, as long as a frame, where the anchor before the pair has the flag, neither in a progressive sequence nor with low_delay
unfoldable pub field_interval : VbvCadence → RemovalInterval
field_interval k = pick (led_by_anchor k.waiting && (k.repeat && (not k.progressive && not k.low_delay))) Frame Field

-- an I or P frame by the flags of the previous anchor, a B frame and, with low_delay, every frame by its own; a field left over led by I or P is an anchor without the flag
unfoldable pub frame_interval : VbvCadence → PictureFacts → RemovalInterval
frame_interval k x =
    pick (x.anchor && not k.low_delay)
    (lasting k.progressive (k.repeat && not (led_by_anchor k.waiting)) k.top)
    (lasting k.progressive x.repeat x.top)

unfoldable pub interval : VbvCadence → PictureFacts → RemovalInterval
interval k x =
    pick k.film
    (pick x.field (field_interval k) (frame_interval k x))
    (interval_of x.field)

-- ---- what a picture leaves

-- the same sequence, with these flags of the previous anchor and this open field
unfoldable pub with : VbvCadence → Bool → Bool → OpenField → VbvCadence
with k repeat top waiting = record {
  film = k.film;
  progressive = k.progressive;
  low_delay = k.low_delay;
  repeat = repeat;
  top = top;
  waiting = waiting;
}

-- an open field is closed, by the second of its pair or by a frame: led by I or P it leaves an anchor without the flag
unfoldable pub closed : VbvCadence → VbvCadence
closed k = with k (k.repeat && not (led_by_anchor k.waiting)) (k.top && not (led_by_anchor k.waiting)) Closed

-- consecutive fields pair up
unfoldable pub after_field : VbvCadence → PictureFacts → VbvCadence
after_field k x =
    pick (is_closed k.waiting)
    (with k k.repeat k.top (pick x.anchor LedByAnchor LedByOther))
    (closed k)

unfoldable pub after_frame : VbvCadence → PictureFacts → VbvCadence
after_frame k x = pick x.anchor (with k x.repeat x.top Closed) (closed k)

-- outside film nothing is kept
unfoldable pub after : VbvCadence → PictureFacts → VbvCadence
after k x = pick k.film (pick x.field (after_field k x) (after_frame k x)) k
