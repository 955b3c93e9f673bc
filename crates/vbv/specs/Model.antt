-- The model as a state by value: what is delivered at the pending removal, where the previous picture ended, how many were removed (paper 01, 'Who can cause a refusal').
-- A state whose fields are out of their ranges is refused first. Assumes nothing.
use Rattle.std.specs.Prelude.{ℕ, ◌+◌, ◌*◌, ◌/◌, ◌%◌, ◌^◌, Bool, true, false, not, ◌&&◌, ltb, leb}
use Rattle.bits.specs.Refusals.{Answer, value, refuse, violate}
use Rattle.vbv.specs.Annex.{unit, first_delivered, gain, overflows, beyond, expected_delay, occupancy, greatest_end, least_end}
use Rattle.vbv.specs.declared.RemovalInterval.{RemovalInterval}
use Rattle.vbv.specs.declared.RemovalInterval.TheVariants.{Frame, Field, ThreeFields, TwoFrames, ThreeFrames}
use Rattle.vbv.specs.declared.VbvParams.{VbvParams}
use Rattle.vbv.specs.declared.VbvCbrModel.{VbvCbrModel}

-- no stream, position, end or number of removals is greater
abbrev pub farthest : ℕ
farthest = 2 ^ 48

-- more whole bits than a run delivers: the farthest end, a buffer above it, and what six field periods bring
abbrev pub most_delivered : ℕ
most_delivered = 2 ^ 57

-- paper 01's ranges, each bound included
unfoldable pub params_in_range : VbvParams → Bool
params_in_range p =
    leb 1 p.bit_rate
    && leb p.bit_rate 429496729200
    && leb 1 p.buffer_size_bits
    && leb p.buffer_size_bits 4294950912
    && leb 1 p.frn
    && leb p.frn 240000
    && leb 1 p.frd
    && leb p.frd 32032

-- a full buffer's delay in 16 bits is below 0xFFFF (6.3.9)
unfoldable pub ratio_fits : VbvParams → Bool
ratio_fits p = leb (90000 * p.buffer_size_bits) (65534 * p.bit_rate)

unfoldable pub params_fit : VbvParams → Bool
params_fit p = params_in_range p && ratio_fits p

-- the units delivered at the pending removal
unfoldable pub delivered : VbvCbrModel → ℕ
delivered m = m.whole * unit m.params + m.rest

-- at a variable rate no delay is told, and the ratio is not asked (paper 02, request 06)
abbrev pub params_fit_at : Bool → VbvParams → Bool
params_fit_at true p = params_in_range p
params_fit_at false p = params_fit p

-- what is counted is in its range
unfoldable pub counts_fit : VbvCbrModel → Bool
counts_fit m =
    leb m.whole most_delivered
    && ltb m.rest (unit m.params)
    && leb m.prev_end_bits farthest
    && leb m.removed farthest

-- every field in its range
unfoldable pub model_fits : VbvCbrModel → Bool
model_fits m = params_fit m.params && counts_fit m

-- but for the ratio
unfoldable pub model_in_range : VbvCbrModel → Bool
model_in_range m = params_in_range m.params && counts_fit m

-- the state with d units delivered at the pending removal
unfoldable pub at_delivered : VbvCbrModel → ℕ → VbvCbrModel
at_delivered m d = record {
  params = m.params;
  whole = d / unit m.params;
  rest = d % unit m.params;
  prev_end_bits = m.prev_end_bits;
  removed = m.removed;
  started = true;
}

-- the state after the pending picture, which ends at `end`, was removed, with d units delivered at the next removal
unfoldable pub after_removal : VbvCbrModel → ℕ → ℕ → VbvCbrModel
after_removal m end d = record {
  params = m.params;
  whole = d / unit m.params;
  rest = d % unit m.params;
  prev_end_bits = end;
  removed = m.removed + 1;
  started = true;
}

-- C.11, outside film: a field picture lasts a field period, a frame a frame period; repeat_first_field does not count (docs/DIFFERENCES.md)
unfoldable pub interval_of : Bool → RemovalInterval
interval_of true = Field
interval_of false = Frame

-- C.9, C.11; 11172-2 C.1.4: field periods up to the next removal
abbrev pub periods : RemovalInterval → ℕ
periods Frame = 2
periods Field = 1
periods ThreeFields = 3
periods TwoFrames = 4
periods ThreeFrames = 6

unfoldable pub next_delivered : VbvCbrModel → RemovalInterval → ℕ
next_delivered m i = delivered m + gain m.params (periods i)

-- the state with what the interval brings delivered too, nothing removed; whatever the ratio. It is for crates/vbr, which caps it: what is left may be above its range
unfoldable pub gained : VbvCbrModel → RemovalInterval → Answer VbvCbrModel
gained m i =
    refuse 12 (not (model_in_range m))
    (refuse 13 (not m.started)
    (value (at_delivered m (next_delivered m i))))

unfoldable pub new_model : VbvParams → Answer VbvCbrModel
new_model p =
    refuse 12 (not (params_fit p))
    (value (record { params = p; whole = 0; rest = 0; prev_end_bits = 0; removed = 0; started = false }))

unfoldable pub start_model : VbvCbrModel → ℕ → ℕ → Answer VbvCbrModel
start_model m delay position =
    refuse 12 (not (model_fits m))
    (refuse 13 m.started
    (refuse 14 (ltb farthest position)
    (value (at_delivered m (first_delivered m.params position delay)))))

unfoldable pub delay_for_picture : VbvCbrModel → ℕ → Answer ℕ
delay_for_picture m position =
    refuse 12 (not (model_fits m))
    (refuse 13 (not m.started)
    (refuse 14 (ltb farthest position)
    (refuse 7 (beyond m.params position (delivered m))
    (refuse 8 (ltb 65534 (expected_delay m.params position (delivered m)))
    (value (expected_delay m.params position (delivered m)))))))

-- 14: an end above the farthest or below the previous one, or as many removals made
unfoldable pub end_fits : VbvCbrModel → ℕ → Bool
end_fits m end = leb end farthest && leb m.prev_end_bits end && ltb m.removed farthest

unfoldable pub remove_picture : VbvCbrModel → ℕ → RemovalInterval → Answer VbvCbrModel
remove_picture m end i =
    refuse 12 (not (model_fits m))
    (refuse 13 (not m.started)
    (refuse 14 (not (end_fits m end))
    (violate 9 m.removed 0 0 (overflows m.params m.prev_end_bits (delivered m))
    (violate 10 m.removed 0 0 (beyond m.params end (delivered m))
    (value (after_removal m end (next_delivered m i)))))))

-- what a started model answers
unfoldable pub of_started : {X : Type 0} → VbvCbrModel → X → Answer X
of_started m x =
    refuse 12 (not (model_fits m))
    (refuse 13 (not m.started)
    (value x))

unfoldable pub max_end_bits : VbvCbrModel → Answer ℕ
max_end_bits m = of_started m (greatest_end m.params (delivered m))

unfoldable pub min_end_bits : VbvCbrModel → RemovalInterval → Answer ℕ
min_end_bits m i = of_started m (least_end m.params (next_delivered m i))

-- 0 where the previous end lies beyond what is delivered
unfoldable pub occupancy_before_removal : VbvCbrModel → Answer ℕ
occupancy_before_removal m = of_started m (occupancy m.params m.prev_end_bits (delivered m))
