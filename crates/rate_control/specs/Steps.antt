-- The writer as the code goes: the promises of the private functions. proofs/Testing and proofs/Offering say that they come to specs/Offer.
-- Assumes nothing.
use Rattle.std.specs.Prelude.{ℕ, ◌+◌, ◌-◌, ◌*◌, ◌/◌, ◌≤◌, max, Bool, true, false, not, ◌&&◌, ◌||◌, List, ltb, eqb, length, set, Some, None, Result, Ok, Err}
use Rattle.bits.specs.Bits.{pick}
use Rattle.bits.specs.Refusals.{Answer, value, and_then}
use Rattle.vbv.specs.Annex.{overflows, beyond}
use Rattle.vbr.specs.Variable.{new_model_at, start_variable, remove_variable}
use Rattle.vbv.specs.Model.{farthest, start_model, delay_for_picture, remove_picture, max_end_bits, min_end_bits}
use Rattle.vbv.specs.Steps.{model_of, removal_of}
use Rattle.vbv.specs.declared.VbvError.{VbvError}
use Rattle.vbv.specs.declared.RemovalInterval.{RemovalInterval}
use Rattle.vbv.specs.declared.VbvParams.{VbvParams}
use Rattle.vbv.specs.declared.VbvCbrModel.{VbvCbrModel}
use Rattle.vbv.specs.declared.VbvError.TheVariants.{Early, Params, Range}
use Rattle.vbv.specs.declared.VbvViolation.{VbvViolation}
use Rattle.vbv.specs.declared.VbvViolation.TheVariants.{Overflow, Underflow, DelayMismatch}
use Rattle.vbv.specs.declared.VbvRemovalError.{VbvRemovalError}
use Rattle.vbv.specs.declared.VbvRemovalError.TheVariants as rm
use Rattle.layers.specs.declared.PictureKind.{PictureKind}
use Rattle.layers.specs.Headers.{headers_fit}
use Rattle.layers.specs.Layer.{layer_fits, facts_in}
use Rattle.cadence.specs.Cadence.{interval, after}
use Rattle.cadence.specs.declared.VbvCadence.{VbvCadence}
use Rattle.rate_control.specs.Create.{writer_params, fresh_writer}
use Rattle.rate_control.specs.Writer.{writer_fits, index, of, clashes, asked, coarser, steered}
use Rattle.rate_control.specs.Offer.{Offer, position, content, end, delivered_at, stuffing, delay, placed_bytes, first_delay, end_code, with_pending, with_placed}
use Rattle.rate_control.specs.declared.CbrConfig.{CbrConfig}
use Rattle.rate_control.specs.declared.CbrWriter.{CbrWriter}
use Rattle.rate_control.specs.declared.CbrError.{CbrError}
use Rattle.rate_control.specs.declared.CbrError.TheVariants.{Model, Violation, Kind, Headers, Layer, TooLarge as Largest, Stuffing, Output}
use Rattle.rate_control.specs.declared.CbrGiven.TheVariants.{Placed, Again}
use Rattle.rate_control.specs.declared.CbrOffered.{CbrOffered}
use Rattle.rate_control.specs.declared.Extent.{Extent}
use Rattle.rate_control.specs.declared.Placement.{Placement}
use Rattle.rate_control.specs.declared.Timing.{Timing}
use Rattle.rate_control.specs.declared.Untested.{Untested}
use Rattle.rate_control.specs.declared.Untested.TheVariants.{Refused, TooLarge}

-- ---- creation

-- the targets are counted in 64 bits
pub record TargetsFit (p : VbvParams) (between anchors : ℕ) : Type 0 where
  pub rate_high : p.bit_rate ≤ 104857200
  pub frn_low : 1 ≤ p.frn
  pub frd_high : p.frd ≤ 32032
  pub between_high : between ≤ 15
  pub anchors_high : anchors ≤ 255

-- once the frame rate is known
abbrev pub with_rate : CbrConfig → ℕ × ℕ → Answer CbrWriter
with_rate c f = and_then (new_model_at c.mode.variable (writer_params c f)) (λ m. value (fresh_writer c m))

-- ---- how long an offered picture lasts, and the cadence after it

-- in film by the layer's facts, else as offered
unfoldable pub timing : VbvCadence → RemovalInterval → List ℕ → Timing
timing k i layer = record { interval = pick k.film (interval k (facts_in layer)) i; cadence = after k (facts_in layer) }

-- ---- the tests of an offer, by what the model answers

-- a picture that ends within the ranges
pub record ExtentFits (x : Extent) (z : ℕ) : Type 0 where
  pub end_far : x.content + 8 * z ≤ farthest
  pub bytes_far : x.bytes ≤ farthest

-- the model as it is, or, before the first placing, started with the first delay
unfoldable pub started_at : VbvCbrModel → ℕ → Result VbvCbrModel VbvError
started_at m position = pick m.started (Ok m) (model_of (start_model m (first_delay m.params) position))

-- zero bytes up to the least end; none after the last picture
unfoldable pub stuffing_up_to : ℕ → ℕ → Bool → ℕ
stuffing_up_to least content last = pick last 0 ((least - content + 7) / 8)

unfoldable pub ready_by : VbvCbrModel → Extent → ℕ → Result ℕ VbvError → Result Placement Untested
ready_by next x z (Ok d) = Ok (record { model = next; vbv_delay = d; bytes = x.bytes + z; stuffing_bytes = z })
ready_by next x z (Err e) = Err (Refused (Model e))

-- 22: the stuffed end
unfoldable pub by_end : VbvCbrModel → Extent → ℕ → Result VbvCbrModel VbvRemovalError → Result Placement Untested
by_end m x z (Ok next) = ready_by next x z (model_of (delay_for_picture m x.position))
by_end m x z (Err (rm.Model e)) = Err (Refused (Model e))
by_end m x z (Err (rm.Violation v)) = Err (Refused Stuffing)

-- 9, and the size
unfoldable pub violated : VbvViolation → Untested
violated (Overflow n c e) = Refused (Violation (Overflow n c e))
violated (Underflow n c e) = TooLarge
violated (DelayMismatch n c e) = Refused (Violation (DelayMismatch n c e))

-- at the end of a picture's data
unfoldable pub not_removed : VbvRemovalError → Untested
not_removed (rm.Model e) = Refused (Model e)
not_removed (rm.Violation v) = violated v

unfoldable pub by_size : VbvCbrModel → Extent → ℕ → RemovalInterval → Result VbvCbrModel VbvRemovalError → Result Placement Untested
by_size m x z i (Ok next) = by_end m x z (removal_of (remove_picture m (x.content + 8 * z) i))
by_size m x z i (Err e) = Err (not_removed e)

-- 7
unfoldable pub by_most : VbvCbrModel → Extent → ℕ → RemovalInterval → Result ℕ VbvError → Result Placement Untested
by_most m x z i (Ok most) = pick (ltb most x.position) (Err (Refused (Model Early))) (by_size m x z i (removal_of (remove_picture m x.content i)))
by_most m x z i (Err e) = Err (Refused (Model e))

-- 14 of the end; more than 2^45 zero bytes pass it
unfoldable pub with_stuffing : VbvCbrModel → Extent → RemovalInterval → ℕ → Result Placement Untested
with_stuffing m x i z =
    pick (ltb (farthest / 8) z) (Err (Refused (Model Range)))
    (pick (ltb farthest (x.content + 8 * z)) (Err (Refused (Model Range))) (by_most m x z i (model_of (max_end_bits m))))

unfoldable pub by_least : VbvCbrModel → Extent → RemovalInterval → Bool → Result ℕ VbvError → Result Placement Untested
by_least m x i last (Ok least) = with_stuffing m x i (stuffing_up_to least x.content last)
by_least m x i last (Err e) = Err (Refused (Model e))

unfoldable pub by_start : Extent → RemovalInterval → Bool → Result VbvCbrModel VbvError → Result Placement Untested
by_start x i last (Ok m) = by_least m x i last (model_of (min_end_bits m i))
by_start x i last (Err e) = Err (Refused (Model e))

-- at a variable rate: the model as it is, or, before the first placing, with a full buffer
unfoldable pub filled_at : VbvCbrModel → Result VbvCbrModel VbvError
filled_at m = pick m.started (Ok m) (model_of (start_variable m))

-- the size alone is asked; the header tells no time, and no byte is stuffed
unfoldable pub flowed_by : Extent → Result VbvCbrModel VbvRemovalError → Result Placement Untested
flowed_by x (Ok next) = Ok (record { model = next; vbv_delay = 0xFFFF; bytes = x.bytes; stuffing_bytes = 0 })
flowed_by x (Err e) = Err (not_removed e)

unfoldable pub by_filled : Extent → RemovalInterval → Result VbvCbrModel VbvError → Result Placement Untested
by_filled x i (Ok m) = flowed_by x (removal_of (remove_variable m x.content i))
by_filled x i (Err e) = Err (Refused (Model e))

unfoldable pub by_rate : Bool → VbvCbrModel → Extent → RemovalInterval → Bool → Result Placement Untested
by_rate true m x i last = by_filled x i (filled_at m)
by_rate false m x i last = by_start x i last (started_at m x.position)

unfoldable pub extent_of : VbvCbrModel → ℕ → ℕ → Bool → Extent
extent_of m headers layer last = record {
  position = m.prev_end_bits + 8 * (headers + 4);
  content = m.prev_end_bits + 8 * (headers + layer + length (end_code last));
  bytes = headers + layer + length (end_code last);
}

-- 14 of the position and of the end without stuffing
unfoldable pub within14 : Bool → VbvCbrModel → Extent → RemovalInterval → Bool → Result Placement Untested
within14 v m x i last =
    pick (ltb farthest (max x.position x.content)) (Err (Refused (Model Range))) (by_rate v m x i last)

-- more than 2^45 bytes of headers or layer pass these
unfoldable pub measured : Bool → VbvCbrModel → ℕ → ℕ → RemovalInterval → Bool → Result Placement Untested
measured v m headers layer i last =
    pick (ltb (farthest / 8) (max headers layer)) (Err (Refused (Model Range)))
    (within14 v m (extent_of m headers layer last) i last)

-- 12 for the state, 17, 18 and 20 before these
-- the picture lasts j
unfoldable pub tested : CbrWriter → List ℕ → PictureKind → RemovalInterval → Bool → List ℕ → RemovalInterval → Result Placement Untested
tested w headers k i last layer j =
    pick (not (writer_fits w)) (Err (Refused (Model Params)))
    (pick (w.finished || clashes w.pending k) (Err (Refused Kind))
    (pick (not (headers_fit w.model.params w.model.started headers)) (Err (Refused Headers))
    (pick (not (layer_fits w.cadence.film k i layer)) (Err (Refused Layer))
    (measured w.variable w.model (length headers) (length layer) j last))))

-- ---- the answer

-- the sums of a placing are counted in 64 bits
pub record Placeable (w : CbrWriter) (k : PictureKind) (layer : ℕ) (p : Placement) : Type 0 where
  pub layer_far : 8 * layer ≤ farthest
  pub target_far : of k w.target_bits ≤ farthest
  pub total_far : w.stuffing_bytes + p.stuffing_bytes ≤ farthest

unfoldable pub placed_by : CbrWriter → PictureKind → ℕ → Bool → Placement → VbvCadence → CbrOffered
placed_by w k layer last p cadence = record {
  answer = Ok (Placed (asked w k) p.vbv_delay p.bytes p.stuffing_bytes);
  writer =
      record {
        model = p.model;
        target_bits = w.target_bits;
        q = set w.q (index k) (steered (asked w k) (of k w.target_bits) (8 * layer));
        pending = None;
        stuffing_bytes = w.stuffing_bytes + p.stuffing_bytes;
        finished = last;
        cadence = cadence;
        variable = w.variable;
      };
}

-- nothing changes
unfoldable pub refused_in_code : CbrWriter → CbrError → CbrOffered
refused_in_code w e = record { answer = Err e; writer = w }

-- too large with the quantiser q: a coarser one, or at 31 a refusal that closes the pending picture
unfoldable pub too_large_in_code : CbrWriter → PictureKind → ℕ → CbrOffered
too_large_in_code w k q =
    pick (eqb q 31)
    (record { answer = Err Largest; writer = with_pending w None })
    (record { answer = Ok (Again (coarser q)); writer = with_pending w (Some (k, coarser q)) })

unfoldable pub placed_in_code : CbrWriter → Offer → ℕ → CbrOffered
placed_in_code w o q = record {
  answer = Ok (Placed q (delay w o) (length (placed_bytes w o)) (stuffing w o));
  writer = with_placed w o;
}

-- `offer` of specs/Offer.antt with the code's answers
unfoldable pub offer_in_code : CbrWriter → Offer → CbrOffered
offer_in_code w o =
    pick (not (writer_fits w)) (refused_in_code w (Model Params))
    (pick (w.finished || clashes w.pending o.kind) (refused_in_code w Kind)
    (pick (not (headers_fit w.model.params w.model.started o.headers)) (refused_in_code w Headers)
    (pick (not (layer_fits w.cadence.film o.kind o.interval o.layer)) (refused_in_code w Layer)
    (pick (ltb farthest (position w o) || ltb farthest (end w o)) (refused_in_code w (Model Range))
    (pick (not w.variable && beyond w.model.params (position w o) (delivered_at w o)) (refused_in_code w (Model Early))
    (pick (overflows w.model.params w.model.prev_end_bits (delivered_at w o)) (refused_in_code w (Violation (Overflow w.model.removed 0 0)))
    (pick (beyond w.model.params (content w o) (delivered_at w o)) (too_large_in_code w o.kind (asked w o.kind))
    (pick (beyond w.model.params (end w o) (delivered_at w o)) (refused_in_code w Stuffing)
    (pick (ltb (length o.out) (length (placed_bytes w o))) (refused_in_code w Output)
    (placed_in_code w o (asked w o.kind)))))))))))
