-- The pictures that a list of calls placed, as bytes, and what the receiver and the check make of them. All is taken from the calls and their answers, by Annex C's own formula
-- and not by the writer's state; so is how long each picture lasts: by the cadence that the first placed headers open, and the pictures placed (request 05). `cadence_by`, `interval` and `after` are the writer's own: cadence/specs/Table and History, and `SequenceOpens`, hold them. Assumes nothing.
use Rattle.std.specs.Prelude.{ℕ, ◌+◌, ◌*◌, ◌≤◌, ◌≡◌, List, [], ◌∷◌, ◌++◌, Bool, true, false, ◌↔◌, length, take, replicate}
use Rattle.bits.specs.Refusals.{Answer, value, refused}
use Rattle.vbv.specs.Annex.{unit, occupancy, first_arrived, arrived, expected}
use Rattle.vbv.specs.Model.{periods}
use Rattle.vbv.specs.Params.{same_params}
use Rattle.vbv.specs.Patch.{patched}
use Rattle.vbv.specs.declared.RemovalInterval.{RemovalInterval}
use Rattle.vbv.specs.declared.VbvParams.{VbvParams}
use Rattle.cadence.specs.Cadence.{interval, after}
use Rattle.cadence.specs.declared.VbvCadence.{VbvCadence}
use Rattle.picture_header.specs.declared.PictureFacts.{PictureFacts}
use Rattle.verify.specs.Check.{Accepted, accepted, verdict, reported, records}
use Rattle.layers.specs.Layer.{offered_facts}
use Rattle.pictures.specs.Cadence.{cadence_by}
use Rattle.pictures.specs.Sequence.{declared_by}
use Rattle.pictures.specs.declared.VbvStandard.TheVariants.{Mpeg2}
use Rattle.verify.specs.declared.VbvMode.{VbvMode}
use Rattle.verify.specs.declared.VbvPictureRecord.{VbvPictureRecord}
use Rattle.rate_control.specs.Answers.{Given, placed, again}
use Rattle.rate_control.specs.Offer.{Offer, end_code}
use Rattle.rate_control.specs.Calls.{Step, offered, withdrawn}

-- ---- where an offered picture lies, n bytes being handed out before it, in bits

-- the end of its start code
unfoldable pub position_of : ℕ → Offer → ℕ
position_of n o = 8 * (n + length o.headers + 4)

-- the end of headers, layer and, for the last picture, the sequence's end code
unfoldable pub content_of : ℕ → Offer → ℕ
content_of n o = 8 * (n + length o.headers + length o.layer + length (end_code o.last))

-- d units having arrived at its removal, which the interval i follows: k zero bytes keep the next removal from overflow exactly if z ≤ k, so z is the least; after the last picture z is 0.
-- At a variable rate no removal overflows, with any k, and z is 0
pub record Stuffs (variable : Bool) (p : VbvParams) (n d : ℕ) (i : RemovalInterval) (o : Offer) (z : ℕ) : Type 0 where
  pub least : o.last ≡ false
      → (k : ℕ) → (z ≤ k) ↔ (arrived variable p (content_of n o + 8 * k) d (periods i) ≤ (content_of n o + 8 * k + p.buffer_size_bits) * unit p)
  pub after_last : o.last ≡ true → z ≡ 0

-- ---- what was handed out

-- a placed picture: how many bytes were handed out before it, its offer, the delay and the zero bytes that were told, and the bytes placed
pub record Sent : Type 0 where
  pub before : ℕ
  pub offer : Offer
  pub delay : ℕ
  pub stuffing : ℕ
  pub bytes : List ℕ

abbrev pub sent_position : Sent → ℕ
sent_position x = position_of x.before x.offer

abbrev pub sent_end : Sent → ℕ
sent_end x = 8 * (x.before + length x.bytes)

abbrev pub sent_by : ℕ → Offer → Answer Given → List ℕ → (ℕ → List Sent) → List Sent
sent_by n o (value (placed q delay bytes stuffing)) out rest =
    record { before = n; offer = o; delay = delay; stuffing = stuffing; bytes = take bytes out } ∷ rest (n + length (take bytes out))
sent_by n o (value (again q)) out rest = rest n
sent_by n o (refused k picture coded expected) out rest = rest n

-- the pictures that the calls placed, n bytes being handed out before
unfoldable pub sent : ℕ → List Step → List Sent
sent n [] = []
sent n (offered o a out ∷ l) = sent_by n o a out (λ k. sent k l)
sent n (withdrawn k ∷ l) = sent n l

-- laid end to end
unfoldable pub end_to_end : List Sent → List ℕ
end_to_end [] = []
end_to_end (x ∷ xs) = x.bytes ++ end_to_end xs

-- the zero bytes among them
unfoldable pub stuffing_of : List Sent → ℕ
stuffing_of [] = 0
stuffing_of (x ∷ xs) = x.stuffing + stuffing_of xs

-- ---- one removal after another

-- what tells how long it lasts: an I or P picture, a field, by the offer's own words; the flags by its layer
abbrev pub sent_facts : Sent → PictureFacts
sent_facts x = offered_facts x.offer.kind x.offer.interval x.offer.layer

-- and how long it lasts, by the cadence before it
abbrev pub lasts_for : VbvCadence → Sent → RemovalInterval
lasts_for k x = interval k (sent_facts x)

-- what holds of each picture and the interval after it, as it is removed with d units arrived and all before `previous` removed
pub data Removals (variable : Bool) (p : VbvParams) (Holds : RemovalInterval → ℕ → ℕ → Sent → Type 0) : VbvCadence → ℕ → ℕ → List Sent → Type 0 where
  no_removal : {k : VbvCadence} {d previous : ℕ} → Removals variable p Holds k d previous []
  removal_then : {k : VbvCadence} {d previous : ℕ} {x : Sent} {xs : List Sent} → Holds (lasts_for k x) d previous x
      → Removals variable p Holds (after k (sent_facts x)) (arrived variable p (sent_end x) d (periods (lasts_for k x))) (sent_end x) xs → Removals variable p Holds k d previous (x ∷ xs)

-- C.3.1: the first picture's position and delay say what has arrived at its removal; at a variable rate the buffer is full (C.3.2); and its headers open the cadence
abbrev pub EachRemoval : VbvMode → VbvParams → (RemovalInterval → ℕ → ℕ → Sent → Type 0) → List Sent → Type 0
EachRemoval m p Holds [] = Unit {0}
EachRemoval m p Holds (x ∷ xs) =
    Removals m.variable p Holds (cadence_by m.film x.offer.headers) (first_arrived m.variable p (sent_position x) x.delay) 0 (x ∷ xs)

-- C.5, C.6: what is in the buffer is no more than it holds, and all of the picture is there
pub record InBuffer (p : VbvParams) (d previous : ℕ) (x : Sent) : Type 0 where
  pub no_overflow : d ≤ (previous + p.buffer_size_bits) * unit p
  pub no_underflow : sent_end x * unit p ≤ d

-- its bytes are headers, layer with the delay patched, zeros and end code; the delay is the expected one, and no 0xFFFF but at a variable rate, where it is nothing else and there are no zeros
pub record WellPlaced (variable : Bool) (p : VbvParams) (d previous : ℕ) (x : Sent) : Type 0 where
  pub bytes_are : x.bytes
      ≡ x.offer.headers ++ (patched x.offer.layer x.delay ++ (replicate x.stuffing 0 ++ end_code x.offer.last))
  pub delay_exact : x.delay ≡ expected variable p (sent_position x) d
  pub delay_told : variable ≡ false → x.delay ≤ 65534
  pub no_stuffing : variable ≡ true → x.stuffing ≡ 0

-- its zeros are the least
abbrev pub LeastStuffing : Bool → VbvParams → RemovalInterval → ℕ → ℕ → Sent → Type 0
LeastStuffing variable p i d previous x = Stuffs variable p x.before d i x.offer x.stuffing

-- ---- the check

-- coded equal to expected, data bits 8 × the bytes placed, field periods of the interval after it
unfoldable pub sent_record : VbvParams → RemovalInterval → ℕ → ℕ → Sent → VbvPictureRecord
sent_record p i d previous x = record {
  vbv_delay = x.delay;
  expected_delay = x.delay;
  data_bits = 8 * length x.bytes;
  occupancy_before_bits = occupancy p previous d;
  periods = periods i;
}

-- one record a picture, in order
unfoldable pub sent_records : Bool → VbvParams → VbvCadence → ℕ → ℕ → List Sent → List VbvPictureRecord
sent_records variable p k d previous [] = []
sent_records variable p k d previous (x ∷ xs) =
    sent_record p (lasts_for k x) d previous x
    ∷ sent_records variable p (after k (sent_facts x)) (arrived variable p (sent_end x) d (periods (lasts_for k x))) (sent_end x) xs

-- a verdict that reports R and B of p, with these records. The first headers may show the frame rate by another code, n and d than p has it by, and then the check counts in their units:
-- its parameters are what they declare, which is the same as p but for numerator and denominator (request 02)
pub record AcceptedFor (p : VbvParams) (headers : List ℕ) (rs : List VbvPictureRecord) (v : Answer Accepted) : Type 0 where
  pub report_is : reported v ≡ reported (accepted p rs)
  pub records_are : records v ≡ rs
  pub by_headers : (a : Accepted) → v ≡ value a → declared_by Mpeg2 headers ≡ value a.params
  pub same_value : (a : Accepted) → v ≡ value a → same_params p a.params ≡ true

-- once a picture is placed the check of the writer's mode accepts the bytes with these records, given a place for each
abbrev pub PassesCheck : VbvMode → VbvParams → List Sent → Type 0
PassesCheck m p [] = Unit {0}
PassesCheck m p (x ∷ xs) =
    (places : ℕ) → length (x ∷ xs) ≤ places
    → AcceptedFor p x.offer.headers (sent_records m.variable p (cadence_by m.film x.offer.headers) (first_arrived m.variable p (sent_position x) x.delay) 0 (x ∷ xs))
    (verdict m (end_to_end (x ∷ xs)) places)
