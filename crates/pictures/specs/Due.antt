-- What a sequence header declares, and the cadence that it opens; and which answer the front is due, by conditions: what is shown, or refused by the first test that fails, in the paper's order.
-- Assumes nothing.
use Rattle.std.specs.Prelude.{ℕ, ◌*◌, ◌≤◌, ◌<◌, ◌≡◌, Bool, true, false, ◌↔◌, ◌⊎◌, List, [], ◌∷◌, length, drop, Some}
use Rattle.vbv.specs.Model.{farthest}
use Rattle.bits.specs.Refusals.{Answer, value, refused}
use Rattle.headers.specs.SequenceHeader.{sequence_header}
use Rattle.headers.specs.Sequence.{sequence}
use Rattle.headers.specs.declared.sequence_header.Mpeg2SequenceHeader.{Mpeg2SequenceHeader}
use Rattle.headers.specs.declared.sequence_extension.Mpeg2Sequence.{Mpeg2Sequence}
use Rattle.picture_header.specs.Picture.{picture}
use Rattle.picture_header.specs.declared.PictureCodingType.TheVariants.{Intra, Predictive}
use Rattle.picture_header.specs.declared.PictureStructure.TheVariants.{Frame}
use Rattle.picture_header.specs.declared.Mpeg2PictureHeader.{Mpeg2PictureHeader}
use Rattle.picture_header.specs.declared.PictureCodingExtension.{PictureCodingExtension}
use Rattle.picture_header.specs.declared.PictureFacts.{PictureFacts}
use Rattle.scan.specs.Codes.{codes, found}
use Rattle.scan.specs.Pictures.{skip, not_sequence}
use Rattle.scan.specs.declared.StartCode.{StartCode}
use Rattle.vbv.specs.Answers.{frame_rate}
use Rattle.vbv.specs.declared.VbvParams.{VbvParams}
use Rattle.cadence.specs.declared.OpenField.TheVariants.{Closed}
use Rattle.pictures.specs.Sequence.{declared_by, declared}
use Rattle.pictures.specs.Cadence.{cadence_by, cadence_of}
use Rattle.pictures.specs.Seen.{shown, seen_pictures}
use Rattle.pictures.specs.Front.{Front, front}
use Rattle.pictures.specs.declared.VbvStandard.{VbvStandard}
use Rattle.pictures.specs.declared.VbvStandard.TheVariants.{Mpeg1, Mpeg2}
use Rattle.pictures.specs.declared.SeenPicture.{SeenPicture}

-- R, B and the frame rate are those of the fields that were read. MPEG-2's frame rate is that of code, n and d; 11172-2 has no n and d (request 02: 'MPEG-1 passes zeros')
pub record SequenceDeclares : Type 0 where
  pub of_mpeg2 : (s : List ℕ) (q : Mpeg2Sequence) (f : ℕ × ℕ) → sequence s ≡ value q
      → frame_rate q.header.frame_rate_code q.extension.frame_rate_extension_n q.extension.frame_rate_extension_d ≡ value f
      → declared_by Mpeg2 s
      ≡ value (record { bit_rate = 400 * q.bit_rate; buffer_size_bits = 16384 * q.vbv_buffer_size; frn = f.0; frd = f.1 })
  pub of_mpeg1 : (s : List ℕ) (h : Mpeg2SequenceHeader) (f : ℕ × ℕ) → sequence_header s ≡ value h
      → frame_rate h.frame_rate_code 0 0 ≡ value f
      → declared_by Mpeg1 s
      ≡ value (record { bit_rate = 400 * h.bit_rate; buffer_size_bits = 16384 * h.vbv_buffer_size; frn = f.0; frd = f.1 })

-- request 05: a film sequence is progressive and of low delay as its extension says, and no picture has gone before; outside film neither is looked at. Of a stream the first sequence header counts
pub record SequenceOpens : Type 0 where
  pub in_film : (s : List ℕ) (q : Mpeg2Sequence) → sequence s ≡ value q
      → cadence_by true s
      ≡ record { film = true; progressive = q.extension.progressive_sequence; low_delay = q.extension.low_delay; repeat = false; top = false; waiting = Closed }
  pub outside_film : (s : List ℕ) → cadence_by false s ≡ record { film = false; progressive = false; low_delay = false; repeat = false; top = false; waiting = Closed }
  pub of_stream : (film : Bool) (s : List ℕ) (c : StartCode) → found (skip not_sequence (codes s)) ≡ Some c → cadence_of film s ≡ cadence_by film (drop c.offset s)

-- what a picture's headers tell of how long it lasts, field by field (6.3.9, 6.3.10): I and P are anchors, the two field structures fields, and the flags are those of the coding extension
pub record PictureShows : Type 0 where
  pub an_anchor : (s : List ℕ) (h : Mpeg2PictureHeader) (x : PictureCodingExtension) (d : ℕ) (f : PictureFacts) → picture s ≡ value (h, x) → shown Mpeg2 s ≡ value (d, f)
      → (f.anchor ≡ true) ↔ ((h.picture_coding_type ≡ Intra) ⊎ (h.picture_coding_type ≡ Predictive))
  pub a_frame : (s : List ℕ) (h : Mpeg2PictureHeader) (x : PictureCodingExtension) (d : ℕ) (f : PictureFacts) → picture s ≡ value (h, x) → shown Mpeg2 s ≡ value (d, f)
      → (f.field ≡ false) ↔ (x.picture_structure ≡ Frame)
  pub the_flags : (s : List ℕ) (h : Mpeg2PictureHeader) (x : PictureCodingExtension) (d : ℕ) (f : PictureFacts) → picture s ≡ value (h, x) → shown Mpeg2 s ≡ value (d, f)
      → (f.repeat ≡ x.repeat_first_field) × (f.top ≡ x.top_field_first)

-- a stream of 2^48 bits at most that declares p, with pictures x and xs: 14, 3, sequence header, extension, 6, every picture header and 4 are passed
pub record Read (standard : VbvStandard) (s : List ℕ) (p : VbvParams) (x : SeenPicture) (xs : List SeenPicture) : Type 0 where
  pub short : 8 * length s ≤ farthest
  pub declares : declared standard s ≡ value p
  pub pictures_are : seen_pictures standard s ≡ value (x ∷ xs)

pub data FrontDue (standard : VbvStandard) (s : List ℕ) : Answer Front → Type 0 where
  too_far : farthest < 8 * length s → FrontDue standard s (refused 14 0 0 0)
  undeclared : {n k i j : ℕ} → 8 * length s ≤ farthest → declared standard s ≡ refused n k i j → FrontDue standard s (refused n k i j)
  bad_picture : {p : VbvParams} {n k i j : ℕ} → 8 * length s ≤ farthest → declared standard s ≡ value p → seen_pictures standard s ≡ refused n k i j
      → FrontDue standard s (refused n k i j)
  no_picture : {p : VbvParams} → 8 * length s ≤ farthest → declared standard s ≡ value p → seen_pictures standard s ≡ value []
      → FrontDue standard s (refused 4 0 0 0)
  all_read : {p : VbvParams} {x : SeenPicture} {xs : List SeenPicture} → Read standard s p x xs
      → FrontDue standard s (value (record { params = p; first = x; others = xs }))

-- what is owed
abbrev pub FrontIsDue : Type 0
FrontIsDue = (standard : VbvStandard) (s : List ℕ) → FrontDue standard s (front standard s)
