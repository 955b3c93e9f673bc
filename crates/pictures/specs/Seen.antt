-- The pictures of a stream as their headers show them, in stream order: where each is, its coded delay and its facts; or the first header refused.
-- Assumes nothing.
use Rattle.std.specs.Prelude.{ℕ, ◌+◌, ◌*◌, List, [], ◌∷◌, ltb, length, drop, Option, Some, None}
use Rattle.vbv.specs.Model.{farthest}
use Rattle.bits.specs.Refusals.{Answer, value, refuse, and_then}
use Rattle.picture_header.specs.Facts.{header_told, picture_told}
use Rattle.scan.specs.Pictures.{Pic, pictures, next_picture}
use Rattle.scan.specs.declared.PictureSpan.{PictureSpan}
use Rattle.pictures.specs.declared.VbvStandard.{VbvStandard}
use Rattle.pictures.specs.declared.VbvStandard.TheVariants.{Mpeg1, Mpeg2}
use Rattle.picture_header.specs.declared.PictureFacts.{PictureFacts}
use Rattle.pictures.specs.declared.SeenPicture.{SeenPicture}

-- ---- a picture

-- what the picture whose start code begins s shows: its coded delay and its facts
unfoldable pub shown : VbvStandard → List ℕ → Answer (ℕ × PictureFacts)
shown Mpeg1 s = header_told s
shown Mpeg2 s = picture_told s

-- in bits: the end of the picture's start code, and the end of its data
unfoldable pub seen_of : Pic → ℕ × PictureFacts → SeenPicture
seen_of q t = record { pos_bits = 8 * (q.start + 4); end_bits = 8 * q.end; vbv_delay = t.0; facts = t.1 }

unfoldable pub seen_at : VbvStandard → List ℕ → Pic → Answer SeenPicture
seen_at standard s q = and_then (shown standard (drop q.start s)) (λ t. value (seen_of q t))

-- ---- the pictures

-- each in its turn: 1 or 2 for the first header refused
unfoldable pub seen_each : VbvStandard → List ℕ → List Pic → Answer (List SeenPicture)
seen_each standard s [] = value []
seen_each standard s (q ∷ qs) =
    and_then (seen_at standard s q) (λ x.
    and_then (seen_each standard s qs) (λ xs.
    value (x ∷ xs)))

unfoldable pub seen_pictures : VbvStandard → List ℕ → Answer (List SeenPicture)
seen_pictures standard s = seen_each standard s (pictures s)

-- ---- one after another

-- a picture and where the walk goes on, or no picture
pub data Sight : Type 0 where
  nothing : Sight
  one : SeenPicture → ℕ → Sight

unfoldable pub sight_at : VbvStandard → List ℕ → Option PictureSpan → Answer Sight
sight_at standard s None = value nothing
sight_at standard s (Some p) = and_then (seen_at standard s (record { start = p.at; end = p.end })) (λ x. value (one x p.next))

-- the first picture that begins at a code which a scan from `from` finds; 14 for a stream above 2^48 bits
unfoldable pub next_seen : VbvStandard → List ℕ → ℕ → Answer Sight
next_seen standard s from =
    refuse 14 (ltb farthest (8 * length s))
    (sight_at standard s (next_picture s from))
