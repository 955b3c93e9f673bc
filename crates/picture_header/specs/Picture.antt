-- A picture header and the picture coding extension after it (ISO/IEC 13818-2 6.2.2, 6.2.3): no D picture, and the next start code is the extension's.
-- Assumes nothing.
use Rattle.std.specs.Prelude.{ℕ, List, Bool, true, false, drop}
use Rattle.bits.specs.Refusals.{Answer, value, refuse, and_then}
use Rattle.headers.specs.StartCode.{next_start_code}
use Rattle.picture_header.specs.PictureHeader.{picture_header, picture_header_bytes}
use Rattle.picture_header.specs.CodingExtension.{picture_coding_extension}
use Rattle.picture_header.specs.declared.PictureCodingType.{PictureCodingType}
use Rattle.picture_header.specs.declared.PictureCodingType.TheVariants.{Intra, Predictive, Bidirectional, DcIntra}
use Rattle.picture_header.specs.declared.Mpeg2PictureHeader.{Mpeg2PictureHeader}
use Rattle.picture_header.specs.declared.PictureCodingExtension.{PictureCodingExtension}

-- Table 6-12: 100 shall not be used
unfoldable pub is_dc : PictureCodingType → Bool
is_dc Intra = false
is_dc Predictive = false
is_dc Bidirectional = false
is_dc DcIntra = true

-- the header, and the extension at the next start code after it
unfoldable pub picture : List ℕ → Answer (Mpeg2PictureHeader × PictureCodingExtension)
picture s =
    and_then (picture_header s) (λ h.
    refuse 2 (is_dc h.picture_coding_type)
    (and_then (next_start_code s (picture_header_bytes h)) (λ place.
    and_then (picture_coding_extension (drop place s)) (λ x.
    value (h, x)))))
