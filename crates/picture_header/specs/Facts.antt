-- A picture's coded delay, and what its headers tell of how long it lasts (6.3.9, 6.3.10): whether it is an I or P picture, whether a field, repeat_first_field and top_field_first.
-- Assumes nothing.
use Rattle.std.specs.Prelude.{ℕ, List, Bool, true, false}
use Rattle.bits.specs.Refusals.{Answer, value, and_then}
use Rattle.picture_header.specs.PictureHeader.{picture_header}
use Rattle.picture_header.specs.Picture.{picture}
use Rattle.picture_header.specs.declared.PictureCodingType.{PictureCodingType}
use Rattle.picture_header.specs.declared.PictureCodingType.TheVariants.{Intra, Predictive, Bidirectional, DcIntra}
use Rattle.picture_header.specs.declared.PictureStructure.{PictureStructure}
use Rattle.picture_header.specs.declared.PictureStructure.TheVariants.{TopField, BottomField, Frame}
use Rattle.picture_header.specs.declared.Mpeg2PictureHeader.{Mpeg2PictureHeader}
use Rattle.picture_header.specs.declared.PictureCodingExtension.{PictureCodingExtension}
use Rattle.picture_header.specs.declared.PictureFacts.{PictureFacts}

-- I or P
unfoldable pub is_anchor : PictureCodingType → Bool
is_anchor Intra = true
is_anchor Predictive = true
is_anchor Bidirectional = false
is_anchor DcIntra = false

unfoldable pub is_field : PictureStructure → Bool
is_field TopField = true
is_field BottomField = true
is_field Frame = false

unfoldable pub facts_by : PictureCodingType → PictureStructure → Bool → Bool → PictureFacts
facts_by type structure repeat top = record { anchor = is_anchor type; field = is_field structure; repeat = repeat; top = top }

unfoldable pub facts_of : Mpeg2PictureHeader → PictureCodingExtension → PictureFacts
facts_of h x = facts_by h.picture_coding_type x.picture_structure x.repeat_first_field x.top_field_first

-- a picture's coded delay and its facts, by its header alone: MPEG-1 pictures are all frames
unfoldable pub header_told : List ℕ → Answer (ℕ × PictureFacts)
header_told s = and_then (picture_header s) (λ h. value (h.vbv_delay, facts_by h.picture_coding_type Frame false false))

-- and by the header and its extension
unfoldable pub picture_told : List ℕ → Answer (ℕ × PictureFacts)
picture_told s = and_then (picture s) (λ p. value (p.0.vbv_delay, facts_of p.0 p.1))
