-- A picture layer that fits: picture header, extensions and slices of one coded picture (paper 01, 'A placed picture'; paper 02, request 05); and the facts that its headers tell.
-- Assumes nothing.
use Rattle.std.specs.Prelude.{ℕ, ◌-◌, ◌*◌, ◌≡◌, Option, Some, None, List, [], ◌∷◌, Bool, true, false, not, ◌&&◌, ◌||◌, eqb, leb, drop}
use Rattle.vbv.specs.Model.{interval_of}
use Rattle.picture_header.specs.Facts.{is_field, picture_told}
use Rattle.picture_header.specs.declared.PictureFacts.{PictureFacts}
use Rattle.bits.specs.StartCodes.{user_data_start_code, extension_start_code}
use Rattle.bits.specs.Bits.{bits_at}
use Rattle.bits.specs.Refusals.{value, and_then, or_else}
use Rattle.headers.specs.StartCode.{leading_zeros}
use Rattle.picture_header.specs.PictureHeader.{picture_header_bits, picture_header_bytes}
use Rattle.picture_header.specs.Picture.{picture}
use Rattle.picture_header.specs.declared.PictureCodingType.{PictureCodingType}
use Rattle.picture_header.specs.declared.PictureCodingType.TheVariants.{Intra, Predictive, Bidirectional, DcIntra}
use Rattle.picture_header.specs.declared.Mpeg2PictureHeader.{Mpeg2PictureHeader}
use Rattle.picture_header.specs.declared.PictureCodingExtension.{PictureCodingExtension}
use Rattle.vbv.specs.declared.RemovalInterval.{RemovalInterval}
use Rattle.vbv.specs.declared.RemovalInterval.TheVariants.{Frame, Field, ThreeFields, TwoFrames, ThreeFrames}
use Rattle.scan.specs.declared.StartCode.{StartCode}
use Rattle.scan.specs.Codes.{codes, every, ends_prefix}
use Rattle.scan.specs.Pictures.{is_slice, skip}
use Rattle.layers.specs.declared.PictureKind.{PictureKind}
use Rattle.layers.specs.declared.PictureKind.TheVariants.{I, P, B}

-- its type is the offered kind
unfoldable pub same_kind : PictureKind → PictureCodingType → Bool
same_kind I Intra = true
same_kind I Predictive = false
same_kind I Bidirectional = false
same_kind I DcIntra = false
same_kind P Intra = false
same_kind P Predictive = true
same_kind P Bidirectional = false
same_kind P DcIntra = false
same_kind B Intra = false
same_kind B Predictive = false
same_kind B Bidirectional = true
same_kind B DcIntra = false

-- the structure agrees with the interval: an offer says frame or field, and any other agrees with none
unfoldable pub agrees : RemovalInterval → Bool → Bool
agrees Frame field = not field
agrees Field field = field
agrees ThreeFields field = false
agrees TwoFrames field = false
agrees ThreeFrames field = false

-- a full-pel flag is 0 and its code 7, where the type has them (6.3.9)
unfoldable pub flag_clear : Option Bool → Bool
flag_clear None = true
flag_clear (Some f) = not f

unfoldable pub code_seven : Option ℕ → Bool
code_seven None = true
code_seven (Some c) = eqb c 7

-- the bits that pad the picture header to a byte
unfoldable pub padding : List ℕ → Mpeg2PictureHeader → ℕ
padding s h = bits_at s (picture_header_bits h) (8 * picture_header_bytes h - picture_header_bits h)

-- what the two headers tell: repeat_first_field is 0, but for a film writer (request 05); two zero bytes after the picture header: the extension's prefix lies there, with only zeros between
unfoldable pub headers_tell : Bool → PictureKind → RemovalInterval → List ℕ → Mpeg2PictureHeader → PictureCodingExtension → Bool
headers_tell film k i s h x =
    same_kind k h.picture_coding_type
    && (agrees i (is_field x.picture_structure)
    && ((film || not x.repeat_first_field)
    && (flag_clear h.full_pel_forward_vector
    && (code_seven h.fwd_f_code
    && (flag_clear h.full_pel_backward_vector
    && (code_seven h.bwd_f_code
    && (eqb (padding s h) 0
    && leb 2 (leading_zeros (drop (picture_header_bytes h) s)))))))))

-- both headers parse, and tell this
unfoldable pub header_fits : Bool → PictureKind → RemovalInterval → List ℕ → Bool
header_fits film k i s = or_else false (and_then (picture s) (λ p. value (headers_tell film k i s p.0 p.1)))

-- at least one slice and only slices
unfoldable pub slices : List StartCode → Bool
slices [] = false
slices (c ∷ cs) = is_slice c.code && every is_slice cs

-- extension and user_data (Table 6-1)
unfoldable pub is_extension : ℕ → Bool
is_extension c = eqb c extension_start_code || eqb c user_data_start_code

-- 00 once at byte 0, then any of B5 and B2, then the slices
unfoldable pub layer_codes : List StartCode → Bool
layer_codes [] = false
layer_codes (c ∷ cs) = eqb c.offset 0 && (eqb c.code 0 && slices (skip is_extension cs))

unfoldable pub layer_fits : Bool → PictureKind → RemovalInterval → List ℕ → Bool
layer_fits film k i s = header_fits film k i s && (layer_codes (codes s) && not (ends_prefix s))

-- the facts that its headers tell; a B frame's, without flags, where they do not parse
unfoldable pub facts_in : List ℕ → PictureFacts
facts_in s = or_else (record { anchor = false; field = false; repeat = false; top = false }) (and_then (picture_told s) (λ t. value t.1))

-- ---- what is owed of a layer's facts (request 05)

-- by the offer's own words: an I or P picture, a field; and the two flags that only the layer tells
unfoldable pub of_anchor : PictureKind → Bool
of_anchor I = true
of_anchor P = true
of_anchor B = false

unfoldable pub of_field : RemovalInterval → Bool
of_field Frame = false
of_field Field = true
of_field ThreeFields = false
of_field TwoFrames = false
of_field ThreeFrames = false

abbrev pub offered_facts : PictureKind → RemovalInterval → List ℕ → PictureFacts
offered_facts k i s = record { anchor = of_anchor k; field = of_field i; repeat = (facts_in s).repeat; top = (facts_in s).top }

-- a coding extension without repeat_first_field
abbrev pub cleared : PictureCodingExtension → PictureCodingExtension
cleared x = record {
  f_code_fwd_horiz = x.f_code_fwd_horiz;
  f_code_fwd_vert = x.f_code_fwd_vert;
  f_code_bwd_horiz = x.f_code_bwd_horiz;
  f_code_bwd_vert = x.f_code_bwd_vert;
  intra_dc_precision = x.intra_dc_precision;
  picture_structure = x.picture_structure;
  top_field_first = x.top_field_first;
  frame_pred_frame_dct = x.frame_pred_frame_dct;
  concealment_motion_vectors = x.concealment_motion_vectors;
  q_scale_type = x.q_scale_type;
  intra_vlc_format = x.intra_vlc_format;
  alternate_scan = x.alternate_scan;
  repeat_first_field = false;
  chroma_420_type = x.chroma_420_type;
  progressive_frame = x.progressive_frame;
  composite_display_flag = x.composite_display_flag;
}

pub record LayerTells : Type 0 where
  -- the flags are those of the layer's own coding extension
  pub the_flags : (s : List ℕ) (h : Mpeg2PictureHeader) (x : PictureCodingExtension) → picture s ≡ value (h, x)
      → ((facts_in s).repeat ≡ x.repeat_first_field) × ((facts_in s).top ≡ x.top_field_first)
  -- a layer that fits tells what the offer says
  pub as_offered : (film : Bool) (k : PictureKind) (i : RemovalInterval) (s : List ℕ) → layer_fits film k i s ≡ true → facts_in s ≡ offered_facts k i s
  -- 'its offers' interval still says frame or field'
  pub frame_or_field : (film : Bool) (k : PictureKind) (i : RemovalInterval) (s : List ℕ) → layer_fits film k i s ≡ true → i ≡ interval_of (of_field i)
  -- 'Only a film writer takes layers with repeat_first_field 1'; it takes one just where all else fits, and without it both take the same
  pub only_film : (k : PictureKind) (i : RemovalInterval) (s : List ℕ) (h : Mpeg2PictureHeader) (x : PictureCodingExtension) → picture s ≡ value (h, x)
      → x.repeat_first_field ≡ true → layer_fits false k i s ≡ false
  pub film_takes : (k : PictureKind) (i : RemovalInterval) (s : List ℕ) (h : Mpeg2PictureHeader) (x : PictureCodingExtension) → picture s ≡ value (h, x)
      → layer_fits true k i s ≡ (headers_tell false k i s h (cleared x) && (layer_codes (codes s) && not (ends_prefix s)))
  pub alike : (k : PictureKind) (i : RemovalInterval) (s : List ℕ) (h : Mpeg2PictureHeader) (x : PictureCodingExtension) → picture s ≡ value (h, x)
      → x.repeat_first_field ≡ false → layer_fits true k i s ≡ layer_fits false k i s
