-- picture_coding_extension() (ISO/IEC 13818-2 6.2.3.1, 6.3.10) up to composite_display_flag: its fields in stream order, and what they are.
-- Assumes nothing.
use Rattle.std.specs.Prelude.{ℕ, List, [], ◌∷◌, Bool, not, ◌&&◌, eqb, leb, get_or}
use Rattle.bits.specs.Bits.{pick}
use Rattle.bits.specs.Refusals.{Answer, value, refuse, and_then}
use Rattle.bits.specs.Fields.{Field, any_value, nonzero, exactly, read_fields, read_header}
use Rattle.bits.specs.StartCodes.{start_code, extension_start_code}
use Rattle.picture_header.specs.declared.PictureStructure.{PictureStructure}
use Rattle.picture_header.specs.declared.PictureStructure.TheVariants.{TopField, BottomField, Frame}
use Rattle.picture_header.specs.declared.PictureCodingExtension.{PictureCodingExtension}

-- up to bit 52
abbrev pub motion_code_fields : List Field
motion_code_fields =
    exactly 4 8 ∷  -- 0 extension_start_code_identifier (Table 6-2)
    any_value 4 ∷  -- 1 f_code[0][0]
    any_value 4 ∷  -- 2 f_code[0][1]
    any_value 4 ∷  -- 3 f_code[1][0]
    any_value 4 ∷ []  -- 4 f_code[1][1]

-- an f_code is not 0; all four are read before they are looked at (docs/DECISIONS.md)
unfoldable pub motion_codes_fit : List ℕ → Bool
motion_codes_fit vs = leb 1 (get_or vs 1 0) && (leb 1 (get_or vs 2 0) && (leb 1 (get_or vs 3 0) && leb 1 (get_or vs 4 0)))

abbrev pub coding_fields : List Field
coding_fields =
    any_value 2 ∷  -- 0 intra_dc_precision
    nonzero 2 ∷  -- 1 picture_structure, 00 reserved
    any_value 1 ∷  -- 2 top_field_first
    any_value 1 ∷  -- 3 frame_pred_frame_dct
    any_value 1 ∷  -- 4 concealment_motion_vectors
    any_value 1 ∷  -- 5 q_scale_type
    any_value 1 ∷  -- 6 intra_vlc_format
    any_value 1 ∷  -- 7 alternate_scan
    any_value 1 ∷  -- 8 repeat_first_field
    any_value 1 ∷  -- 9 chroma_420_type
    any_value 1 ∷  -- 10 progressive_frame
    any_value 1 ∷ []  -- 11 composite_display_flag

-- Table 6-14
unfoldable pub picture_structure : ℕ → PictureStructure
picture_structure c = pick (eqb c 1) TopField (pick (eqb c 2) BottomField Frame)

unfoldable pub coding_extension_of : List ℕ → List ℕ → PictureCodingExtension
coding_extension_of h vs = record {
  f_code_fwd_horiz = get_or h 1 0;
  f_code_fwd_vert = get_or h 2 0;
  f_code_bwd_horiz = get_or h 3 0;
  f_code_bwd_vert = get_or h 4 0;
  intra_dc_precision = get_or vs 0 0;
  picture_structure = picture_structure (get_or vs 1 0);
  top_field_first = eqb (get_or vs 2 0) 1;
  frame_pred_frame_dct = eqb (get_or vs 3 0) 1;
  concealment_motion_vectors = eqb (get_or vs 4 0) 1;
  q_scale_type = eqb (get_or vs 5 0) 1;
  intra_vlc_format = eqb (get_or vs 6 0) 1;
  alternate_scan = eqb (get_or vs 7 0) 1;
  repeat_first_field = eqb (get_or vs 8 0) 1;
  chroma_420_type = eqb (get_or vs 9 0) 1;
  progressive_frame = eqb (get_or vs 10 0) 1;
  composite_display_flag = eqb (get_or vs 11 0) 1;
}

-- after the f_codes, at bit 52
unfoldable pub after_codes : List ℕ → List ℕ → Answer PictureCodingExtension
after_codes s h = and_then (read_fields coding_fields s 52) (λ vs. value (coding_extension_of h vs))

unfoldable pub picture_coding_extension : List ℕ → Answer PictureCodingExtension
picture_coding_extension s =
    and_then (read_header (start_code extension_start_code) motion_code_fields s) (λ h.
    refuse 2 (not (motion_codes_fit h))
    (after_codes s h))
