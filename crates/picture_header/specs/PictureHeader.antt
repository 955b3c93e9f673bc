-- picture_header() (ISO/IEC 13818-2 6.2.3, 6.3.9; 11172-2 2.4.2.5): its fields in stream order, and what they are.
-- Assumes nothing.
use Rattle.std.specs.Prelude.{ℕ, zero, suc, ◌+◌, ◌*◌, ◌/◌, List, [], ◌∷◌, ◌++◌, Bool, true, false, ◌||◌, eqb, get_or, drop, Option}
use Rattle.std.specs.Bool.{then_some}
use Rattle.bits.specs.Bits.{pick, bit_list}
use Rattle.bits.specs.Refusals.{Answer, value, refused, and_then}
use Rattle.bits.specs.Fields.{Field, field, any_value, read_fields, read_header}
use Rattle.bits.specs.StartCodes.{start_code, picture_start_code}
use Rattle.headers.specs.Answers.{flag_of}
use Rattle.picture_header.specs.declared.PictureCodingType.{PictureCodingType}
use Rattle.picture_header.specs.declared.PictureCodingType.TheVariants.{Intra, Predictive, Bidirectional, DcIntra}
use Rattle.picture_header.specs.declared.Mpeg2PictureHeader.{Mpeg2PictureHeader}

abbrev pub picture_fields : List Field
picture_fields =
    any_value 10 ∷  -- 0 temporal_reference
    field 3 1 4 ∷  -- 1 picture_coding_type: I P B, and D of 11172-2
    any_value 16 ∷ []  -- 2 vbv_delay

-- P and B pictures have a forward vector's fields, B pictures a backward one's too
unfoldable pub forward : ℕ → Bool
forward t = eqb t 2 || eqb t 3

unfoldable pub backward : ℕ → Bool
backward t = eqb t 3

-- a vector's fields, where the type has them
unfoldable pub vector_fields : Bool → List Field
vector_fields true =
    any_value 1 ∷  -- full_pel_forward_vector, full_pel_backward_vector
    any_value 3 ∷ []  -- forward_f_code, backward_f_code
vector_fields false = []

unfoldable pub motion_fields : ℕ → List Field
motion_fields t = vector_fields (forward t) ++ vector_fields (backward t)

-- Table 6-12
unfoldable pub coding_type : ℕ → PictureCodingType
coding_type t = pick (eqb t 1) Intra (pick (eqb t 2) Predictive (pick (eqb t 3) Bidirectional DcIntra))

-- while extra_bit_picture is 1, eight bits of extra_information_picture follow; k of them are still to be passed over. How many bytes that is; or the bits end first (1)
unfoldable pub extra : ℕ → List ℕ → Answer ℕ
extra k [] = refused 1 0 0 0
extra (suc k) (b ∷ bs) = extra k bs
extra zero (zero ∷ bs) = value 0
extra zero (suc b ∷ bs) = and_then (extra 8 bs) (λ n. value (suc n))

-- the extra information of the bytes s whose first flag is bit i
abbrev pub extra_at : List ℕ → ℕ → Answer ℕ
extra_at s i = extra 0 (drop i (bit_list s))

-- the bit at which the first extra_bit_picture stands: a vector's fields are four bits
unfoldable pub extra_bit : ℕ → ℕ
extra_bit t = 61 + 4 * flag_of (forward t) + 4 * flag_of (backward t)

unfoldable pub flag_if : Bool → ℕ → Option Bool
flag_if b v = then_some b (eqb v 1)

unfoldable pub code_if : Bool → ℕ → Option ℕ
code_if b v = then_some b v

-- the header of the fields h and m, with n bytes of extra information
unfoldable pub picture_of : List ℕ → List ℕ → ℕ → Mpeg2PictureHeader
picture_of h m n = record {
  temporal_reference = get_or h 0 0;
  picture_coding_type = coding_type (get_or h 1 0);
  vbv_delay = get_or h 2 0;
  full_pel_forward_vector = flag_if (forward (get_or h 1 0)) (get_or m 0 0);
  fwd_f_code = code_if (forward (get_or h 1 0)) (get_or m 1 0);
  full_pel_backward_vector = flag_if (backward (get_or h 1 0)) (get_or m 2 0);
  bwd_f_code = code_if (backward (get_or h 1 0)) (get_or m 3 0);
  extra_information_bytes = n;
  extra_information_bit = extra_bit (get_or h 1 0);
}

-- after vbv_delay: at bit 61 what the type has of motion vectors' fields, and after it the extra information
unfoldable pub after_delay : List ℕ → List ℕ → Answer Mpeg2PictureHeader
after_delay s h =
    and_then (read_fields (motion_fields (get_or h 1 0)) s 61) (λ m.
    and_then (extra_at s (extra_bit (get_or h 1 0))) (λ n.
    value (picture_of h m n)))

unfoldable pub picture_header : List ℕ → Answer Mpeg2PictureHeader
picture_header s = and_then (read_header (start_code picture_start_code) picture_fields s) (after_delay s)

-- its bits: up to the first flag, nine for each extra byte and one for the last flag
unfoldable pub picture_header_bits : Mpeg2PictureHeader → ℕ
picture_header_bits h = h.extra_information_bit + 9 * h.extra_information_bytes + 1

-- the bytes that it occupies, with the zeros to a whole byte
unfoldable pub picture_header_bytes : Mpeg2PictureHeader → ℕ
unfolding picture_header_bits
picture_header_bytes h = (picture_header_bits h + 7) / 8

unfoldable pub header_length : List ℕ → Answer ℕ
header_length s = and_then (picture_header s) (λ h. value (picture_header_bytes h))
