-- sequence_header() (ISO/IEC 13818-2 6.2.2.1, 6.3.3; 11172-2 2.4.2.3): its fields in stream order, and what they are.
-- Assumes nothing.
use Rattle.std.specs.Prelude.{ℕ, ◌+◌, ◌*◌, List, [], ◌∷◌, eqb, get_or, Option}
use Rattle.bits.specs.Bits.{pick}
use Rattle.bits.specs.Fields.{Field, any_value, nonzero, exactly, read_header}
use Rattle.bits.specs.Refusals.{Answer, value, and_then}
use Rattle.bits.specs.StartCodes.{start_code, sequence_header_code}
use Rattle.headers.specs.QuantMatrix.{read_matrix, load_flag}
use Rattle.headers.specs.declared.sequence_header.AspectRatio.{AspectRatio}
use Rattle.headers.specs.declared.sequence_header.AspectRatio.TheVariants.{Square, Dar3x4, Dar9x16, Dar1x221, Reserved}
use Rattle.headers.specs.declared.sequence_header.Mpeg2SequenceHeader.{Mpeg2SequenceHeader}

-- reserved aspect and rate codes pass, and bit_rate_value alone must not be 0 (docs/DIFFERENCES.md)
abbrev pub sequence_header_fields : List Field
sequence_header_fields =
    nonzero 12 ∷  -- 0 horizontal_size_value
    nonzero 12 ∷  -- 1 vertical_size_value
    nonzero 4 ∷  -- 2 aspect_ratio_information
    nonzero 4 ∷  -- 3 frame_rate_code
    nonzero 18 ∷  -- 4 bit_rate_value
    exactly 1 1 ∷  -- 5 marker_bit
    any_value 10 ∷  -- 6 vbv_buffer_size_value
    any_value 1 ∷ []  -- 7 constrained_parameters_flag

-- Table 6-3 (for 11172-2, whose codes mean other ratios, see docs/DIFFERENCES.md)
unfoldable pub aspect_ratio : ℕ → AspectRatio
aspect_ratio c = pick (eqb c 1) Square (pick (eqb c 2) Dar3x4 (pick (eqb c 3) Dar9x16 (pick (eqb c 4) Dar1x221 (Reserved c))))

-- the header of the fields h, with the two matrices that were read after them
unfoldable pub header_of : List ℕ → Option (List ℕ) → Option (List ℕ) → Mpeg2SequenceHeader
header_of h intra non_intra = record {
  width = get_or h 0 0;
  height = get_or h 1 0;
  aspect_ratio = aspect_ratio (get_or h 2 0);
  frame_rate_code = get_or h 3 0;
  bit_rate = get_or h 4 0;
  vbv_buffer_size = get_or h 6 0;
  constrained_parameters = eqb (get_or h 7 0) 1;
  intra_quant = intra;
  non_intra_quant = non_intra;
}

-- the fields up to bit 94; there the intra matrix, and after it the other
unfoldable pub sequence_header : List ℕ → Answer Mpeg2SequenceHeader
sequence_header s =
    and_then (read_header (start_code sequence_header_code) sequence_header_fields s) (λ h.
    and_then (read_matrix s 94) (λ intra.
    and_then (read_matrix s (95 + 512 * load_flag intra)) (λ non_intra.
    value (header_of h intra non_intra))))

-- the bytes that it occupies
unfoldable pub sequence_header_bytes : Mpeg2SequenceHeader → ℕ
sequence_header_bytes h = 12 + 64 * load_flag h.intra_quant + 64 * load_flag h.non_intra_quant
