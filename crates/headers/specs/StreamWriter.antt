-- What the writers of sequence_header() and sequence_extension() put into the fields (ISO/IEC 13818-2 6.2.2.1, 6.2.2.3).
-- Assumes nothing.
use Rattle.std.specs.Prelude.{ℕ, List, [], ◌∷◌, ◌++◌, Bool, false}
use Rattle.bits.specs.Fields.{Field}
use Rattle.headers.specs.QuantMatrix.{matrix_fields, matrix_values}
use Rattle.headers.specs.SequenceHeader.{sequence_header_fields, aspect_ratio}
use Rattle.headers.specs.declared.sequence_header.AspectRatio.{AspectRatio}
use Rattle.headers.specs.declared.sequence_header.AspectRatio.TheVariants.{Square, Dar3x4, Dar9x16, Dar1x221, Reserved}
use Rattle.headers.specs.declared.sequence_header.Mpeg2SequenceHeader.{Mpeg2SequenceHeader}
use Rattle.headers.specs.declared.sequence_extension.ChromaFormat.{ChromaFormat}
use Rattle.headers.specs.declared.sequence_extension.ChromaFormat.TheVariants.{Yuv420, Yuv422, Yuv444}
use Rattle.headers.specs.declared.sequence_extension.Mpeg2SequenceExtension.{Mpeg2SequenceExtension}
use Rattle.headers.specs.declared.stream_writer.SequenceHeaderParams.{SequenceHeaderParams}

-- a sequence header with its matrices: the table and its values; the marker is 1, constrained_parameters_flag 0
unfoldable pub params_fields : SequenceHeaderParams → List Field
params_fields p = sequence_header_fields ++ (matrix_fields p.intra_quantiser_matrix ++ matrix_fields p.non_intra_quantiser_matrix)

unfoldable pub base_values : SequenceHeaderParams → List ℕ
base_values p =
    p.horizontal_size
    ∷ p.vertical_size
    ∷ p.aspect_ratio_code
    ∷ p.frame_rate_code
    ∷ p.bit_rate_value
    ∷ 1
    ∷ p.vbv_buffer_size_value
    ∷ 0
    ∷ []

unfoldable pub params_values : SequenceHeaderParams → List ℕ
params_values p = base_values p ++ (matrix_values p.intra_quantiser_matrix ++ matrix_values p.non_intra_quantiser_matrix)

-- the header that they make
unfoldable pub header_of_params : SequenceHeaderParams → Mpeg2SequenceHeader
header_of_params p = record {
  width = p.horizontal_size;
  height = p.vertical_size;
  aspect_ratio = aspect_ratio p.aspect_ratio_code;
  frame_rate_code = p.frame_rate_code;
  bit_rate = p.bit_rate_value;
  vbv_buffer_size = p.vbv_buffer_size_value;
  constrained_parameters = false;
  intra_quant = p.intra_quantiser_matrix;
  non_intra_quant = p.non_intra_quantiser_matrix;
}

-- Table 6-3, and the other way: what writes a header again
abbrev pub aspect_code : AspectRatio → ℕ
aspect_code Square = 1
aspect_code Dar3x4 = 2
aspect_code Dar9x16 = 3
aspect_code Dar1x221 = 4
aspect_code (Reserved c) = c

unfoldable pub header_params : Mpeg2SequenceHeader → SequenceHeaderParams
header_params h = record {
  horizontal_size = h.width;
  vertical_size = h.height;
  aspect_ratio_code = aspect_code h.aspect_ratio;
  frame_rate_code = h.frame_rate_code;
  bit_rate_value = h.bit_rate;
  vbv_buffer_size_value = h.vbv_buffer_size;
  intra_quantiser_matrix = h.intra_quant;
  non_intra_quantiser_matrix = h.non_intra_quant;
}

-- Tables 8-1 to 8-3: Main profile at Main level for 4:2:0, else High profile at Main level; no profile has 4:4:4 (docs/DIFFERENCES.md)
abbrev pub profile_and_level : ChromaFormat → ℕ
profile_and_level Yuv420 = 0x48
profile_and_level Yuv422 = 0x18
profile_and_level Yuv444 = 0x18

-- the extension that is written: every size, rate and buffer extension 0
unfoldable pub plain_extension : ChromaFormat → Bool → Mpeg2SequenceExtension
plain_extension c progressive = record {
  profile_and_level = profile_and_level c;
  progressive_sequence = progressive;
  chroma_format = c;
  horizontal_size_extension = 0;
  vertical_size_extension = 0;
  bit_rate_extension = 0;
  vbv_buffer_size_extension = 0;
  low_delay = false;
  frame_rate_extension_n = 0;
  frame_rate_extension_d = 0;
}
