-- sequence_extension() (ISO/IEC 13818-2 6.2.2.3, 6.3.5): its fields in stream order, and what they are.
-- Assumes nothing.
use Rattle.std.specs.Prelude.{ℕ, List, [], ◌∷◌, eqb, get_or}
use Rattle.bits.specs.Bits.{pick}
use Rattle.bits.specs.Fields.{Field, any_value, nonzero, exactly, read_header}
use Rattle.bits.specs.Refusals.{Answer, value, and_then}
use Rattle.bits.specs.StartCodes.{start_code, extension_start_code}
use Rattle.headers.specs.Answers.{flag_of}
use Rattle.headers.specs.declared.sequence_extension.ChromaFormat.{ChromaFormat}
use Rattle.headers.specs.declared.sequence_extension.ChromaFormat.TheVariants.{Yuv420, Yuv422, Yuv444}
use Rattle.headers.specs.declared.sequence_extension.Mpeg2SequenceExtension.{Mpeg2SequenceExtension}

abbrev pub sequence_extension_fields : List Field
sequence_extension_fields =
    exactly 4 1 ∷  -- 0 extension_start_code_identifier (Table 6-2)
    any_value 8 ∷  -- 1 profile_and_level_indication
    any_value 1 ∷  -- 2 progressive_sequence
    nonzero 2 ∷  -- 3 chroma_format, 00 reserved
    any_value 2 ∷  -- 4 horizontal_size_extension
    any_value 2 ∷  -- 5 vertical_size_extension
    any_value 12 ∷  -- 6 bit_rate_extension
    exactly 1 1 ∷  -- 7 marker_bit
    any_value 8 ∷  -- 8 vbv_buffer_size_extension
    any_value 1 ∷  -- 9 low_delay
    any_value 2 ∷  -- 10 frame_rate_extension_n
    any_value 5 ∷ []  -- 11 frame_rate_extension_d

-- Table 6-5, and the other way
unfoldable pub chroma_format : ℕ → ChromaFormat
chroma_format c = pick (eqb c 1) Yuv420 (pick (eqb c 2) Yuv422 Yuv444)

abbrev pub chroma_code : ChromaFormat → ℕ
chroma_code Yuv420 = 1
chroma_code Yuv422 = 2
chroma_code Yuv444 = 3

unfoldable pub extension_of : List ℕ → Mpeg2SequenceExtension
extension_of vs = record {
  profile_and_level = get_or vs 1 0;
  progressive_sequence = eqb (get_or vs 2 0) 1;
  chroma_format = chroma_format (get_or vs 3 0);
  horizontal_size_extension = get_or vs 4 0;
  vertical_size_extension = get_or vs 5 0;
  bit_rate_extension = get_or vs 6 0;
  vbv_buffer_size_extension = get_or vs 8 0;
  low_delay = eqb (get_or vs 9 0) 1;
  frame_rate_extension_n = get_or vs 10 0;
  frame_rate_extension_d = get_or vs 11 0;
}

unfoldable pub sequence_extension : List ℕ → Answer Mpeg2SequenceExtension
sequence_extension s = and_then (read_header (start_code extension_start_code) sequence_extension_fields s) (λ vs. value (extension_of vs))

-- the other way: the values of the fields
unfoldable pub extension_values : Mpeg2SequenceExtension → List ℕ
extension_values e =
    1
    ∷ e.profile_and_level
    ∷ flag_of e.progressive_sequence
    ∷ chroma_code e.chroma_format
    ∷ e.horizontal_size_extension
    ∷ e.vertical_size_extension
    ∷ e.bit_rate_extension
    ∷ 1
    ∷ e.vbv_buffer_size_extension
    ∷ flag_of e.low_delay
    ∷ e.frame_rate_extension_n
    ∷ e.frame_rate_extension_d
    ∷ []
