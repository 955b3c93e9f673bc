-- The round trips of paper 01 ('Headers read and written'), as statements: what is owed of the sequence header and of its extension; and that bytes after them do not matter.
-- Assumes nothing.
use Rattle.std.specs.Prelude.{ℕ, ◌<◌, ◌≡◌, List, ◌++◌, Bool, true, false, length, get_or, take, IfSome}
use Rattle.bits.specs.Refusals.{value, refused}
use Rattle.bits.specs.Fields.{fits_all, write_header}
use Rattle.bits.specs.StartCodes.{start_code, sequence_header_code, extension_start_code}
use Rattle.headers.specs.SequenceHeader.{sequence_header, sequence_header_bytes}
use Rattle.headers.specs.SequenceExtension.{sequence_extension_fields, extension_values, sequence_extension}
use Rattle.headers.specs.Sequence.{sequence}
use Rattle.headers.specs.StreamWriter.{params_fields, params_values, header_of_params, header_params, plain_extension}
use Rattle.headers.specs.declared.sequence_header.Mpeg2SequenceHeader.{Mpeg2SequenceHeader}
use Rattle.headers.specs.declared.sequence_extension.ChromaFormat.{ChromaFormat}
use Rattle.headers.specs.declared.sequence_extension.Mpeg2SequenceExtension.{Mpeg2SequenceExtension}
use Rattle.headers.specs.declared.sequence_extension.Mpeg2Sequence.{Mpeg2Sequence}
use Rattle.headers.specs.declared.stream_writer.SequenceHeaderParams.{SequenceHeaderParams}

-- a list of bytes
abbrev pub Bytes : List ℕ → Type 0
Bytes s = (k : ℕ) → get_or s k 0 < 256

-- the bytes that `write_sequence_header` writes, and those of any extension; `write_sequence_extension` writes those of `plain_extension`
abbrev pub sequence_written : SequenceHeaderParams → List ℕ
sequence_written p = write_header (start_code sequence_header_code) (params_fields p) (params_values p)

abbrev pub extension_written : Mpeg2SequenceExtension → List ℕ
extension_written e = write_header (start_code extension_start_code) sequence_extension_fields (extension_values e)

-- what is not refused with 16: every field fits; a matrix has 64 places
pub record Writable (p : SequenceHeaderParams) : Type 0 where
  pub fields_fit : fits_all (params_fields p) (params_values p) ≡ true
  pub intra_places : IfSome p.intra_quantiser_matrix (λ bytes. length bytes ≡ 64)
  pub non_intra_places : IfSome p.non_intra_quantiser_matrix (λ bytes. length bytes ≡ 64)

-- a written sequence header parses to the fields given, whatever stands after it
abbrev pub WrittenReads : Type 0
WrittenReads = (p : SequenceHeaderParams) (follows : List ℕ) → Writable p
    → sequence_header (sequence_written p ++ follows) ≡ value (header_of_params p)

-- a parsed one with constrained_parameters_flag 0 is not refused, and writes back to its own bytes
abbrev pub ReadWrites : Type 0
ReadWrites = (s : List ℕ) (h : Mpeg2SequenceHeader) → Bytes s → sequence_header s ≡ value h
    → h.constrained_parameters ≡ false → Writable (header_params h) × (sequence_written (header_params h) ≡ take (sequence_header_bytes h) s)

-- both of the extension, which has 10 bytes
abbrev pub ExtensionWrittenReads : Type 0
ExtensionWrittenReads = (e : Mpeg2SequenceExtension) (follows : List ℕ) → fits_all sequence_extension_fields (extension_values e) ≡ true
    → sequence_extension (extension_written e ++ follows) ≡ value e

abbrev pub ExtensionReadWrites : Type 0
ExtensionReadWrites = (s : List ℕ) (e : Mpeg2SequenceExtension) → Bytes s → sequence_extension s ≡ value e
    → (fits_all sequence_extension_fields (extension_values e) ≡ true) × (extension_written e ≡ take 10 s)

-- what `write_sequence_extension` writes is never refused with 16, and parses to what it was given
abbrev pub PlainWrittenReads : Type 0
PlainWrittenReads = (c : ChromaFormat) (progressive : Bool) (follows : List ℕ)
    → (fits_all sequence_extension_fields (extension_values (plain_extension c progressive)) ≡ true)
    × (sequence_extension (extension_written (plain_extension c progressive) ++ follows) ≡ value (plain_extension c progressive))

-- more bytes after a header change its answer only where that is 1
abbrev pub SequenceHeaderStays : Type 0
SequenceHeaderStays = (s follows : List ℕ) → (sequence_header s ≡ refused 1 0 0 0 → ⊥) → sequence_header (s ++ follows) ≡ sequence_header s

abbrev pub ExtensionStays : Type 0
ExtensionStays = (s follows : List ℕ) → (sequence_extension s ≡ refused 1 0 0 0 → ⊥) → sequence_extension (s ++ follows) ≡ sequence_extension s

-- and what is too short with more bytes after it (1) is too short without them
abbrev pub SequenceHeaderCut : Type 0
SequenceHeaderCut = (s follows : List ℕ) → sequence_header (s ++ follows) ≡ refused 1 0 0 0 → sequence_header s ≡ refused 1 0 0 0

abbrev pub ExtensionCut : Type 0
ExtensionCut = (s follows : List ℕ) → sequence_extension (s ++ follows) ≡ refused 1 0 0 0 → sequence_extension s ≡ refused 1 0 0 0

-- a sequence that parses does so with more bytes after it; a missing prefix (2) may come with them
abbrev pub SequenceStays : Type 0
SequenceStays = (s follows : List ℕ) (q : Mpeg2Sequence) → sequence s ≡ value q → sequence (s ++ follows) ≡ value q
