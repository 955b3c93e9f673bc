-- The numbers of the headers' refusals.
-- Assumes nothing.
use mathlib.Core.Path.{refl}
use mathlib.Core.List.{List}
use Prim.Native.Nat.{ℕ}
use lib.ListN.{drop}
use Rattle.bits.specs.Numbers.{a_value, by_number}
use Rattle.bits.proofs.Flags.{pick_elim}
use Rattle.bits.proofs.Numbering.{and_then_lem, Header, fields_numbered, header_numbered, write_numbered}
use Rattle.headers.specs.StartCode.{next_start_code}
use Rattle.headers.specs.QuantMatrix.{read_matrix}
use Rattle.headers.specs.SequenceHeader.{sequence_header}
use Rattle.headers.specs.SequenceExtension.{sequence_extension}
use Rattle.headers.specs.Sequence.{sequence}
use Rattle.headers.specs.Numbers.{HeaderNumbers}

pub next_numbered : (s : List ℕ) (k : ℕ) → Header (next_start_code s k)
unfolding next_start_code
next_numbered s k = pick_elim Header _ (λ e. by_number refl) λ e. a_value

matrix_numbered : (s : List ℕ) (i : ℕ) → Header (read_matrix s i)
unfolding read_matrix
matrix_numbered s i = and_then_lem _ (fields_numbered _ s i) λ flag. pick_elim Header _ (λ e. a_value) λ e. and_then_lem _ (fields_numbered _ s _) λ bytes. a_value

sequence_header_numbered : (s : List ℕ) → Header (sequence_header s)
unfolding sequence_header
sequence_header_numbered s =
    and_then_lem _ (header_numbered _ _ s) λ h.
    and_then_lem _ (matrix_numbered s _) λ intra.
    and_then_lem _ (matrix_numbered s _) λ non_intra.
    a_value

extension_numbered : (s : List ℕ) → Header (sequence_extension s)
unfolding sequence_extension
extension_numbered s = and_then_lem _ (header_numbered _ _ s) λ vs. a_value

sequence_numbered : (s : List ℕ) → Header (sequence s)
unfolding sequence
sequence_numbered s =
    and_then_lem _ (sequence_header_numbered s) λ h.
    and_then_lem _ (next_numbered s _) λ place.
    and_then_lem _ (extension_numbered (drop place s)) λ extension.
    a_value

pub header_numbers : HeaderNumbers
header_numbers = record {
  sequence_header_lem = sequence_header_numbered;
  sequence_extension_lem = extension_numbered;
  both = sequence_numbered;
  written = write_numbered;
}
