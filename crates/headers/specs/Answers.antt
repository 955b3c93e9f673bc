-- What the headers answer in paper 01's terms: the number and values of each case of each answer.
-- Assumes nothing.
use Rattle.std.specs.Prelude.{ℕ, Bool, true, false, Option, Some, None, Result, Ok, Err}
use Rattle.bits.specs.Refusals.{Answer, value, refused}
use Rattle.bits.specs.declared.FieldsError.{FieldsError}
use Rattle.bits.specs.declared.FieldsError.TheVariants.{Short, Bad}
use Rattle.bits.specs.declared.WriteError.{WriteError}
use Rattle.bits.specs.declared.WriteError.TheVariants.{Unfit, Full}
use Rattle.headers.specs.declared.Error.{Error}
use Rattle.headers.specs.declared.Error.TheVariants.{ShortHeader, InvalidBitstream, FieldToWrite, ShortOutput}

abbrev pub error_number : Error → ℕ
error_number ShortHeader = 1
error_number InvalidBitstream = 2
error_number FieldToWrite = 16
error_number ShortOutput = 19

abbrev pub header_refusal : {X : Type 0} → Error → Answer X
header_refusal e = refused (error_number e) 0 0 0

abbrev pub header_answer : {X : Type 0} → Result X Error → Answer X
header_answer (Ok x) = value x
header_answer (Err e) = header_refusal e

-- a table's refusals as a header's
abbrev pub fields_error : FieldsError → Error
fields_error Short = ShortHeader
fields_error Bad = InvalidBitstream

abbrev pub write_error : WriteError → Error
write_error Unfit = FieldToWrite
write_error Full = ShortOutput

-- a missing prefix is a bad header (2)
abbrev pub next_answer : Option ℕ → Answer ℕ
next_answer (Some p) = value p
next_answer None = refused 2 0 0 0

-- a flag's bit
abbrev pub flag_of : Bool → ℕ
flag_of true = 1
flag_of false = 0
