-- The group header written and read, as statements; those of the sequence headers are in crates/headers/specs/RoundTrips.antt.
-- Assumes nothing.
use Rattle.std.specs.Prelude.{ℕ, ◌≤◌, ◌≡◌, List, ◌++◌, Bool, true, length}
use Rattle.bits.specs.Refusals.{value}
use Rattle.bits.specs.Fields.{fits_all, read_header, write_header}
use Rattle.bits.specs.Answers.{write_answer}
use Rattle.bits.specs.StartCodes.{start_code, group_start_code}
use Rattle.headers.specs.GroupHeader.{group_fields, group_values, time_code_at}
use Rattle.headers.specs.declared.gop_header.TimeCode.{TimeCode}
use Rattle.headers.specs.declared.gop_header.Mpeg2Gop.{Mpeg2Gop}

-- the bytes that `write_gop_header` writes
abbrev pub group_written : Mpeg2Gop → List ℕ
group_written g = write_header (start_code group_start_code) group_fields (group_values g)

-- a written group header reads as the values given, whatever stands after it
abbrev pub GroupWrittenReads : Type 0
GroupWrittenReads = (g : Mpeg2Gop) (follows : List ℕ) → fits_all group_fields (group_values g) ≡ true
    → read_header (start_code group_start_code) group_fields (group_written g ++ follows) ≡ value (group_values g)

-- the time code of a display index is never refused by the writer: with it 8 bytes are written where there is room for them
abbrev pub TimeCodeWrites : Type 0
TimeCodeWrites = (n c : ℕ) (code : TimeCode) (closed broken : Bool) (out : List ℕ) → time_code_at n c ≡ value code → 8 ≤ length out
    → write_answer (start_code group_start_code) group_fields (group_values record { time_code = code; closed_gop = closed; broken_link = broken }) out ≡ value 8
