-- The group header written: what was written read again, and that a time code is written.
-- Assumes nothing.
use mathlib.Core.Path.{refl, sym}
use native.Mathlib.Omega.{arith}
use Rattle.bits.specs.StartCodes.{start_code, group_start_code}
use Rattle.bits.proofs.Writing.{header_read_written}
use Rattle.bits.proofs.Joining.{write_over}
use Rattle.headers.specs.GroupHeader.{group_fields, group_values}
use Rattle.headers.proofs.GroupHeader.{group_total, time_code-fits}
use Rattle.writers.specs.RoundTrips.{GroupWrittenReads, TimeCodeWrites}

-- a written group header reads as the values given
pub group_read_back : GroupWrittenReads
group_read_back g t e = header_read_written (start_code group_start_code) group_fields (group_values g) t refl e

-- the time code of a display index is written
pub time_code-written : TimeCodeWrites
time_code-written n c code closed broken out e h =
    sym (write_over (start_code group_start_code) group_fields _ out {n = 8} refl (time_code-fits n c code closed broken e) (omega (arith, group_total)) h refl).0
