use Rattle.std.proofs.Common.{length}
use Rattle.verify.specs.Check.{verdict, records}
use Rattle.verify.specs.Layout.{record_size, records_bytes}
use Prim.Native.Nat.{◌/◌}
use Rattle.verify.proofs.Storing.{Stored}
use Rattle.verify.proofs.report.verify_in_mode.Given as goal

abbrev pub invariant-loop-i : goal.invariant-loop-i
invariant-loop-i l = Stored l.stream records_bytes record_size (records (verdict l.fn.mode l.stream (length l.initial.records / record_size))) l.initial.records l.records l.recorder l.i
