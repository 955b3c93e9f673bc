use Rattle.std.proofs.Common.{length}
use Rattle.verify.specs.Mode.{plain}
use Rattle.verify.specs.Check.{verdict, records}
use Rattle.verify.proofs.Storing.{Stored}
use Rattle.verify.proofs.lent.verify_cbr_stream.Given as goal

abbrev pub invariant-loop-place : goal.invariant-loop-place
invariant-loop-place l = Stored l.stream (λ rs. rs) 1 (records (verdict (plain l.fn.standard) l.stream (length l.fn.records))) l.initial.place-items l.place-items l.recorder l.place-index
