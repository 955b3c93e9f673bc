use Rattle.cases.proofs.Putting.{Put}
use Rattle.cases.proofs.put.put_bytes.Given as goal

abbrev pub invariant-loop-b : goal.invariant-loop-b
invariant-loop-b l = Put l.initial.out l.initial.at l.bytes l.out l.next l.b-index
