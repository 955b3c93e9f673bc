use Rattle.bits.proofs.Putting.{Putting}
use Rattle.bits.proofs.put_fields.Given as goal

abbrev pub invariant-loop-k : goal.invariant-loop-k
invariant-loop-k l = Putting l.table l.values l.initial.out l.out l.at l.k
