use Rattle.bits.proofs.Checking.{Checking}
use Rattle.bits.proofs.check_fields.Given as goal

abbrev pub invariant-loop-k : goal.invariant-loop-k
invariant-loop-k l = Checking l.table l.values l.n l.k l.bits
