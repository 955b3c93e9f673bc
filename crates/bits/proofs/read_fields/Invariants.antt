use Rattle.bits.proofs.ReadLoop.{FieldsReading}
use Rattle.bits.proofs.read_fields.Given as goal

abbrev pub invariant-loop-k : goal.invariant-loop-k
invariant-loop-k l = FieldsReading l.table l.s l.start l.values l.k l.at
