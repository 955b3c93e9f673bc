use Rattle.headers.proofs.MatrixLoop.{MatrixReading}
use Rattle.headers.proofs.quant_matrix_extension.read_bytes.Given as goal

abbrev pub invariant-loop-k : goal.invariant-loop-k
invariant-loop-k l = MatrixReading l.buf l.at l.byte-items l.k
