use Rattle.bits.proofs.Reading.{found_bound}
use Rattle.headers.proofs.MatrixLoop.{matrix_reading_none, reading_short, reading_more, reading_end}
use Rattle.headers.proofs.quant_matrix_extension.read_bytes.Goals as goal

pub loop-k-init : goal.loop-k-init
loop-k-init c = matrix_reading_none _ _

pub returns-in_default : goal.returns-in_default
returns-in_default c = reading_short c.loop-k.invariant c.loop-k-test.true c.in_default.ensures

pub overflow_cast-byte : goal.overflow_cast-byte
overflow_cast-byte c = record { fits = found_bound _ _ 8 _ c.in-Some.ensures }

pub loop-k-preserved : goal.loop-k-preserved
loop-k-preserved c = reading_more c.loop-k.invariant c.loop-k-test.true c.in-Some.ensures

pub returns : goal.returns
returns c = reading_end c.loop-k.invariant c.loop-k-test.false
