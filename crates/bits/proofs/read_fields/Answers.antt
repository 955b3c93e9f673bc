use native.Mathlib.Omega.{arith}
use Rattle.bits.proofs.ReadLoop.{fields_reading_none, reading_short, reading_width, reading_bad, reading_more, reading_end}
use Rattle.bits.proofs.read_fields.Goals as goal

pub loop-k-init : goal.loop-k-init
loop-k-init c = fields_reading_none _ _ _

pub returns-in_default : goal.returns-in_default
returns-in_default c = rw (reading_short c.loop-k.invariant (omega arith) c.from-w.ensures c.in_default.ensures)

pub obeys-requires : goal.obeys-requires
obeys-requires c = reading_width c.loop-k.invariant (omega arith) c.from-w.ensures c.in-Some.ensures

pub returns-then-not-obeys : goal.returns-then-not-obeys
returns-then-not-obeys c = rw (reading_bad c.loop-k.invariant (omega arith) c.from-w.ensures c.in-Some.ensures c.obeys.ensures c.if-not-obeys.true)

pub loop-k-preserved : goal.loop-k-preserved
loop-k-preserved c =
    reading_more c.loop-k.invariant (omega arith) c.from-w.ensures c.in-Some.ensures c.obeys.ensures c.if-not-obeys.false (omega arith)

pub returns : goal.returns
returns c = reading_end c.loop-k.invariant (omega arith)
