use Rattle.std.proofs.Common.{sym}
use Rattle.cases.proofs.Taking.{number_past, two_bytes}
use Rattle.cases.proofs.take.number16.Goals as goal

pub returns-then-s-at : goal.returns-then-s-at
returns-then-s-at c = sym (number_past 2 _ _ c.if-s-at.true)

pub returns : goal.returns
returns c = rw (two_bytes, c.from.ensures, c.from-2.ensures, ← c.byte-low.ensures, ← c.byte-high.ensures)
