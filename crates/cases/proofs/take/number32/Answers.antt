use Rattle.std.proofs.Common.{sym}
use Rattle.cases.proofs.Taking.{number_past, four_bytes}
use Rattle.cases.proofs.take.number32.Goals as goal

pub returns-then-s-at : goal.returns-then-s-at
returns-then-s-at c = sym (number_past 4 _ _ c.if-s-at.true)

pub returns : goal.returns
returns c = rw (four_bytes, c.from.ensures, c.from-2.ensures, ← c.number16-low.ensures, ← c.number16-high.ensures)
