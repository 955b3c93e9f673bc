use Rattle.std.proofs.Common.{sym}
use Rattle.cases.proofs.Taking.{number_past, eight_bytes}
use Rattle.cases.proofs.take.number64.Goals as goal

pub returns-then-s-at : goal.returns-then-s-at
returns-then-s-at c = sym (number_past 8 _ _ c.if-s-at.true)

pub returns : goal.returns
returns c = rw (eight_bytes, c.from.ensures, c.from-2.ensures, ← c.number32-low.ensures, ← c.number32-high.ensures)
