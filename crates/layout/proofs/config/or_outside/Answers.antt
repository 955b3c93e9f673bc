use mathlib.Core.Path.{sym}
use Rattle.layout.proofs.Narrowing.{inside, above}
use Rattle.layout.proofs.config.or_outside.Goals as goal

pub returns-then-value-most : goal.returns-then-value-most
returns-then-value-most c = sym (inside _ _ _ c.if-value-most.true)

pub returns-else-value-most : goal.returns-else-value-most
returns-else-value-most c = sym (above _ _ _ c.if-value-most.false)
