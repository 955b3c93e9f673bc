use mathlib.Core.Path.{sym, ◌∙◌}
use native.Mathlib.Omega.{arith}
use borrow.Author.Tests.{eq-eqb, ne_eqb}
use Rattle.headers.proofs.StartCode.{zeros_past, zeros_none, zeros_more}
use Rattle.headers.proofs.past_zeros.Goals as goal

pub loop-at-preserved : goal.loop-at-preserved
loop-at-preserved c = sym (zeros_more _ _ (omega arith) (eq-eqb _ _ c.if-buf-at-eq0.true)) ∙ c.loop-at.invariant

pub returns-else-buf-at-eq0 : goal.returns-else-buf-at-eq0
returns-else-buf-at-eq0 c = sym (zeros_none _ _ (omega arith) (ne_eqb _ _ c.if-buf-at-eq0.false)) ∙ c.loop-at.invariant

pub returns-after-loop-at : goal.returns-after-loop-at
returns-after-loop-at c = sym (zeros_past _ _ (omega arith)) ∙ c.loop-at.invariant
