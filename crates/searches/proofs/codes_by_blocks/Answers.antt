use mathlib.Core.Path.{sym, ◌∙◌}
use native.Mathlib.Omega.{arith}
use Rattle.scan.proofs.Walk.{code_seen}
use Rattle.searches.proofs.Counting.{begun, one_more, all_found}
use Rattle.searches.proofs.codes_by_blocks.Goals as goal

pub loop-code-init : goal.loop-code-init
loop-code-init c = begun _

pub overflow_add-count : goal.overflow_add-count
overflow_add-count c =
    let m = code_seen _ _ _ (sym c.next_code.ensures ∙ c.in-Some.is) in
    omega (arith, c.loop-code.invariant.few, m.from, m.room)

pub overflow_add-from : goal.overflow_add-from
overflow_add-from c = omega (arith, (code_seen _ _ _ (sym c.next_code.ensures ∙ c.in-Some.is)).room)

pub loop-code-smaller : goal.loop-code-smaller
loop-code-smaller c =
    let m = code_seen _ _ _ (sym c.next_code.ensures ∙ c.in-Some.is) in
    omega (arith, m.from, m.room)

pub loop-code-preserved : goal.loop-code-preserved
loop-code-preserved c = one_more c.loop-code.invariant c.next_code.ensures c.in-Some.is

pub returns : goal.returns
returns c = all_found c.loop-code.invariant c.next_code.ensures c.in_default.is
