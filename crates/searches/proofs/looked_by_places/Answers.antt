use mathlib.Core.Path.{sym, ◌∙◌}
use native.Mathlib.Omega.{arith}
use Rattle.scan.proofs.Walk.{code_seen}
use Rattle.scan.proofs.Scans.{found_by, looking_begun, looking_on, looking_done, looking_few}
use Rattle.searches.proofs.looked_by_places.Goals as goal

pub loop-code-init : goal.loop-code-init
loop-code-init c = looking_begun _

pub overflow_add-looked : goal.overflow_add-looked
overflow_add-looked c = omega (arith, looking_few c.loop-code.invariant c.scan_code-scanned.ensures)

pub returns-in-None : goal.returns-in-None
returns-in-None c = looking_done c.loop-code.invariant c.scan_code-scanned.ensures c.in-None.is

pub overflow_add-from : goal.overflow_add-from
overflow_add-from c = omega (arith, (code_seen _ _ _ (sym (found_by _ _ c.scan_code-scanned.ensures) ∙ c.in-Some.is)).room)

pub loop-code-smaller : goal.loop-code-smaller
loop-code-smaller c =
    let m = code_seen _ _ _ (sym (found_by _ _ c.scan_code-scanned.ensures) ∙ c.in-Some.is) in
    omega (arith, m.from, m.room)

pub loop-code-preserved : goal.loop-code-preserved
loop-code-preserved c = looking_on c.loop-code.invariant c.scan_code-scanned.ensures c.in-Some.is
