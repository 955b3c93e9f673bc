use mathlib.Core.Path.{sym, ◌∙◌}
use native.Mathlib.Omega.{arith}
use Rattle.scan.proofs.Scans.{scanning, go_zero, go_other, done-here, done_none}
use Rattle.scan.proofs.scan_places.Goals as goal

pub loop-i-preserved-then-third-eq0 : goal.loop-i-preserved-then-third-eq0
loop-i-preserved-then-third-eq0 c =
    let v = scanning _ _ _ _ c.loop-i.invariant.code c.loop-i.invariant.count c.loop-i.invariant.few in
    let w = go_zero v (omega arith) (omega arith) in
    record { code = w.code; count = w.count; few = w.few }

pub returns-then-starts_with : goal.returns-then-starts_with
returns-then-starts_with c =
    let v = scanning _ _ _ _ c.loop-i.invariant.code c.loop-i.invariant.count c.loop-i.invariant.few in
    done-here v (omega arith) (sym c.starts_with.ensures ∙ c.if-starts_with.true)

pub loop-i-preserved : goal.loop-i-preserved
loop-i-preserved c =
    let v = scanning _ _ _ _ c.loop-i.invariant.code c.loop-i.invariant.count c.loop-i.invariant.few in
    let w = go_other v (omega arith) c.if-third-eq0.false (sym c.starts_with.ensures ∙ c.if-starts_with.false) in
    record { code = w.code; count = w.count; few = w.few }

pub returns : goal.returns
returns c =
    let v = scanning _ _ _ _ c.loop-i.invariant.code c.loop-i.invariant.count c.loop-i.invariant.few in
    done_none v (omega arith)
