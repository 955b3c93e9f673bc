use mathlib.Core.Path.{sym, ◌∙◌}
use native.Mathlib.Omega.{arith}
use Prim.Native.Nat.{◌<◌}
use Rattle.scan.proofs.Walk.{code_seen, pass_on, stop_here, none_here}
use Rattle.scan.proofs.first_code_not.Goals as goal

pub returns-in_err-next : goal.returns-in_err-next
returns-in_err-next g c p d =
    c.from_residual.ensures ∙ none_here p _ _ (sym c.next_code.ensures ∙ c.in_err-next.was) ∙ c.loop-passes.invariant p d

pub returns-then-not-passes : goal.returns-then-not-passes
returns-then-not-passes g c p d =
    let q : c.in_ok-next.next.code < 256 = omega arith in
    stop_here p _ _ _ (sym c.next_code.ensures ∙ c.in_ok-next.was) (sym (d _ _ q c.passes.ensures) ∙ c.if-not-passes.true)
    ∙ c.loop-passes.invariant p d

pub overflow_add-i : goal.overflow_add-i
overflow_add-i g c = omega (arith, (code_seen _ _ _ (sym c.next_code.ensures ∙ c.in_ok-next.was)).room)

pub loop-passes-smaller : goal.loop-passes-smaller
loop-passes-smaller g c =
    omega (arith, (code_seen _ _ _ (sym c.next_code.ensures ∙ c.in_ok-next.was)).from, (code_seen _ _ _ (sym c.next_code.ensures ∙ c.in_ok-next.was)).room)

pub loop-passes-preserved : goal.loop-passes-preserved
loop-passes-preserved g c p d =
    let q : c.in_ok-next.next.code < 256 = omega arith in
    pass_on p _ _ _ (sym c.next_code.ensures ∙ c.in_ok-next.was) (sym (d _ _ q c.passes.ensures) ∙ c.if-not-passes.false)
    ∙ c.loop-passes.invariant p d
