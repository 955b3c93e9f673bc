use mathlib.Core.Path.{◌≡◌, sym, ◌∙◌}
use native.Mathlib.Omega.{arith}
use Prim.Native.Nat.{◌-◌}
use Rattle.headers.proofs.StartCode.{next_here, next-early, next-at, next_missing}
use Rattle.headers.proofs.next_start_code.Goals as goal

pub returns-then-prefix_at : goal.returns-then-prefix_at
returns-then-prefix_at c = sym (next_here _ _ (sym c.prefix_at.ensures ∙ c.if-prefix_at.true))

pub returns-in_err-at : goal.returns-in_err-at
returns-in_err-at c = rw c.from_residual.ensures (sym (next-early _ _ _ c.past_zeros.ensures (omega arith)))

pub returns-then-prefix_at-2 : goal.returns-then-prefix_at-2
returns-then-prefix_at-2 c =
    let e : c.in_ok-at.at ≡ c.past_zeros.result - 2 = omega arith in
    rw e (sym (next-at _ _ _ c.past_zeros.ensures (rw (← e) (sym c.prefix_at-2.ensures ∙ c.if-prefix_at-2.true))))

pub returns-else-prefix_at-2 : goal.returns-else-prefix_at-2
returns-else-prefix_at-2 c =
    let e : c.in_ok-at.at ≡ c.past_zeros.result - 2 = omega arith in
    sym (next_missing _ _ _ c.past_zeros.ensures (rw (← e) (sym c.prefix_at-2.ensures ∙ c.if-prefix_at-2.false)))
