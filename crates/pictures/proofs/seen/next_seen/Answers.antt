use mathlib.Core.Path.{◌≡◌, sym, ◌∙◌}
use native.Mathlib.Omega.{arith}
use Rattle.std.specs.Prelude.{Some}
use Rattle.std.proofs.lemmas.Result.{err_from_is_err_and}
use Rattle.bits.proofs.Reading.{rest_is}
use Rattle.scan.specs.Pictures.{next_picture}
use Rattle.scan.proofs.Pictures.{picture-step}
use Rattle.pictures.proofs.Seeing.{next_long, next-done, next-unread, next-shown}
use Rattle.pictures.proofs.seen.next_seen.Goals as goal
use Rattle.pictures.proofs.seen.next_seen.Goals.{In-Some}

-- the picture found
found : (c : In-Some) → next_picture c.args.stream.now c.args.from ≡ Some c.in-Some.span
found c = sym c.next_picture.ensures ∙ c.in-Some.is

pub returns-then-stream : goal.returns-then-stream
returns-then-stream c = next_long _ _ _ (omega arith)

pub slice_bounds-shown_at-start : goal.slice_bounds-shown_at-start
slice_bounds-shown_at-start c = omega (arith, picture-step _ _ _ _ _ (found c))

pub slice_bounds-shown_at-count : goal.slice_bounds-shown_at-count
slice_bounds-shown_at-count c = omega (arith, picture-step _ _ _ _ _ (found c))

pub seen_picture-seen-requires-clause-at_bound : goal.seen_picture-seen-requires-clause-at_bound
seen_picture-seen-requires-clause-at_bound c =
    omega (arith, picture-step _ _ _ _ _ (found (goal.at.seen_picture-seen-requires-clause-at_bound c).In-Some))

pub seen_picture-seen-requires-clause-end_bound : goal.seen_picture-seen-requires-clause-end_bound
seen_picture-seen-requires-clause-end_bound c =
    omega (arith, picture-step _ _ _ _ _ (found (goal.at.seen_picture-seen-requires-clause-end_bound c).In-Some))

pub returns-in_default : goal.returns-in_default
returns-in_default c = next-done _ _ _ (omega arith) (sym c.next_picture.ensures ∙ c.in_default.is)

pub returns-in_err-vbv_delay : goal.returns-in_err-vbv_delay
returns-in_err-vbv_delay c =
    let p = err_from_is_err_and c.from_residual.result c.from_residual.ensures.1 in
    rw (p.1, p.2)
    (next-unread _ _ _ (omega arith) _ (found (goal.at.returns-in_err-vbv_delay c).In-Some) _
    (rw (← rest_is _ _) c.in_err-vbv_delay.ensures))

pub returns : goal.returns
returns c =
    rw c.seen_picture-seen.ensures
    (next-shown _ _ _ (omega arith) _ (found (goal.at.returns c).In-Some) _ _ (rw (← rest_is _ _) c.in_ok-vbv_delay.ensures))
