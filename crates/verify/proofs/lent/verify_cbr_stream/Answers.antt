use mathlib.Core.Path.{◌≡◌, refl, ◌∙◌}
use native.Mathlib.Omega.{arith}
use Prim.Native.Nat.{◌*◌, ◌<◌}
use lib.ListN.{length, length-take}
use mathlib.Core.List.{[], ◌∷◌}
use Rattle.bits.proofs.Over.{over_none}
use Rattle.verify.specs.Check.{verdict, records}
use Rattle.verify.specs.Mode.{plain}
use Rattle.verify.proofs.Bounds.{picture-count}
use Rattle.verify.proofs.Exits.{told_err}
use Rattle.verify.proofs.Recording.{answered, unanswered, begins_to, places_suffice, none_recorded}
use Rattle.verify.proofs.Storing.{stored_none, stored_more, never_none, all_stored, over-front}
use Rattle.verify.proofs.lent.verify_cbr_stream.Goals as goal
use Rattle.verify.proofs.lent.verify_cbr_stream.Goals.{in-Some, in_default}

pub returns-in_err-report-clause-result_value : goal.returns-in_err-report-clause-result_value
returns-in_err-report-clause-result_value c =
    told_err c.from_residual.result c.in_err-report.field-0.0 c.from_residual.ensures.1 ∙ unanswered _ _ _ (rw c.plain-mode.ensures at c.in_err-report.ensures)

pub returns-in_err-report-clause-records_after : goal.returns-in_err-report-clause-records_after
returns-in_err-report-clause-records_after c = rw (none_recorded _ (unanswered _ _ _ (rw c.plain-mode.ensures at c.in_err-report.ensures)), over_none c.args.records.now) refl

pub slice_bounds-place-items-end : goal.slice_bounds-place-items-end
slice_bounds-place-items-end c = omega (arith, picture-count _ (answered _ _ _ (rw c.plain-mode.ensures at c.in_ok-report.ensures)).0, places_suffice _ _ _ (answered _ _ _ (rw c.plain-mode.ensures at c.in_ok-report.ensures)).0)

pub slice_bounds-place-items-end-2 : goal.slice_bounds-place-items-end-2
slice_bounds-place-items-end-2 c = omega (arith, picture-count _ (answered _ _ _ (rw c.plain-mode.ensures at c.in_ok-report.ensures)).0, places_suffice _ _ _ (answered _ _ _ (rw c.plain-mode.ensures at c.in_ok-report.ensures)).0, length-take c.in_ok-report.report.pictures c.args.records.now)

pub loop-place-init : goal.loop-place-init
loop-place-init c = stored_none (λ rs. rs) 1 (rw (c.new-recorder.ensures, c.plain-mode.ensures) (begins_to _ _ _ (answered _ _ _ (rw c.plain-mode.ensures at c.in_ok-report.ensures)).0 (answered _ _ _ (rw c.plain-mode.ensures at c.in_ok-report.ensures)).1))

pub loop-place-preserved : goal.loop-place-preserved
loop-place-preserved c =
    let n = picture-count _ (answered _ _ _ (rw c.plain-mode.ensures at c.in_ok-report.ensures)).0 in
    let l : c.loop-place.place-index < length (records (verdict (plain c.args.standard) c.args.stream.now (length c.args.records.now)))
    = omega (arith, n, length-take c.in_ok-report.report.pictures c.args.records.now) in
    let o : 1 * c.loop-place.place-index ≡ c.loop-place.place-index = omega arith in
    elim c.match-next_record.branch [
      | in-Some w ↦ stored_more (λ r. r ∷ []) (λ rs. rs) 1 (λ r rs. refl) (λ r. refl) c.loop-place.invariant l c.next_record.ensures w.in-Some.is (rw o w.place-items-is)
      | in_default w ↦ absurd (never_none (λ r. r ∷ []) (λ rs. rs) 1 (λ r rs. refl) (λ r. refl) c.loop-place.invariant l c.next_record.ensures w.in_default.is)
    ]

pub returns-clause-records_after : goal.returns-clause-records_after
returns-clause-records_after c =
    let n = picture-count _ (answered _ _ _ (rw c.plain-mode.ensures at c.in_ok-report.ensures)).0 in
    let p = places_suffice _ _ _ (answered _ _ _ (rw c.plain-mode.ensures at c.in_ok-report.ensures)).0 in
    let k = length-take c.in_ok-report.report.pictures c.args.records.now in
    over-front (records (verdict (plain c.args.standard) c.args.stream.now (length c.args.records.now))) c.args.records.now c.in_ok-report.report.pictures n (omega (arith, n, p))
    (all_stored {lay = λ rs. rs} refl (omega (arith, n, p, k)) c.loop-place.invariant (omega (arith, n, p, k)))

pub returns-clause-result_value : goal.returns-clause-result_value
returns-clause-result_value c = (answered _ _ _ (rw c.plain-mode.ensures at c.in_ok-report.ensures)).0
