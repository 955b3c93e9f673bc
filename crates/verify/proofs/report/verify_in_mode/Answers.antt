use mathlib.Core.Path.{refl, ◌∙◌}
use native.Mathlib.Omega.{arith}
use Prim.Native.Nat.{◌/◌, ◌<◌}
use lib.ListN.{length}
use Rattle.verify.specs.Check.{verdict, records}
use Rattle.bits.proofs.Over.{over_none}
use Rattle.verify.specs.Layout.{record_size, record_bytes, records_bytes}
use Rattle.verify.proofs.Bounds.{picture-count}
use Rattle.verify.proofs.Exits.{told_err}
use Rattle.verify.proofs.Recording.{answered, unanswered, begins_to, places_suffice, none_recorded}
use Rattle.verify.proofs.Storing.{no_records, length-records, length_record, bytes-more, stored_none, stored_more, never_none, all_stored}
use Rattle.verify.proofs.report.verify_in_mode.Goals as goal
use Rattle.verify.proofs.report.verify_in_mode.Goals.{in-Some, in_default}

pub returns-in_err-report-clause-result_value : goal.returns-in_err-report-clause-result_value
returns-in_err-report-clause-result_value c = told_err c.from_residual.result c.in_err-report.field-0.0 c.from_residual.ensures.1 ∙ unanswered _ _ _ c.in_err-report.ensures

pub returns-in_err-report-clause-records_after : goal.returns-in_err-report-clause-records_after
returns-in_err-report-clause-records_after c = rw (none_recorded _ (unanswered _ _ _ c.in_err-report.ensures), no_records, over_none c.args.records.now) refl

pub loop-i-init : goal.loop-i-init
loop-i-init c = stored_none records_bytes record_size (rw c.new-recorder.ensures (begins_to _ _ _ (answered _ _ _ c.in_ok-report.ensures).0 (answered _ _ _ c.in_ok-report.ensures).1))

pub overflow_mul-i : goal.overflow_mul-i
overflow_mul-i c = omega (arith, picture-count _ (answered _ _ _ c.in_ok-report.ensures).0, places_suffice _ _ _ (answered _ _ _ c.in_ok-report.ensures).0)

pub put_record-requires : goal.put_record-requires
put_record-requires c = omega (arith, picture-count _ (answered _ _ _ c.in_ok-report.ensures).0, places_suffice _ _ _ (answered _ _ _ c.in_ok-report.ensures).0, c.loop-i.invariant.as_long)

pub loop-i-preserved : goal.loop-i-preserved
loop-i-preserved c =
    let l : c.loop-i.i < length (records (verdict c.args.mode c.args.stream.now (length c.args.records.now / record_size))) = omega (arith, picture-count _ (answered _ _ _ c.in_ok-report.ensures).0) in
    elim c.match-next_record.branch [
      | in-Some w ↦ stored_more record_bytes records_bytes record_size bytes-more length_record c.loop-i.invariant l c.next_record.ensures w.in-Some.is (w.records-is ∙ w.put_record.ensures)
      | in_default w ↦ absurd (never_none record_bytes records_bytes record_size bytes-more length_record c.loop-i.invariant l c.next_record.ensures w.in_default.is)
    ]

pub returns-clause-records_after : goal.returns-clause-records_after
returns-clause-records_after c =
    all_stored no_records (omega (arith, length-records (records (verdict c.args.mode c.args.stream.now (length c.args.records.now / record_size))), places_suffice _ _ _ (answered _ _ _ c.in_ok-report.ensures).0)) c.loop-i.invariant (omega (arith, picture-count _ (answered _ _ _ c.in_ok-report.ensures).0))

pub returns-clause-result_value : goal.returns-clause-result_value
returns-clause-result_value c = (answered _ _ _ c.in_ok-report.ensures).0
