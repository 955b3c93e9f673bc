use Rattle.hipokuta.proofs.Checking.{not_asked, in_mode}
use Rattle.hipokuta.proofs.check.vbv_check.Goals as goal

pub returns-in-Ok : goal.returns-in-Ok
returns-in-Ok c =
    let t = in_mode c.args.stream.now c.args.mode c.args.report.now c.args.records.now c.args.refusal.now c.asked.ensures c.in-Ok.is
    (c.answer.ensures.value, (c.answer.ensures.report_after, c.answer.ensures.refusal_after))
    c.verify_in_mode.ensures.result_value c.verify_in_mode.ensures.records_after in
    record { value = t.0; report_after = t.1.0; records_after = t.1.1.0; refusal_after = t.1.1.1 }

pub returns-in-Err : goal.returns-in-Err
returns-in-Err c =
    let t = not_asked c.args.stream.now c.args.mode c.args.report.now c.args.records.now c.args.refusal.now c.asked.ensures _ c.in-Err.is
    c.refuse.ensures.value c.refuse.ensures.place_after in
    record { value = t.0; report_after = t.1.0; records_after = t.1.1.0; refusal_after = t.1.1.1 }
