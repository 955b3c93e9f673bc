use Rattle.std.proofs.Common.{◌∙◌, arith}
use Rattle.vbvcheck.proofs.Printed.{too_long, pictures_fit, printed-refused, printed_report}
use Rattle.vbvcheck.proofs.text.put_printed.Goals as goal

pub returns-then-stream-gt-LONGEST-clause-out_after :
    goal.returns-then-stream-gt-LONGEST-clause-out_after
returns-then-stream-gt-LONGEST-clause-out_after c = c.put.ensures.out_after ∙ too_long _ (omega arith)

pub put_accepted-requires-clause-pictures_in_bounds :
    goal.put_accepted-requires-clause-pictures_in_bounds
put_accepted-requires-clause-pictures_in_bounds c = pictures_fit _ _ _ _ c.in-Ok.ensures.result_value c.in-Ok.ensures.records_after

pub put_accepted-requires-clause-pictures_bound : goal.put_accepted-requires-clause-pictures_bound
put_accepted-requires-clause-pictures_bound c = omega (arith, pictures_fit _ _ _ _ c.in-Ok.ensures.result_value c.in-Ok.ensures.records_after)

pub returns-in-Err-clause-out_after : goal.returns-in-Err-clause-out_after
returns-in-Err-clause-out_after c =
    let q = printed-refused c.args.stream.now _ (omega arith) (omega arith) _ c.in-Err.ensures.result_value in
    c.put_refusal.ensures.out_after ∙ rw c.refusal.ensures q

pub returns-in-Ok-clause-out_after : goal.returns-in-Ok-clause-out_after
returns-in-Ok-clause-out_after c =
    c.put_accepted.ensures.out_after ∙ printed_report c.args.stream.now _ (omega arith) (omega arith) _ _ _ c.in-Ok.ensures.result_value c.in-Ok.ensures.records_after
