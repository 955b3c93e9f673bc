use Rattle.verify.proofs.Walking.{record-taken, none-taken, none-read}
use Rattle.verify.proofs.recorder.VbvRecorder.next_record.Goals as goal

pub returns-in_default : goal.returns-in_default
returns-in_default c = none-read _ _ c.step.ensures.recorder_after c.in_default.ensures.result_value

pub returns-then-more : goal.returns-then-more
returns-then-more c = rw c.last_of.ensures (record-taken _ _ c.step.ensures.recorder_after (rw c.if-more.true at c.in-Ok.ensures.result_value))

pub returns-else-more : goal.returns-else-more
returns-else-more c = none-taken _ _ c.step.ensures.recorder_after (rw c.if-more.false at c.in-Ok.ensures.result_value)
