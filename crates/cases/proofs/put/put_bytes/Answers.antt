use Rattle.std.proofs.Common.{arith}
use Rattle.cases.proofs.Putting.{put_none, put_more, put_all}
use Rattle.cases.proofs.put.put_bytes.Goals as goal

pub loop-b-init : goal.loop-b-init
loop-b-init c = put_none _ _ _

pub loop-b-preserved : goal.loop-b-preserved
loop-b-preserved c = put_more c.loop-b.invariant (omega arith) c.put-next.ensures.out_after c.put-next.ensures.value

pub returns : goal.returns
returns c = put_all c.loop-b.invariant (omega arith)
