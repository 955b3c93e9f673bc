use Rattle.std.proofs.Common.{◌∙◌, sym, take, arith}
use Rattle.vbvcheck.proofs.Lines.{lines_step, lines_end}
use Rattle.vbvcheck.proofs.text.put_records.Goals as goal

pub loop-k-preserved : goal.loop-k-preserved
loop-k-preserved c =
    let l = c.loop-k in
    let a = c.args in record {
      written = lines_step a.n l.k a.records.now (take l.next l.out) (omega arith) c.put_record-next.ensures.out_after ∙ l.invariant.written;
      room = omega (arith, c.put_record-next.ensures.upper_bound);
      few = omega arith;
    }

pub returns : goal.returns
returns c =
    let l = c.loop-k in
    let a = c.args in record {
      upper_bound = omega (arith, l.invariant.room, l.invariant.few);
      out_after = sym (lines_end a.n l.k a.records.now (take l.next l.out) (omega arith)) ∙ l.invariant.written;
    }
