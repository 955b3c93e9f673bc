use Rattle.std.proofs.Common.{◌≡◌, ◌∙◌, ◌+◌, sym, take, drop, arith}
use Rattle.vbvcheck.specs.Text.{ending}
use Rattle.vbvcheck.proofs.Texts.{line_step, line-end, ending_space, ending-line}
use Rattle.vbvcheck.proofs.text.put_line.Goals as goal
use Rattle.vbvcheck.proofs.text.put_line.Goals.{then-k-numbers, else-k-numbers}

pub loop-k-preserved : goal.loop-k-preserved
loop-k-preserved c =
    let l = c.loop-k in
    let a = c.args in
    let n = c.put_number-next.ensures in
    let e : c.if-k-numbers.end ≡ ending (drop (l.k + 1) a.numbers.now)
    = elim c.if-k-numbers.branch [
      | then-k-numbers w ↦ w.end-is ∙ sym (ending_space _ _ w.if-k-numbers.true)
      | else-k-numbers w ↦ w.end-is ∙ sym (ending-line _ _ w.if-k-numbers.false)
    ] in record {
      written = line_step a.numbers.now (take l.next l.out) l.k (omega arith) (n.out_after ∙ rw e) ∙ l.invariant.written;
      room = omega (arith, n.upper_bound);
      few = omega arith;
    }

pub returns : goal.returns
returns c =
    let l = c.loop-k in
    let a = c.args in record {
      upper_bound = omega (arith, l.invariant.room, l.invariant.few);
      out_after = sym (line-end a.numbers.now (take l.next l.out) l.k (omega arith)) ∙ l.invariant.written;
    }
