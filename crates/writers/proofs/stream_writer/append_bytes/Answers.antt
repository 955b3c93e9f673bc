use borrow.Author.Rules.{rules}
use mathlib.Core.Path.{◌≡◌, ◌∙◌}
use native.Mathlib.Omega.{arith}
use Rattle.bits.proofs.Laying.{laid_none, laid_more, laid_all}
use Rattle.writers.proofs.stream_writer.append_bytes.Goals as goal

pub loop-k-init : goal.loop-k-init
loop-k-init c = laid_none _ _ _

pub loop-k-preserved : goal.loop-k-preserved
loop-k-preserved c = laid_more _ _ _ _ c.loop-k.invariant (rw c.from.ensures at c.append_bits.ensures.out_after)

pub returns : goal.returns
returns c =
    let k : c.loop-k.k ≡ 64 = omega arith in
    c.loop-k.invariant ∙ rw k (laid_all _ _ _ 63 (search rules) (omega arith))
