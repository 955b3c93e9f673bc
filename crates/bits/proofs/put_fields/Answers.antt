use borrow.Author.Rules.{rules}
use mathlib.Core.Path.{refl}
use Rattle.bits.proofs.Checking.{fits-of}
use Rattle.bits.proofs.Putting.{putting_none, putting_end, putting_more}
use Rattle.bits.proofs.put_fields.Goals as goal

pub loop-k-init : goal.loop-k-init
loop-k-init c = putting_none (fits-of _ _ c.requires.values_value) c.requires.table_bound (search rules)

pub loop-k-preserved : goal.loop-k-preserved
loop-k-preserved c = putting_more c.loop-k.invariant c.loop-k-test.true c.from-w.ensures refl c.append_bits.ensures.out_after

pub returns : goal.returns
returns c = putting_end c.loop-k.invariant c.loop-k-test.false
