use native.Mathlib.Nat.{add-zero}
use mathlib.Core.Path.{refl, sym, ◌∙◌}
use native.Mathlib.Omega.{arith}
use lib.ListN.{length-set}
use Rattle.rate_control.proofs.Storage.{put_step, put_done}
use Rattle.rate_control.proofs.output.put.Goals as goal

pub loop-k-init : goal.loop-k-init
loop-k-init c = (rw (add-zero), refl)

pub loop-k-preserved : goal.loop-k-preserved
loop-k-preserved c = (put_step _ c.args.bytes.now c.args.at c.loop-k.k (omega arith) ∙ c.loop-k.invariant.0, simp length-set c.loop-k.invariant.1)

pub returns : goal.returns
returns c = sym (put_done _ c.args.bytes.now _ c.loop-k.k (omega arith)) ∙ c.loop-k.invariant.0
