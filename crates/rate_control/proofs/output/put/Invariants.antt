use mathlib.Core.Path.{◌≡◌}
use lib.Seq.{sets}
use Prim.Native.Nat.{◌+◌}
use lib.ListN.{length, drop}
use Rattle.rate_control.proofs.output.put.Given as goal

abbrev pub invariant-loop-k : goal.invariant-loop-k
invariant-loop-k l = (sets l.out (l.at + l.k) (drop l.k l.bytes) ≡ sets l.initial.out l.at l.bytes) × (length l.out ≡ length l.initial.out)
