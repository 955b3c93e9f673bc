use Prim.Native.Nat.{◌-◌}
use lib.ListN.{length}
use Rattle.searches.proofs.Counting.{Counting}
use Rattle.searches.proofs.codes_by_blocks.Given as goal

-- so many codes were found, and the next search begins there
abbrev pub invariant-loop-code : goal.invariant-loop-code
invariant-loop-code l = Counting l.s l.from l.count

abbrev pub decreases-loop-code : goal.decreases-loop-code
decreases-loop-code l = length l.s - l.from
