use Prim.Native.Nat.{◌-◌}
use lib.ListN.{length}
use Rattle.scan.proofs.Scans.{Looking}
use Rattle.searches.proofs.looked_by_places.Given as goal

-- so many places were looked at, and the next scan begins there
abbrev pub invariant-loop-code : goal.invariant-loop-code
invariant-loop-code l = Looking l.s l.from l.looked

abbrev pub decreases-loop-code : goal.decreases-loop-code
decreases-loop-code l = length l.s - l.from
