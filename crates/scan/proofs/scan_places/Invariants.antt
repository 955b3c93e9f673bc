use mathlib.Core.Bool.{false}
use mathlib.Core.Path.{◌≡◌}
use Prim.Native.Nat.{◌+◌, ◌-◌, ◌≤◌}
use lib.ListN.{length}
use Rattle.scan.specs.Codes.{next_code}
use Rattle.scan.proofs.Looked.{looked_from}
use Rattle.scan.proofs.scan_places.Given as goal

-- `looked` places were looked at, and what is left to find and to count is what a scan from i has
abbrev pub invariant-loop-i : goal.invariant-loop-i
invariant-loop-i l = record {
  code : next_code l.s l.i ≡ next_code l.s l.from;
  count : l.looked + looked_from false l.s l.i ≡ looked_from false l.s l.from;
  few : l.looked ≤ l.i;
}

abbrev pub decreases-loop-i : goal.decreases-loop-i
decreases-loop-i l = length l.s - l.i
