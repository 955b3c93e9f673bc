-- What stands, and the line of the numbers that are left, is the whole line.
use Rattle.std.proofs.Common.{◌≡◌, ◌+◌, ◌*◌, ◌-◌, ◌≤◌, ◌++◌, length, take, drop}
use Rattle.vbvcheck.specs.Text.{line}
use Rattle.vbvcheck.proofs.text.put_line.Given as goal

abbrev pub invariant-loop-k : goal.invariant-loop-k
invariant-loop-k l = record {
  written : take l.next l.out ++ line (drop l.k l.numbers) ≡ take l.at l.initial.out ++ line l.numbers;
  room : l.next ≤ l.at + 21 * l.k;
  few : l.k ≤ length l.numbers;
}

abbrev pub decreases-loop-k : goal.decreases-loop-k
decreases-loop-k l = length l.numbers - l.k
