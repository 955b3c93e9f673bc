-- What stands, and the lines of the records that are left, are all the lines.
use Rattle.std.proofs.Common.{◌≡◌, ◌+◌, ◌*◌, ◌-◌, ◌≤◌, ◌++◌, take, drop}
use Rattle.verify.specs.Layout.{record_size}
use Rattle.vbvcheck.specs.Steps.{lines_of}
use Rattle.vbvcheck.proofs.text.put_records.Given as goal

abbrev pub invariant-loop-k : goal.invariant-loop-k
invariant-loop-k l = record {
  written : take l.next l.out ++ lines_of (l.n - l.k) (drop (record_size * l.k) l.records) ≡ take l.at l.initial.out ++ lines_of l.n l.records;
  room : l.next ≤ l.at + 105 * l.k;
  few : l.k ≤ l.n;
}

abbrev pub decreases-loop-k : goal.decreases-loop-k
decreases-loop-k l = l.n - l.k
