use mathlib.Core.Path.{◌≡◌}
use Rattle.scan.specs.Steps.{zero_one}
use Rattle.scan.proofs.has_zero_one.Given as goal

-- `some` tells of the first k places
abbrev pub invariant-loop-k : goal.invariant-loop-k
invariant-loop-k l = l.some ≡ zero_one l.s l.at l.k
