use Rattle.std.proofs.Common.{ℕ, Bool, ◌≡◌, ◌-◌, length}
use Rattle.scan.specs.Codes.{codes_at, found}
use Rattle.scan.specs.Pictures.{skip, Decides}
use Rattle.scan.proofs.first_code_not.Given as goal

-- a search from i finds what a search from `from` finds
abbrev pub invariant-loop-passes : goal.invariant-loop-passes
invariant-loop-passes g l =
    (p : ℕ → Bool) → Decides (goal.F-post g l.passes) p → found (skip p (codes_at l.s l.i)) ≡ found (skip p (codes_at l.s l.from))

abbrev pub decreases-loop-passes : goal.decreases-loop-passes
decreases-loop-passes g l = length l.s - l.i
