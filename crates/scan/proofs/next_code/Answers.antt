use mathlib.Core.Path.{sym, ◌∙◌}
use Prim.Native.Nat.{◌+◌}
use native.Mathlib.Omega.{arith}
use lib.ListN.{length-take}
use lib.Seq.{length-take-le}
use Rattle.scan.proofs.NextCode.{next-short}
use Rattle.scan.proofs.Blocks.{found_inside, none_inside}
use Rattle.scan.proofs.Scans.{found_by}
use Rattle.scan.proofs.next_code.Goals as goal

-- The loop's invariant: the next code from `at` on is the next code from `from` on.

pub returns-then-n-lt4 : goal.returns-then-n-lt4
returns-then-n-lt4 c = next-short _ _ (omega arith)

pub returns-then-whole-at : goal.returns-then-whole-at
returns-then-whole-at c =
    found_by _ _ c.scan_places.ensures ∙ c.next_block-at.ensures.0 ∙ c.loop-at.invariant

pub slice_bounds-scan_places-end : goal.slice_bounds-scan_places-end
slice_bounds-scan_places-end c = sym (length-take-le _ _ (omega arith))

pub scan_places-inside-requires : goal.scan_places-inside-requires
scan_places-inside-requires c = omega (arith, length-take (c.next_block-at.result + 19) c.args.s.now)

pub returns-in-Some : goal.returns-in-Some
returns-in-Some c =
    found_inside _ _ 16 _ (sym (found_by _ _ c.scan_places-inside.ensures) ∙ c.in-Some.is)
    ∙ c.next_block-at.ensures.0
    ∙ c.loop-at.invariant

pub loop-at-preserved : goal.loop-at-preserved
loop-at-preserved c =
    none_inside _ _ 16 (sym (found_by _ _ c.scan_places-inside.ensures) ∙ c.in_default.is)
    ∙ c.next_block-at.ensures.0
    ∙ c.loop-at.invariant
