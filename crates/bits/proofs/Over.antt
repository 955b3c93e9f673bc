-- New ones over the first of the old ones.
-- Assumes nothing.
use mathlib.Core.Path.{◌≡◌, refl, ◌∙◌}
use mathlib.Core.List.{List, [], ◌∷◌, ◌++◌}
use Prim.Native.Nat.{ℕ, suc, ◌+◌, ◌≤◌}
use native.Mathlib.Omega.{arith}
use native.Mathlib.Nat.{add-zero, add-suc, suc-add}
use lib.ListN.{length, take, drop, set, length-append, length-drop}
use lib.Seq.{sets, sets-eq, take-append_seam, drop-append_seam}
use Rattle.bits.specs.Answers.{over}

module _ {X : Type 0} (new old : List X) where
  pub over_is : over new old ≡ new ++ drop (length new) old
  unfolding over
  over_is = refl

  pub over-take : take (length new) (over new old) ≡ new
  over-take = rw over_is (take-append_seam new (drop (length new) old))

  pub over-drop : drop (length new) (over new old) ≡ drop (length new) old
  over-drop = rw over_is (drop-append_seam new (drop (length new) old))

  pub over-length : length new ≤ length old → length (over new old) ≡ length old
  over-length h = rw (over_is, length-append new (drop (length new) old), length-drop (length new) old) (omega arith)

  -- stored one after another from the first place on
  pub over_sets : length new ≤ length old → sets old 0 new ≡ over new old
  over_sets h =
      let l : 0 + length new ≤ length old = omega arith in
      let e : 0 + length new ≡ length new = omega arith in
      rw over_is (sets-eq new old 0 l ∙ rw e)

pub over_none : {X : Type 0} (old : List X) → over [] old ≡ old
unfolding over
over_none old = refl

-- stored one run after another
pub sets_append : {X : Type 0} (x y out : List X) (k : ℕ) → sets out k (x ++ y) ≡ sets (sets out k x) (k + length x) y
sets_append [] y out k = rw (add-zero k)
sets_append (b ∷ x) y out k = rw (add-suc k (length x), ← suc-add k (length x)) (sets_append x y (set out k b) (suc k))
