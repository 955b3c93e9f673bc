-- The pictures of a stream as the model sees them lie one after another, within it.
-- Assumes nothing.
use mathlib.Core.Path.{◌≡◌, refl, ap}
use Prim.Native.Nat.{ℕ, suc}
use mathlib.Core.List.{List, [], ◌∷◌}
use lib.ListN.{length}
use Rattle.cadence.specs.Cadence.{interval, after}
use Rattle.cadence.specs.declared.VbvCadence.{VbvCadence}
use Rattle.pictures.specs.Order as seen
use Rattle.pictures.specs.Order.{Placed}
use Rattle.pictures.specs.declared.SeenPicture.{SeenPicture}
use Rattle.verify.specs.Coded.{coded_of, timed}
use Rattle.verify.specs.declared.CodedPicture.{CodedPicture}

pub data Rising : ℕ → List CodedPicture → Type 0 where
  last : {previous : ℕ} → Rising previous []
  next : {previous : ℕ} {c : CodedPicture} {cs : List CodedPicture} → Placed previous c.pos_bits c.end_bits c.vbv_delay → Rising c.end_bits cs
      → Rising previous (c ∷ cs)

pub timed_rising : (k : VbvCadence) {previous : ℕ} {xs : List SeenPicture} → seen.Rising previous xs → Rising previous (timed k xs)
unfolding timed
timed_rising k seen.last = last
timed_rising k (seen.next {x = x} q t) = next {c = coded_of (interval k x.facts) x} q (timed_rising (after k x.facts) t)

pub timed-none : (k : VbvCadence) → timed k [] ≡ []
unfolding timed
timed-none k = refl

pub timed-first : (k : VbvCadence) (x : SeenPicture) (xs : List SeenPicture) → timed k (x ∷ xs) ≡ coded_of (interval k x.facts) x ∷ timed (after k x.facts) xs
unfolding timed
timed-first k x xs = refl

pub timed-length : (k : VbvCadence) (xs : List SeenPicture) → length (timed k xs) ≡ length xs
unfolding timed
timed-length k [] = refl
timed-length k (x ∷ xs) = ap suc (timed-length (after k x.facts) xs)
