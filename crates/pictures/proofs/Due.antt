-- The front's answer is the one that is due.
-- Assumes nothing.
use mathlib.Core.Path.{◌≡◌, refl, ◌∙◌}
use mathlib.Core.Bool.{Bool, true, false}
use lib.Dec.{ltb}
use mathlib.Core.List.{List, [], ◌∷◌}
use Prim.Native.Nat.{ℕ, ◌*◌, ◌≤◌}
use lib.ListN.{length}
use borrow.Author.Tests.{ltb-true, ltb-false, le-ltb}
use Rattle.vbv.specs.Model.{farthest}
use Rattle.bits.specs.Bits.{pick}
use Rattle.bits.specs.Refusals.{Answer, value, refused, refuse, and_then}
use Rattle.bits.proofs.Flags.{was_no}
use Rattle.bits.proofs.Following.{refused-value}
use Rattle.vbv.specs.declared.VbvParams.{VbvParams}
use Rattle.pictures.specs.Sequence.{declared}
use Rattle.pictures.specs.Seen.{seen_pictures}
use Rattle.pictures.specs.Front.{with_first, opening, front}
use Rattle.pictures.specs.Due as due
use Rattle.pictures.specs.Due.{Read, FrontDue, FrontIsDue}
use Rattle.pictures.specs.declared.VbvStandard.{VbvStandard}
use Rattle.pictures.specs.declared.SeenPicture.{SeenPicture}

module _ (standard : VbvStandard) (s : List ℕ) where
  with_pictures_lem : (p : VbvParams) → 8 * length s ≤ farthest → declared standard s ≡ value p → (a : Answer (List SeenPicture)) → seen_pictures standard s ≡ a
      → FrontDue standard s (and_then a (λ xs. with_first p xs))
  unfolding with_first
  with_pictures_lem p l e (refused n k i j) h = due.bad_picture l e h
  with_pictures_lem p l e (value []) h = due.no_picture l e h
  with_pictures_lem p l e (value (x ∷ xs)) h = due.all_read (record { short = l; declares = e; pictures_are = h })

  with-declared : 8 * length s ≤ farthest → (a : Answer VbvParams) → declared standard s ≡ a
      → FrontDue standard s (and_then a (λ p. and_then (seen_pictures standard s) (λ xs. with_first p xs)))
  with-declared l (refused n k i j) e = due.undeclared l e
  with-declared l (value p) e = with_pictures_lem p l e (seen_pictures standard s) refl

pub front_due : FrontIsDue
unfolding front opening pick
front_due standard s = go (ltb farthest (8 * length s)) refl
  where
    go : (t : Bool) → ltb farthest (8 * length s) ≡ t
        → FrontDue standard s (and_then (refuse 14 t (declared standard s)) (λ p. and_then (seen_pictures standard s) (λ xs. with_first p xs)))
    go true e = due.too_far (ltb-true _ _ e)
    go false e = with-declared standard s (ltb-false _ _ e) (declared standard s) refl

-- ---- what stands before the pictures

module _ (standard : VbvStandard) (s : List ℕ) where
  pub opening-short : 8 * length s ≤ farthest → opening standard s ≡ declared standard s
  unfolding opening pick
  opening-short h = rw (le-ltb farthest (8 * length s) h)

  -- what was opened is short
  pub opening-opened : {p : VbvParams} → opening standard s ≡ value p → 8 * length s ≤ farthest
  unfolding opening
  opening-opened h = ltb-false _ _ (was_no _ _ _ refused-value h).0

  -- the front is the opening, the pictures, and the first of them
  pub front_is : front standard s ≡ and_then (opening standard s) (λ p. and_then (seen_pictures standard s) (λ xs. with_first p xs))
  unfolding front
  front_is = refl

  -- ---- by what the opening has answered

  pub front-opened : {p : VbvParams} → opening standard s ≡ value p → front standard s ≡ and_then (seen_pictures standard s) (λ xs. with_first p xs)
  unfolding front
  front-opened e = rw e

-- and back
pub front_read : {standard : VbvStandard} {s : List ℕ} {p : VbvParams} {x : SeenPicture} {xs : List SeenPicture} → Read standard s p x xs
    → front standard s ≡ value (record { params = p; first = x; others = xs })
unfolding with_first
front_read {standard} {s} r = rw (front-opened standard s (opening-short standard s r.short ∙ r.declares), r.pictures_are)

pub first-none : (p : VbvParams) → with_first p [] ≡ refused 4 0 0 0
unfolding with_first
first-none p = refl

pub first_some : (p : VbvParams) (x : SeenPicture) (xs : List SeenPicture) → with_first p (x ∷ xs) ≡ value (record { params = p; first = x; others = xs })
unfolding with_first
first_some p x xs = refl
