-- The delays that the rate asks: 5 at a constant one, 25 at a variable one, as one test; and what it says of the pictures, both ways.
-- Assumes nothing.
use mathlib.Core.Path.{◌≡◌, refl}
use mathlib.Core.Bool.{Bool, true, false, not, ◌&&◌, true≢false}
use mathlib.Core.List.{List, [], ◌∷◌}
use Prim.Native.Nat.{ℕ}
use lib.Dec.{eqb}
use borrow.Author.Tests.{eqb-true, eqb-false, ne_eqb, not-false}
use Rattle.bits.specs.Refusals.{refuse}
use Rattle.bits.proofs.Flags.{both_true}
use Rattle.vbv.specs.declared.VbvParams.{VbvParams}
use Rattle.cadence.specs.Cadence.{after}
use Rattle.cadence.specs.declared.VbvCadence.{VbvCadence}
use Rattle.pictures.specs.declared.SeenPicture.{SeenPicture}
use Rattle.verify.specs.Coded.{timed}
use Rattle.verify.specs.Check.{modelled, all_variable, with_pictures}
use Rattle.verify.specs.Accepted.{DelaysFit}
use Rattle.verify.specs.Due.{OtherDelay, here, later}
use Rattle.verify.specs.declared.CodedPicture.{CodedPicture}

abbrev pub rate_number : Bool → ℕ
rate_number true = 25
rate_number false = 5

abbrev pub other_rate : Bool → SeenPicture → List CodedPicture → Bool
other_rate true x cs = not (all_variable cs)
other_rate false x cs = eqb x.vbv_delay 0xFFFF

pub pictures_are : (v : Bool) (places : ℕ) (p : VbvParams) (x : SeenPicture) (cs : List CodedPicture)
    → with_pictures v places p x cs ≡ refuse (rate_number v) (other_rate v x cs) (modelled v places p x cs)
unfolding with_pictures
pictures_are true places p x cs = refl
pictures_are false places p x cs = refl

-- ---- every delay is 0xFFFF

all_fit : (k : VbvCadence) (xs : List SeenPicture) → DelaysFit true xs → all_variable (timed k xs) ≡ true
unfolding all_variable timed
all_fit k [] h = refl
all_fit k (x ∷ xs) h = let e = h.0 in rw (e, all_fit (after k x.facts) xs h.1) refl

fit_all : (k : VbvCadence) (xs : List SeenPicture) → all_variable (timed k xs) ≡ true → DelaysFit true xs
unfolding all_variable timed
fit_all k [] h = tt
fit_all k (x ∷ xs) h =
    let a = both_true (eqb x.vbv_delay 0xFFFF) (all_variable (timed (after k x.facts) xs)) h in
    (eqb-true x.vbv_delay 0xFFFF a.0, fit_all (after k x.facts) xs a.1)

-- or one is not
pub other_delay : (k : VbvCadence) (xs : List SeenPicture) → all_variable (timed k xs) ≡ false → OtherDelay xs
unfolding all_variable timed
other_delay k [] h = absurd (true≢false h)
other_delay k (x ∷ xs) h = go (eqb x.vbv_delay 0xFFFF) refl h (other_delay (after k x.facts) xs)
  where
    go : (b : Bool) → eqb x.vbv_delay 0xFFFF ≡ b → b && all_variable (timed (after k x.facts) xs) ≡ false
        → (all_variable (timed (after k x.facts) xs) ≡ false → OtherDelay xs) → OtherDelay (x ∷ xs)
    go true e h ih = later (ih h)
    go false e h ih = here (eqb-false x.vbv_delay 0xFFFF e)

-- ---- at either rate

module _ (k : VbvCadence) (x : SeenPicture) (xs : List SeenPicture) where
  pub fit_delays : (v : Bool) → DelaysFit v (x ∷ xs) → other_rate v x (timed k (x ∷ xs)) ≡ false
  fit_delays true h = rw (all_fit k (x ∷ xs) h) refl
  fit_delays false h = ne_eqb x.vbv_delay 0xFFFF h

  pub delays_fit : (v : Bool) → other_rate v x (timed k (x ∷ xs)) ≡ false → DelaysFit v (x ∷ xs)
  delays_fit true h = fit_all k (x ∷ xs) (not-false _ h)
  delays_fit false h = eqb-false x.vbv_delay 0xFFFF h
