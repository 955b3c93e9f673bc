-- What a cadence keeps: film or not, always; outside film nothing else.
-- Assumes nothing.
use mathlib.Core.Path.{◌≡◌, refl}
use mathlib.Core.Bool.{Bool, true, false, not}
use borrow.Author.Tests.{not-true}
use Rattle.bits.proofs.Flags.{both_true}
use mathlib.Core.List.{List, [], ◌∷◌}
use Rattle.bits.specs.Bits.{pick}
use Rattle.picture_header.specs.declared.PictureFacts.{PictureFacts}
use Rattle.cadence.specs.Cadence.{opened, is_closed, cadence_fits, with, closed, after_field, after_frame, after}
use Rattle.cadence.specs.History.{cadence_after}
use Rattle.cadence.specs.declared.OpenField.{OpenField}
use Rattle.cadence.specs.declared.OpenField.TheVariants.{Closed, LedByAnchor, LedByOther}
use Rattle.cadence.specs.declared.VbvCadence.{VbvCadence}

pub opened-film : (film progressive low : Bool) → (opened film progressive low).film ≡ film
unfolding opened
opened-film film progressive low = refl

pub opened-plain : (progressive low : Bool) → opened false progressive low ≡ opened false false false
unfolding opened
opened-plain progressive low = refl

-- of a sequence in film both flags, and no picture's
pub opened_is : (progressive low : Bool)
    → opened true progressive low ≡ record { film = true; progressive = progressive; low_delay = low; repeat = false; top = false; waiting = Closed }
unfolding opened
opened_is progressive low = refl

pub opened-none : opened false false false ≡ record { film = false; progressive = false; low_delay = false; repeat = false; top = false; waiting = Closed }
unfolding opened
opened-none = refl

pub opened_itself : (progressive low : Bool) → opened true progressive low ≡ opened true (opened true progressive low).progressive (opened true progressive low).low_delay
unfolding opened
opened_itself progressive low = refl

pub opened_unflagged : (film progressive low : Bool) → (opened film progressive low).repeat ≡ false
unfolding opened
opened_unflagged film progressive low = refl

pub opened-fits : (film progressive low : Bool) → cadence_fits (opened film progressive low) ≡ true
unfolding cadence_fits opened is_closed pick
opened-fits true progressive low = refl
opened-fits false progressive low = refl

with-film : (k : VbvCadence) (r t : Bool) (o : OpenField) → (with k r t o).film ≡ k.film
unfolding with
with-film k r t o = refl

-- a choice of two that both keep it
either : (b : Bool) (j k : VbvCadence) {f : Bool} → j.film ≡ f → k.film ≡ f → (pick b j k).film ≡ f
unfolding pick
either true j k p q = p
either false j k p q = q

pub film_kept : (k : VbvCadence) (x : PictureFacts) → (after k x).film ≡ k.film
unfolding after after_field after_frame closed
film_kept k x =
    either k.film _ k
    (either x.field _ _
    (either (is_closed k.waiting) _ _ (with-film k _ _ _) (with-film k _ _ _))
    (either x.anchor _ _ (with-film k _ _ _) (with-film k _ _ _)))
    refl

pub unmoved : (k : VbvCadence) (x : PictureFacts) → k.film ≡ false → after k x ≡ k
unfolding after pick
unmoved k x e = rw e

-- no field is open
is_closed_lem : (o : OpenField) → is_closed o ≡ true → o ≡ Closed
unfolding is_closed
is_closed_lem Closed h = refl
is_closed_lem LedByAnchor h = cc
is_closed_lem LedByOther h = cc

film-fits : (k : VbvCadence) → k.film ≡ true → cadence_fits k ≡ true
unfolding cadence_fits pick
film-fits k e = rw e

pub after-fits : (k : VbvCadence) (x : PictureFacts) → cadence_fits k ≡ true → cadence_fits (after k x) ≡ true
after-fits k x h = go k.film refl
  where
    go : (m : Bool) → k.film ≡ m → cadence_fits (after k x) ≡ true
    go true e = film-fits (after k x) (rw (film_kept k x) e)
    go false e = rw (unmoved k x e) h

-- the cadence after pictures, one more
pub after_none : (progressive low : Bool) → cadence_after progressive low [] ≡ opened true progressive low
unfolding cadence_after
after_none progressive low = refl

pub after_more : (progressive low : Bool) (xs : List PictureFacts) (x : PictureFacts) → cadence_after progressive low (x ∷ xs) ≡ after (cadence_after progressive low xs) x
unfolding cadence_after
after_more progressive low xs x = refl

-- outside film there is one cadence that fits
pub plain_is : (k : VbvCadence) → k.film ≡ false → cadence_fits k ≡ true → k ≡ opened false false false
unfolding cadence_fits opened pick
plain_is k p h =
    let a = both_true (not k.progressive) _ (rw p at h) in
    let b = both_true (not k.low_delay) _ a.1 in
    let c = both_true (not k.repeat) _ b.1 in
    let d = both_true (not k.top) _ c.1 in
    rw (p, not-true k.progressive a.0, not-true k.low_delay b.0, not-true k.repeat c.0, not-true k.top d.0, is_closed_lem k.waiting d.1)
