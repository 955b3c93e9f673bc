-- Plain mode is as before, and film without flags is plain.
-- Assumes nothing.
use mathlib.Core.Path.{◌≡◌, refl, sym, ap, ◌∙◌}
use mathlib.Core.Bool.{Bool, true, false}
use mathlib.Core.List.{List, [], ◌∷◌}
use Prim.Native.Nat.{ℕ}
use Rattle.bits.specs.Refusals.{Answer, value, refused, and_then}
use Rattle.bits.proofs.Following.{same_value}
use Rattle.vbv.specs.Model.{interval_of}
use Rattle.cadence.specs.Cadence.{after}
use Rattle.cadence.specs.declared.VbvCadence.{VbvCadence}
use Rattle.cadence.proofs.Plain.{outside_film, without_flag}
use Rattle.cadence.proofs.Keeping.{film_kept}
use Rattle.pictures.specs.Cadence.{cadence_of}
use Rattle.pictures.specs.Front.{Front, front}
use Rattle.pictures.specs.Due as fr
use Rattle.pictures.specs.Due.{FrontDue}
use Rattle.pictures.specs.Seen.{seen_pictures}
use Rattle.pictures.specs.declared.VbvStandard.{VbvStandard}
use Rattle.pictures.specs.declared.VbvStandard.TheVariants.{Mpeg2}
use Rattle.pictures.specs.declared.SeenPicture.{SeenPicture}
use Rattle.pictures.proofs.Cadences.{of-film, unflagged}
use Rattle.pictures.proofs.Due.{front_due}
use Rattle.verify.specs.Mode.{plain, mpeg2}
use Rattle.verify.specs.Coded.{coded_of, timed}
use Rattle.verify.specs.Check.{Accepted, with_pictures, verdict_by, verdict}
use Rattle.verify.specs.Plain.{timed_by_structure, NoFlags, none, more, PlainMode}
use Rattle.verify.specs.declared.CodedPicture.{CodedPicture}
use Rattle.verify.proofs.Modes.{plain_fits, mpeg2-fits, verdict_in}

by_structure : (k : VbvCadence) → k.film ≡ false → (xs : List SeenPicture) → timed k xs ≡ timed_by_structure xs
unfolding timed timed_by_structure
by_structure k z [] = refl
by_structure k z (x ∷ xs) =
    rw (outside_film.as_before k x.facts z)
    (ap (λ (cs : List CodedPicture). coded_of (interval_of x.facts.field) x ∷ cs) (by_structure (after k x.facts) (rw (film_kept k x.facts) z) xs))

no_flags : (k : VbvCadence) → k.repeat ≡ false → (xs : List SeenPicture) → NoFlags xs → timed k xs ≡ timed_by_structure xs
unfolding timed timed_by_structure
no_flags k z [] none = refl
no_flags k z (x ∷ xs) (more f t) =
    rw (without_flag.the_same k x.facts z f)
    (ap (λ (cs : List CodedPicture). coded_of (interval_of x.facts.field) x ∷ cs) (no_flags (after k x.facts) (without_flag.stays k x.facts z f) xs t))

-- by a list of coded pictures in place of the cadence's
abbrev by_list : Bool → ℕ → (List SeenPicture → List CodedPicture) → Answer Front → Answer Accepted
by_list v places t a = and_then a (λ f. with_pictures v places f.params f.first (t (f.first ∷ f.others)))

alike : (v : Bool) (places : ℕ) (t u : List SeenPicture → List CodedPicture) (a : Answer Front) → ((f : Front) → a ≡ value f → t (f.first ∷ f.others) ≡ u (f.first ∷ f.others))
    → by_list v places t a ≡ by_list v places u a
alike v places t u (value f) h = rw (h f refl)
alike v places t u (refused n k c e) h = refl

outside : (standard : VbvStandard) (v : Bool) (s : List ℕ) (places : ℕ) → verdict_by standard v (cadence_of false s) s places ≡ by_list v places timed_by_structure (front standard s)
unfolding verdict_by
outside standard v s places =
    alike v places (timed (cadence_of false s)) timed_by_structure (front standard s) (λ f e. by_structure (cadence_of false s) (of-film false s) (f.first ∷ f.others))

plain-verdict : (standard : VbvStandard) (s : List ℕ) (places : ℕ) → verdict (plain standard) s places ≡ by_list false places timed_by_structure (front standard s)
plain-verdict standard s places = verdict_in (plain standard) s places (plain_fits standard) ∙ outside standard false s places

-- the pictures of the front are the stream's
front-pictures : (s : List ℕ) (xs : List SeenPicture) → seen_pictures Mpeg2 s ≡ value xs → (a : Answer Front) → FrontDue Mpeg2 s a → (f : Front) → a ≡ value f → f.first ∷ f.others ≡ xs
front-pictures s xs h (value g) (fr.all_read r) f e = let z = same_value e in rw (← z) (same_value (sym r.pictures_are ∙ h))
front-pictures s xs h (refused n k c x) d f e = cc

film-verdict : (v : Bool) (s : List ℕ) (xs : List SeenPicture) (places : ℕ) → seen_pictures Mpeg2 s ≡ value xs → NoFlags xs → verdict (mpeg2 true v) s places ≡ verdict (mpeg2 false v) s places
unfolding verdict_by
film-verdict v s xs places h n =
    verdict_in (mpeg2 true v) s places (mpeg2-fits true v)
    ∙ alike v places (timed (cadence_of true s)) timed_by_structure (front Mpeg2 s)
    (λ f e. no_flags (cadence_of true s) (unflagged true s) (f.first ∷ f.others) (rw (front-pictures s xs h (front Mpeg2 s) (front_due Mpeg2 s) f e) n))
    ∙ sym (outside Mpeg2 v s places)
    ∙ sym (verdict_in (mpeg2 false v) s places (mpeg2-fits false v))

pub plain_mode : PlainMode
plain_mode = record { as_before = plain-verdict; without_flags = film-verdict }
