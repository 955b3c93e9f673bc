-- Outside film, and where no picture has the flag.
-- Assumes nothing.
use mathlib.Core.Path.{◌≡◌, refl, sym}
use mathlib.Core.Bool.{Bool, true, false, and-false}
use Rattle.bits.specs.Bits.{pick}
use Rattle.bits.proofs.Flags.{pick_elim}
use Rattle.vbv.specs.Model.{interval_of}
use Rattle.vbv.specs.declared.RemovalInterval.TheVariants.{Frame, Field}
use Rattle.vbv.proofs.Fitting.{of_field_lem, of_frame}
use Rattle.picture_header.specs.declared.PictureFacts.{PictureFacts}
use Rattle.cadence.specs.Cadence.{lasting, is_closed, field_interval, frame_interval, interval, with, closed, after_field, after_frame, after}
use Rattle.cadence.specs.Plain.{OutsideFilm, WithoutFlag}
use Rattle.cadence.specs.declared.VbvCadence.{VbvCadence}

pub outside_film : OutsideFilm
unfolding interval after pick
outside_film = record {
  as_before = λ k x e. rw e;
  unmoved = λ k x e. rw e;
}

-- no test picks anything else where both sides are the same
same : {A : Type 0} (b : Bool) (a : A) → pick b a a ≡ a
unfolding pick
same true a = refl
same false a = refl

-- a field and a frame, each as outside film
as_plain : (film field : Bool) → pick film (pick field Field Frame) (interval_of field) ≡ interval_of field
unfolding pick
as_plain true true = sym of_field_lem
as_plain true false = sym of_frame
as_plain false field = refl

-- what is kept of the previous anchor's flag
unset : (k : VbvCadence) (x : PictureFacts) → k.repeat ≡ false → x.repeat ≡ false → (after k x).repeat ≡ false
unfolding after after_field after_frame closed with
unset k x e f =
    pick_elim Unset k.film
    (λ m. pick_elim Unset x.field (λ d. pick_elim Unset (is_closed k.waiting) (λ w. e) (λ w. rw e)) (λ d. pick_elim Unset x.anchor (λ a. f) (λ a. rw e)))
    (λ m. e)
  where
    Unset : VbvCadence → Type 0
    Unset c = c.repeat ≡ false

pub without_flag : WithoutFlag
unfolding interval field_interval frame_interval lasting pick
without_flag = record {
  the_same = λ k x e f. simp (e, f, and-false, same, as_plain);
  stays = unset;
}
