-- The cadence of a writer, and how long an offered picture lasts.
-- Assumes nothing.
use mathlib.Core.Path.{◌≡◌, refl, sym, ap, ◌∙◌}
use mathlib.Core.Bool.{Bool, true, false}
use mathlib.Core.List.{List}
use Prim.Native.Nat.{ℕ}
use Rattle.bits.specs.Bits.{pick}
use Rattle.bits.proofs.Flags.{pick_elim, yes, no}
use Rattle.vbv.specs.declared.RemovalInterval.{RemovalInterval}
use Rattle.picture_header.specs.declared.PictureFacts.{PictureFacts}
use Rattle.cadence.specs.Cadence.{cadence_fits, interval, after}
use Rattle.cadence.specs.declared.VbvCadence.{VbvCadence}
use Rattle.cadence.proofs.Plain.{outside_film}
use Rattle.cadence.proofs.Keeping.{plain_is}
use Rattle.pictures.specs.Cadence.{cadence_by}
use Rattle.pictures.proofs.Cadences.{plain_by, by_film, by_fits}
use Rattle.layers.specs.Layer.{layer_fits, facts_in}
use Rattle.layers.proofs.Telling.{as_offered, layer_tells}
use Rattle.rate_control.specs.Offer.{Offer, cadence_at, interval_at, with_placed}
use Rattle.rate_control.specs.Plain.{PlainWriter}
use Rattle.rate_control.specs.Steps.{timing}
use Rattle.rate_control.specs.declared.CbrWriter.{CbrWriter}
use Rattle.rate_control.specs.declared.Timing.{Timing}

module _ (w : CbrWriter) (headers : List ℕ) where
  -- once a picture is placed, and before
  pub before-later : w.model.started ≡ true → cadence_at w headers ≡ w.cadence
  unfolding cadence_at pick
  before-later e = rw e

  pub before-first : w.model.started ≡ false → cadence_at w headers ≡ cadence_by w.cadence.film headers
  unfolding cadence_at pick
  before-first e = rw e

  pub before-film : (cadence_at w headers).film ≡ w.cadence.film
  before-film = go w.model.started refl
    where
      go : (b : Bool) → w.model.started ≡ b → (cadence_at w headers).film ≡ w.cadence.film
      go true e = rw (before-later e)
      go false e = rw (before-first e) (by_film w.cadence.film headers)

  pub before-fits : cadence_fits w.cadence ≡ true → cadence_fits (cadence_at w headers) ≡ true
  before-fits h = go w.model.started refl
    where
      go : (b : Bool) → w.model.started ≡ b → cadence_fits (cadence_at w headers) ≡ true
      go true e = rw (before-later e) h
      go false e = rw (before-first e) (by_fits w.cadence.film headers)

-- ---- a plain writer

module _ (w : CbrWriter) (o : Offer) (p : w.cadence.film ≡ false) where
  plain-lasts : layer_fits false o.kind o.interval o.layer ≡ true → interval_at w o ≡ o.interval
  unfolding interval_at
  plain-lasts f =
      outside_film.as_before (cadence_at w o.headers) (facts_in o.layer) (before-film w o.headers ∙ p)
      ∙ rw (as_offered false o.kind o.interval o.layer f)
      (sym (layer_tells.frame_or_field false o.kind o.interval o.layer f))

  plain-stays : cadence_fits w.cadence ≡ true → cadence_at w o.headers ≡ w.cadence
  plain-stays h = go w.model.started refl
    where
      go : (b : Bool) → w.model.started ≡ b → cadence_at w o.headers ≡ w.cadence
      go true e = before-later w o.headers e
      go false e = before-first w o.headers e ∙ ap (λ (b : Bool). cadence_by b o.headers) p ∙ plain_by o.headers ∙ sym (plain_is w.cadence p h)

  plain_kept : cadence_fits w.cadence ≡ true → (with_placed w o).cadence ≡ w.cadence
  unfolding with_placed
  plain_kept h = outside_film.unmoved (cadence_at w o.headers) (facts_in o.layer) (before-film w o.headers ∙ p) ∙ plain-stays h

-- ---- by the code: a layer's facts are read in film alone

made : {i j : RemovalInterval} {b c : VbvCadence} → i ≡ j → b ≡ c → ◌≡◌ {A = Timing} (record { interval = i; cadence = b }) (record { interval = j; cadence = c })
made e f = rw (e, f)

module _ (k : VbvCadence) (i : RemovalInterval) (layer : List ℕ) where
  pub film-timing : {x : PictureFacts} {j : RemovalInterval} {c : VbvCadence} → k.film ≡ true → x ≡ facts_in layer → j ≡ interval k x → c ≡ after k x
      → record { interval = j; cadence = c } ≡ timing k i layer
  unfolding timing
  film-timing f e a b = made (yes k.film _ _ f (a ∙ rw e)) (b ∙ rw e)

  pub plain-timing : k.film ≡ false → record { interval = i; cadence = k } ≡ timing k i layer
  unfolding timing
  plain-timing f = made (no k.film _ _ f refl) (sym (outside_film.unmoved k (facts_in layer) f))

-- where the layer fits, it comes to how long the picture lasts
pub timing-lasts : (w : CbrWriter) (o : Offer) → layer_fits w.cadence.film o.kind o.interval o.layer ≡ true
    → (timing (cadence_at w o.headers) o.interval o.layer).interval ≡ interval_at w o
unfolding timing interval_at
timing-lasts w o f =
    pick_elim (λ (j : RemovalInterval). j ≡ interval_at w o) (cadence_at w o.headers).film
    (λ e. refl)
    (λ e. let p : w.cadence.film ≡ false = sym (before-film w o.headers) ∙ e in sym (plain-lasts w o p (rw p at (f))))

pub plain_writer : PlainWriter
plain_writer = record { as_offered = plain-lasts; none_kept = plain_kept }
