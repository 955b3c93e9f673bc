-- What is owed outside film (paper 02, request 05: 'plain mode is as before'): a field lasts 1, a frame 2, whatever the flags, and nothing is kept.
-- And where no picture has the flag, film lasts as plain does. Assumes nothing.
use Rattle.std.specs.Prelude.{◌≡◌, false}
use Rattle.vbv.specs.Model.{interval_of}
use Rattle.picture_header.specs.declared.PictureFacts.{PictureFacts}
use Rattle.cadence.specs.Cadence.{interval, after}
use Rattle.cadence.specs.declared.VbvCadence.{VbvCadence}

pub record OutsideFilm : Type 0 where
  pub as_before : (k : VbvCadence) (x : PictureFacts) → k.film ≡ false → interval k x ≡ interval_of x.field
  pub unmoved : (k : VbvCadence) (x : PictureFacts) → k.film ≡ false → after k x ≡ k

-- neither the picture nor the previous anchor has the flag
pub record WithoutFlag : Type 0 where
  pub the_same : (k : VbvCadence) (x : PictureFacts) → k.repeat ≡ false → x.repeat ≡ false → interval k x ≡ interval_of x.field
  pub stays : (k : VbvCadence) (x : PictureFacts) → k.repeat ≡ false → x.repeat ≡ false → (after k x).repeat ≡ false
