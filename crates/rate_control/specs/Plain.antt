-- What is owed of a plain writer (paper 02, request 05: 'plain mode is as before'): a picture lasts as its offer says, and no cadence is kept.
-- Assumes nothing.
use Rattle.std.specs.Prelude.{◌≡◌, true, false}
use Rattle.cadence.specs.Cadence.{cadence_fits}
use Rattle.layers.specs.Layer.{layer_fits}
use Rattle.rate_control.specs.Offer.{Offer, interval_at, with_placed}
use Rattle.rate_control.specs.declared.CbrWriter.{CbrWriter}

pub record PlainWriter : Type 0 where
  pub as_offered : (w : CbrWriter) (o : Offer) → w.cadence.film ≡ false → layer_fits false o.kind o.interval o.layer ≡ true → interval_at w o ≡ o.interval
  pub none_kept : (w : CbrWriter) (o : Offer) → w.cadence.film ≡ false → cadence_fits w.cadence ≡ true → (with_placed w o).cadence ≡ w.cadence
