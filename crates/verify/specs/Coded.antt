-- The pictures as the model sees them: where each is, its coded delay and the interval up to the next removal, which the cadence tells (paper 02, request 05).
-- Assumes nothing.
use Rattle.std.specs.Prelude.{List, [], ◌∷◌}
use Rattle.vbv.specs.declared.RemovalInterval.{RemovalInterval}
use Rattle.cadence.specs.Cadence.{interval, after}
use Rattle.cadence.specs.declared.VbvCadence.{VbvCadence}
use Rattle.pictures.specs.declared.SeenPicture.{SeenPicture}
use Rattle.verify.specs.declared.CodedPicture.{CodedPicture}

abbrev pub coded_of : RemovalInterval → SeenPicture → CodedPicture
coded_of i x = record { pos_bits = x.pos_bits; end_bits = x.end_bits; vbv_delay = x.vbv_delay; interval = i }

-- each picture lasts as the cadence before it says, and moves it on
unfoldable pub timed : VbvCadence → List SeenPicture → List CodedPicture
timed k [] = []
timed k (x ∷ xs) = coded_of (interval k x.facts) x ∷ timed (after k x.facts) xs
