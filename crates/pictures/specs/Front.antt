-- What every report of a stream asks first (paper 01, 'The buffer report'): 14, 3, sequence header, extension (MPEG-2), 6, every picture header in stream order, 4.
-- Assumes nothing.
use Rattle.std.specs.Prelude.{ℕ, ◌*◌, List, [], ◌∷◌, ltb, length}
use Rattle.vbv.specs.Model.{farthest}
use Rattle.bits.specs.Refusals.{Answer, value, refused, refuse, and_then}
use Rattle.vbv.specs.declared.VbvParams.{VbvParams}
use Rattle.pictures.specs.Sequence.{declared}
use Rattle.pictures.specs.Seen.{seen_pictures}
use Rattle.pictures.specs.declared.VbvStandard.{VbvStandard}
use Rattle.pictures.specs.declared.SeenPicture.{SeenPicture}

-- what a stream declares, and its pictures, the first beside the others
pub record Front : Type 0 where
  pub params : VbvParams
  pub first : SeenPicture
  pub others : List SeenPicture

unfoldable pub with_first : VbvParams → List SeenPicture → Answer Front
with_first p [] = refused 4 0 0 0
with_first p (x ∷ xs) = value (record { params = p; first = x; others = xs })

-- before the pictures: 14, 3, sequence header, extension, 6
unfoldable pub opening : VbvStandard → List ℕ → Answer VbvParams
opening standard s =
    refuse 14 (ltb farthest (8 * length s))
    (declared standard s)

unfoldable pub front : VbvStandard → List ℕ → Answer Front
front standard s =
    and_then (opening standard s) (λ p.
    and_then (seen_pictures standard s) (λ xs.
    with_first p xs))
