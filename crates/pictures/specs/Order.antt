-- What is owed of the pictures: the steps of the walk give them, or the first refusal; and they lie in order, each within the stream.
-- Assumes nothing.
use Rattle.std.specs.Prelude.{ℕ, ◌+◌, ◌*◌, ◌≤◌, ◌<◌, ◌≡◌, List, [], ◌∷◌, length}
use Rattle.vbv.specs.Model.{farthest}
use Rattle.bits.specs.Refusals.{Answer, value, refused}
use Rattle.pictures.specs.Seen.{nothing, one, seen_pictures, next_seen}
use Rattle.pictures.specs.declared.VbvStandard.{VbvStandard}
use Rattle.pictures.specs.declared.SeenPicture.{SeenPicture}

-- the pictures that the steps from a place on give, up to the last or to the first refusal
pub data Visits (standard : VbvStandard) (s : List ℕ) : ℕ → Answer (List SeenPicture) → Type 0 where
  ended : {from : ℕ} → next_seen standard s from ≡ value nothing → Visits standard s from (value [])
  stopped : {from n k c e : ℕ} → next_seen standard s from ≡ refused n k c e → Visits standard s from (refused n k c e)
  went_on : {from next : ℕ} {x : SeenPicture} {xs : List SeenPicture} → next_seen standard s from ≡ value (one x next) → Visits standard s next (value xs)
      → Visits standard s from (value (x ∷ xs))
  stopped_later : {from next n k c e : ℕ} {x : SeenPicture} → next_seen standard s from ≡ value (one x next) → Visits standard s next (refused n k c e)
      → Visits standard s from (refused n k c e)

-- from the first byte on they are the stream's
abbrev pub StepsGivePictures : Type 0
StepsGivePictures = (standard : VbvStandard) (s : List ℕ) → 8 * length s ≤ farthest → Visits standard s 0 (seen_pictures standard s)

-- a picture whose start code lies after what ends at `previous` and before its own end, all within 2^48 bits, its delay in 16 bits
pub record Placed (previous position end delay : ℕ) : Type 0 where
  pub begins : previous + 32 ≤ position
  pub ends : position ≤ end
  pub end_near : end ≤ farthest
  pub delay_small : delay < 65536

pub data Rising : ℕ → List SeenPicture → Type 0 where
  last : {previous : ℕ} → Rising previous []
  next : {previous : ℕ} {x : SeenPicture} {xs : List SeenPicture} → Placed previous x.pos_bits x.end_bits x.vbv_delay → Rising x.end_bits xs
      → Rising previous (x ∷ xs)

abbrev pub SeenRising : Type 0
SeenRising = (standard : VbvStandard) (s : List ℕ) (xs : List SeenPicture) → 8 * length s ≤ farthest → seen_pictures standard s ≡ value xs → Rising 0 xs
