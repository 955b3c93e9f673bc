-- What is owed of plain mode (paper 02, request 05: 'plain mode is as before'): each picture lasts by its structure, and nothing else enters. And where no picture has repeat_first_field
-- film is plain: the same report, records or refusal, so that film mode may be left on for such material. Assumes nothing.
use Rattle.std.specs.Prelude.{ℕ, ◌≡◌, Bool, true, false, List, [], ◌∷◌}
use Rattle.bits.specs.Refusals.{value, and_then}
use Rattle.vbv.specs.Model.{interval_of}
use Rattle.pictures.specs.Front.{front}
use Rattle.pictures.specs.Seen.{seen_pictures}
use Rattle.pictures.specs.declared.VbvStandard.{VbvStandard}
use Rattle.pictures.specs.declared.VbvStandard.TheVariants.{Mpeg2}
use Rattle.pictures.specs.declared.SeenPicture.{SeenPicture}
use Rattle.verify.specs.Mode.{plain, mpeg2}
use Rattle.verify.specs.Coded.{coded_of}
use Rattle.verify.specs.Check.{with_pictures, verdict}
use Rattle.verify.specs.declared.CodedPicture.{CodedPicture}

-- a field picture lasts a field period, a frame a frame period
unfoldable pub timed_by_structure : List SeenPicture → List CodedPicture
timed_by_structure [] = []
timed_by_structure (x ∷ xs) = coded_of (interval_of x.facts.field) x ∷ timed_by_structure xs

pub data NoFlags : List SeenPicture → Type 0 where
  none : NoFlags []
  more : {x : SeenPicture} {xs : List SeenPicture} → x.facts.repeat ≡ false → NoFlags xs → NoFlags (x ∷ xs)

-- what is owed
pub record PlainMode : Type 0 where
  pub as_before : (standard : VbvStandard) (s : List ℕ) (places : ℕ)
      → verdict (plain standard) s places
      ≡ and_then (front standard s) (λ f. with_pictures false places f.params f.first (timed_by_structure (f.first ∷ f.others)))
  -- at a variable rate too
  pub without_flags : (v : Bool) (s : List ℕ) (xs : List SeenPicture) (places : ℕ) → seen_pictures Mpeg2 s ≡ value xs → NoFlags xs → verdict (mpeg2 true v) s places ≡ verdict (mpeg2 false v) s places
