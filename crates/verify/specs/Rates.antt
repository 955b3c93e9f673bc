-- Of a frame rate only the value counts (request 02): pictures are reported, recorded and refused alike with parameters that are the same but for its numerator and denominator, though
-- what is delivered is then counted in other units. Assumes nothing.
use Rattle.std.specs.Prelude.{ℕ, ◌≡◌, Bool, true, List}
use Rattle.bits.specs.Refusals.{Answer, value}
use Rattle.vbv.specs.Params.{same_params}
use Rattle.vbv.specs.declared.VbvParams.{VbvParams}
use Rattle.pictures.specs.Front.{Front, front}
use Rattle.pictures.specs.Cadence.{cadence_of}
use Rattle.pictures.specs.declared.SeenPicture.{SeenPicture}
use Rattle.verify.specs.Check.{Accepted, with_pictures, verdict, reported, records}
use Rattle.verify.specs.declared.VbvMode.{VbvMode}
use Rattle.verify.specs.declared.CodedPicture.{CodedPicture}

-- the same report or refusal, and the same records
abbrev pub SameAnswer : Answer Accepted → Answer Accepted → Type 0
SameAnswer a b = (reported a ≡ reported b) × (records a ≡ records b)

-- what is owed
pub record ValueReports : Type 0 where
  -- of the part of the check that comes after the front
  pub of_pictures : (p q : VbvParams) → same_params p q ≡ true → (v : Bool) (places : ℕ) (x : SeenPicture) (cs : List CodedPicture)
      → SameAnswer (with_pictures v places p x cs) (with_pictures v places q x cs)
  -- so of two streams whose headers show the same pictures, open the same cadence, and declare the same parameters but for numerator and denominator
  pub of_streams : (m : VbvMode) (s t : List ℕ) (places : ℕ) (f g : Front) → front m.standard s ≡ value f → front m.standard t ≡ value g
      → same_params f.params g.params ≡ true → f.first ≡ g.first → f.others ≡ g.others → cadence_of m.film s ≡ cadence_of m.film t
      → SameAnswer (verdict m s places) (verdict m t places)
