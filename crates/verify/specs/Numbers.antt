-- Which refusals the check has (paper 01, 'The buffer report'; paper 02, request 06; 12 for a mode that does not exist comes first too): 9 to 11 with picture, coded and expected, every other with zeros.
-- Assumes nothing.
use Rattle.std.specs.Prelude.{ℕ, Bool, true, false, List, [], ◌∷◌}
use Rattle.bits.specs.Numbers.{Numbered}
use Rattle.bits.specs.Refusals.{Answer}
use Rattle.verify.specs.Check.{Accepted, verdict}
use Rattle.verify.specs.declared.VbvMode.{VbvMode}

-- in the order of the tests; 'of 7 to 11 only 10 can occur' at a variable rate
abbrev pub NumberedAt : Bool → Answer Accepted → Type 0
NumberedAt false a = Numbered (12 ∷ 14 ∷ 3 ∷ 1 ∷ 2 ∷ 6 ∷ 4 ∷ 5 ∷ 12 ∷ 15 ∷ 7 ∷ 8 ∷ []) [] (11 ∷ 9 ∷ 10 ∷ []) a
NumberedAt true a = Numbered (12 ∷ 14 ∷ 3 ∷ 1 ∷ 2 ∷ 6 ∷ 4 ∷ 25 ∷ 12 ∷ 15 ∷ []) [] (10 ∷ []) a

-- what is owed
abbrev pub CheckNumbers : Type 0
CheckNumbers = (m : VbvMode) (s : List ℕ) (places : ℕ) → NumberedAt m.variable (verdict m s places)
