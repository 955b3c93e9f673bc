-- Which refusals the opening, a step and the front have (paper 01, 'The buffer report'): each its number alone.
-- Assumes nothing.
use Rattle.std.specs.Prelude.{ℕ, List, [], ◌∷◌}
use Rattle.bits.specs.Numbers.{Numbered}
use Rattle.pictures.specs.Seen.{next_seen}
use Rattle.pictures.specs.Front.{opening, front}
use Rattle.pictures.specs.declared.VbvStandard.{VbvStandard}

-- what is owed; in the order of the tests
pub record FrontNumbers : Type 0 where
  pub opening_has : (standard : VbvStandard) (s : List ℕ) → Numbered (14 ∷ 3 ∷ 1 ∷ 2 ∷ 6 ∷ []) [] [] (opening standard s)
  pub step_has : (standard : VbvStandard) (s : List ℕ) (from : ℕ) → Numbered (14 ∷ 1 ∷ 2 ∷ []) [] [] (next_seen standard s from)
  pub front_has : (standard : VbvStandard) (s : List ℕ) → Numbered (14 ∷ 3 ∷ 1 ∷ 2 ∷ 6 ∷ 4 ∷ []) [] [] (front standard s)
