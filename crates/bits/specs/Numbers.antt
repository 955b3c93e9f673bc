-- Which numbers of paper 01's table an answer can carry, and with which values.
-- Assumes nothing.
use Rattle.std.specs.Prelude.{ℕ, ◌≡◌, List, [], ◌∷◌, Bool, true, false, ◌||◌, eqb}
use Rattle.bits.specs.Refusals.{Answer, value, refused}

abbrev pub one_of : List ℕ → ℕ → Bool
one_of [] n = false
one_of (k ∷ ks) n = eqb n k || one_of ks n

-- a value; or a refusal by its number alone, by number and picture, or by all four
pub data Numbered {X : Type 0} (alone pictured full : List ℕ) : Answer X → Type 0 where
  a_value : {x : X} → Numbered alone pictured full (value x)
  by_number : {n : ℕ} → one_of alone n ≡ true → Numbered alone pictured full (refused n 0 0 0)
  by_picture : {n picture : ℕ} → one_of pictured n ≡ true → Numbered alone pictured full (refused n picture 0 0)
  by_all : {n picture coded expected : ℕ} → one_of full n ≡ true → Numbered alone pictured full (refused n picture coded expected)
