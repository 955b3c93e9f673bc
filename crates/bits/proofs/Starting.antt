-- Bytes that a list begins with, compared one after another.
-- Assumes nothing.
use mathlib.Core.Path.{◌≡◌, refl, sym, ◌∙◌}
use mathlib.Core.Bool.{Bool}
use mathlib.Core.List.{List, [], ◌∷◌}
use Prim.Native.Nat.{ℕ, ◌-◌}
use native.Mathlib.Omega.{arith}
use lib.Dec.{eqb}
use Rattle.std.specs.Cmp.Lexicographic.{pointwise}
use Prim.Native.Nat.{min}
use Rattle.std.proofs.lemmas.List.{drop_min}
use Rattle.std.proofs.lemmas.Bool.Decides.{nat_tests}
use lib.ListN.{length, take, drop}
use Rattle.bits.specs.Fields.{same_bytes}
use Rattle.bits.proofs.Reading.{rest_is}

-- the library's comparison has the bytes first
pub same_pointwise : (s b : List ℕ) → pointwise eqb b s ≡ same_bytes s b
unfolding same_bytes
same_pointwise [] [] = refl
same_pointwise [] (y ∷ b) = refl
same_pointwise (x ∷ s) [] = refl
same_pointwise (x ∷ s) (y ∷ b) = let e : eqb y x ≡ eqb x y = grind (arith, nat_tests) in rw (e, same_pointwise s b)

-- what is after byte `at`, or nothing
pub rest_from : (s : List ℕ) (at m : ℕ) → m ≡ min at (length s) → take (length s - m) (drop m s) ≡ drop at s
rest_from s at m e = rest_is s m ∙ rw e (drop_min at s)

-- what the test of a code of four bytes tells
pub code_told : {r t : Bool} (s code : List ℕ) → length code ≡ 4 → r ≡ same_bytes (take (length code) s) code → r ≡ t → same_bytes (take 4 s) code ≡ t
code_told s code l e f = sym (rw l at (e)) ∙ f
