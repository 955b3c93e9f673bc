-- A table's refusals as a header's; flags and their bits, and a list by its elements.
-- Assumes nothing.
use mathlib.Core.Path.{◌≡◌, refl, ap, ◌∙◌}
use mathlib.Core.List.{List, [], ◌∷◌}
use mathlib.Core.Bool.{Bool, true, false}
use Prim.Native.Nat.{ℕ, zero, suc, ◌≤◌}
use native.Mathlib.Omega.{arith}
use lib.Dec.{eqb, lit≤}
use lib.ListN.{length, get_or}
use Rattle.std.specs.Prelude.{Err}
use Rattle.bits.specs.Refusals.{Answer}
use Rattle.bits.specs.Answers.{in_places, fields_answer}
use Rattle.bits.specs.declared.FieldsError.{FieldsError}
use Rattle.bits.specs.declared.FieldsError.TheVariants.{Short, Bad}
use Rattle.bits.proofs.Reading.{answer_refused}
use Rattle.headers.specs.Answers.{header_refusal, fields_error, flag_of}

pub fields_refused : {p : Answer (List ℕ)} (e : FieldsError) → fields_answer (Err e) ≡ in_places p → p ≡ header_refusal (fields_error e)
fields_refused e h = answer_refused (Err e) _ h refl ∙ same e
  where
    same : (e : FieldsError) → fields_answer (Err e) ≡ header_refusal (fields_error e)
    same Short = refl
    same Bad = refl

pub flag_same : (b : Bool) → eqb (flag_of b) 1 ≡ b
flag_same true = refl
flag_same false = refl

pub flag-back : (v : ℕ) → v ≤ 1 → flag_of (eqb v 1) ≡ v
flag-back zero h = refl
flag-back (suc zero) h = refl
flag-back (suc (suc v)) h = omega arith

pub flag-bound : (b : Bool) → flag_of b ≤ 1
flag-bound true = lit≤ tt
flag-bound false = lit≤ tt

-- a list by its elements
abbrev pub spread : ℕ → (ℕ → ℕ) → List ℕ
spread zero f = []
spread (suc n) f = f 0 ∷ spread n (λ k. f (suc k))

pub spread-is : (n : ℕ) (vs : List ℕ) → length vs ≡ n → spread n (λ k. get_or vs k 0) ≡ vs
spread-is zero [] e = refl
spread-is zero (v ∷ vs) e = let z : ◌≡◌ {A = ℕ} 0 1 = omega arith in cc
spread-is (suc n) [] e = let z : ◌≡◌ {A = ℕ} 0 1 = omega arith in cc
spread-is (suc n) (v ∷ vs) e = ap (λ (l : List ℕ). v ∷ l) (spread-is n vs (omega arith))
