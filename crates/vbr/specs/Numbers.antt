-- Which refusals the variable model has (paper 02, request 06): of 7 to 11 only 10; and that a model which calls left is in its ranges. Assumes nothing.
use Rattle.std.specs.Prelude.{ℕ, ◌≡◌, true, [], ◌∷◌}
use Rattle.bits.specs.Refusals.{value}
use Rattle.bits.specs.Numbers.{Numbered}
use Rattle.vbv.specs.declared.RemovalInterval.{RemovalInterval}
use Rattle.vbv.specs.declared.VbvParams.{VbvParams}
use Rattle.vbv.specs.declared.VbvCbrModel.{VbvCbrModel}
use Rattle.vbr.specs.Variable.{variable_fits, new_variable, start_variable, remove_variable, occupancy_variable}

-- what is owed: of what `new` and calls left 12 is never said but by `new`
pub record VariableStays : Type 0 where
  pub made : (p : VbvParams) (m : VbvCbrModel) → new_variable p ≡ value m → variable_fits m ≡ true
  pub begun : (m next : VbvCbrModel) → start_variable m ≡ value next → variable_fits next ≡ true
  pub went_on : (m next : VbvCbrModel) (end : ℕ) (i : RemovalInterval) → remove_variable m end i ≡ value next → variable_fits next ≡ true

-- what is owed
pub record VariableNumbers : Type 0 where
  pub new : (p : VbvParams) → Numbered (12 ∷ []) [] [] (new_variable p)
  pub start : (m : VbvCbrModel) → Numbered (12 ∷ 13 ∷ []) [] [] (start_variable m)
  pub remove : (m : VbvCbrModel) (end : ℕ) (i : RemovalInterval) → Numbered (12 ∷ 13 ∷ 14 ∷ []) (10 ∷ []) [] (remove_variable m end i)
  pub occupancy : (m : VbvCbrModel) → Numbered (12 ∷ 13 ∷ []) [] [] (occupancy_variable m)
