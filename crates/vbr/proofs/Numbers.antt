-- The numbers of the variable model's refusals, down its chains of tests; and that a model stays in its ranges.
-- Assumes nothing.
use mathlib.Core.Path.{refl}
use mathlib.Core.List.{[], ◌∷◌}
use Prim.Native.Nat.{ℕ}
use Rattle.bits.specs.Numbers.{Numbered, a_value, by_number, by_picture}
use Rattle.bits.proofs.Flags.{pick_elim}
use Rattle.vbv.specs.declared.RemovalInterval.{RemovalInterval}
use Rattle.vbv.specs.declared.VbvParams.{VbvParams}
use Rattle.vbv.specs.declared.VbvCbrModel.{VbvCbrModel}
use Rattle.vbr.specs.Variable.{of_filled, new_variable, start_variable, remove_variable, occupancy_variable}
use Rattle.vbr.specs.Numbers.{VariableNumbers, VariableStays}
use Rattle.vbr.proofs.Laws.{variable-made, variable_started, variable-removed}

new_numbered : (p : VbvParams) → Numbered (12 ∷ []) [] [] (new_variable p)
unfolding new_variable
new_numbered p = pick_elim (Numbered (12 ∷ []) [] []) _ (λ e. by_number refl) λ e. a_value

start_numbered : (m : VbvCbrModel) → Numbered (12 ∷ 13 ∷ []) [] [] (start_variable m)
unfolding start_variable
start_numbered m =
    pick_elim (Numbered (12 ∷ 13 ∷ []) [] []) _ (λ e. by_number refl) λ e.
    pick_elim (Numbered (12 ∷ 13 ∷ []) [] []) _ (λ e. by_number refl) λ e.
    a_value

remove_numbered : (m : VbvCbrModel) (end : ℕ) (i : RemovalInterval) → Numbered (12 ∷ 13 ∷ 14 ∷ []) (10 ∷ []) [] (remove_variable m end i)
unfolding remove_variable
remove_numbered m end i =
    pick_elim (Numbered (12 ∷ 13 ∷ 14 ∷ []) (10 ∷ []) []) _ (λ e. by_number refl) λ e.
    pick_elim (Numbered (12 ∷ 13 ∷ 14 ∷ []) (10 ∷ []) []) _ (λ e. by_number refl) λ e.
    pick_elim (Numbered (12 ∷ 13 ∷ 14 ∷ []) (10 ∷ []) []) _ (λ e. by_number refl) λ e.
    pick_elim (Numbered (12 ∷ 13 ∷ 14 ∷ []) (10 ∷ []) []) _ (λ e. by_picture refl) λ e.
    a_value

occupancy_numbered : (m : VbvCbrModel) → Numbered (12 ∷ 13 ∷ []) [] [] (occupancy_variable m)
unfolding occupancy_variable of_filled
occupancy_numbered m =
    pick_elim (Numbered (12 ∷ 13 ∷ []) [] []) _ (λ e. by_number refl) λ e.
    pick_elim (Numbered (12 ∷ 13 ∷ []) [] []) _ (λ e. by_number refl) λ e.
    a_value

pub variable_numbers : VariableNumbers
variable_numbers = record { new = new_numbered; start = start_numbered; remove = remove_numbered; occupancy = occupancy_numbered }

pub variable_stays : VariableStays
variable_stays = record {
  made = λ p m h. (variable-made p m h).fits;
  begun = λ m next h. (variable_started m next h).fits;
  went_on = λ m next end i h. (variable-removed m end i next h).fits;
}
