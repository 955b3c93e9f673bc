-- Which refusals the frame rates and the model have (paper 01, 'Who can cause a refusal').
-- Assumes nothing.
use Rattle.std.specs.Prelude.{ℕ, ◌<◌, ◌≡◌, true, List, [], ◌∷◌}
use Rattle.bits.specs.Refusals.{value}
use Rattle.bits.specs.Numbers.{Numbered}
use Rattle.vbv.specs.Answers.{frame_rate}
use Rattle.vbv.specs.Model.{model_fits, gained, new_model, start_model, delay_for_picture, remove_picture, max_end_bits, min_end_bits, occupancy_before_removal}
use Rattle.vbv.specs.Patch.{patch_picture}
use Rattle.vbv.specs.declared.RemovalInterval.{RemovalInterval}
use Rattle.vbv.specs.declared.VbvParams.{VbvParams}
use Rattle.vbv.specs.declared.VbvCbrModel.{VbvCbrModel}

-- a model that `new`, starts and removals left is in its ranges: of these 12 is never said but by `new`; a delay has 16 bits
pub record ModelStays : Type 0 where
  pub made : (p : VbvParams) (m : VbvCbrModel) → new_model p ≡ value m → model_fits m ≡ true
  pub begun : (m next : VbvCbrModel) (delay position : ℕ) → delay < 65536 → start_model m delay position ≡ value next → model_fits next ≡ true
  pub went_on : (m next : VbvCbrModel) (end : ℕ) (i : RemovalInterval) → remove_picture m end i ≡ value next → model_fits next ≡ true

-- what is owed
pub record ModelNumbers : Type 0 where
  pub rate : (code n d : ℕ) → Numbered (12 ∷ 6 ∷ []) [] [] (frame_rate code n d)
  pub new : (p : VbvParams) → Numbered (12 ∷ []) [] [] (new_model p)
  pub start : (m : VbvCbrModel) (delay position : ℕ) → Numbered (12 ∷ 13 ∷ 14 ∷ []) [] [] (start_model m delay position)
  pub delay : (m : VbvCbrModel) (position : ℕ) → Numbered (12 ∷ 13 ∷ 14 ∷ 7 ∷ 8 ∷ []) [] [] (delay_for_picture m position)
  pub remove : (m : VbvCbrModel) (end : ℕ) (i : RemovalInterval) → Numbered (12 ∷ 13 ∷ 14 ∷ []) (9 ∷ 10 ∷ []) [] (remove_picture m end i)
  pub gain : (m : VbvCbrModel) (i : RemovalInterval) → Numbered (12 ∷ 13 ∷ []) [] [] (gained m i)
  pub max_end : (m : VbvCbrModel) → Numbered (12 ∷ 13 ∷ []) [] [] (max_end_bits m)
  pub min_end : (m : VbvCbrModel) (i : RemovalInterval) → Numbered (12 ∷ 13 ∷ []) [] [] (min_end_bits m i)
  pub occupancy : (m : VbvCbrModel) → Numbered (12 ∷ 13 ∷ []) [] [] (occupancy_before_removal m)
  pub patch : (s : List ℕ) → Numbered (20 ∷ []) [] [] (patch_picture s)
