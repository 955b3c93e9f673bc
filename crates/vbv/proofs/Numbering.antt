-- The numbers of the model's refusals, down its chains of tests.
-- Assumes nothing.
use mathlib.Core.Path.{refl}
use mathlib.Core.List.{List, [], ◌∷◌}
use Prim.Native.Nat.{ℕ, ◌≤◌}
use Rattle.bits.specs.Refusals.{Answer}
use Rattle.bits.proofs.Flags.{pick_elim}
use Rattle.bits.proofs.Numbering.{and_then_lem}
use Rattle.vbv.specs.declared.RemovalInterval.{RemovalInterval}
use Rattle.vbv.specs.declared.VbvParams.{VbvParams}
use Rattle.vbv.specs.declared.VbvCbrModel.{VbvCbrModel}
use Rattle.vbv.specs.Answers.{code_rate, frame_rate}
use Rattle.vbv.specs.Model.{gained, new_model, start_model, delay_for_picture, remove_picture, of_started, max_end_bits, min_end_bits, occupancy_before_removal}
use Rattle.bits.specs.Numbers.{Numbered, a_value, by_number, by_picture}
use Rattle.vbv.specs.Patch.{patch_picture}
use Rattle.vbv.specs.Numbers.{ModelNumbers, ModelStays}
use Rattle.vbv.proofs.Cases.{RateCode, known, unknown, rate-code}
use Rattle.vbv.proofs.Laws.{model-made, started, picture-removed}

code_numbered : (c : ℕ) → Numbered (12 ∷ 6 ∷ []) [] [] (code_rate c)
unfolding code_rate
code_numbered c =
    pick_elim (Numbered (12 ∷ 6 ∷ []) [] []) _ (λ e. a_value) λ e.
    pick_elim (Numbered (12 ∷ 6 ∷ []) [] []) _ (λ e. a_value) λ e.
    pick_elim (Numbered (12 ∷ 6 ∷ []) [] []) _ (λ e. a_value) λ e.
    pick_elim (Numbered (12 ∷ 6 ∷ []) [] []) _ (λ e. a_value) λ e.
    pick_elim (Numbered (12 ∷ 6 ∷ []) [] []) _ (λ e. a_value) λ e.
    pick_elim (Numbered (12 ∷ 6 ∷ []) [] []) _ (λ e. a_value) λ e.
    pick_elim (Numbered (12 ∷ 6 ∷ []) [] []) _ (λ e. a_value) λ e.
    pick_elim (Numbered (12 ∷ 6 ∷ []) [] []) _ (λ e. a_value) λ e.
    by_number refl

rate_numbered : (c n d : ℕ) → Numbered (12 ∷ 6 ∷ []) [] [] (frame_rate c n d)
unfolding frame_rate
rate_numbered c n d = pick_elim (Numbered (12 ∷ 6 ∷ []) [] []) _ (λ e. by_number refl) λ e. and_then_lem _ (code_numbered c) (λ f. a_value)

-- n and d that are not too wide meet no 12
pub rate_only_6 : (c n d : ℕ) → n ≤ 3 → d ≤ 31 → Numbered (6 ∷ []) [] [] (frame_rate c n d)
rate_only_6 c n d l h = go (rate-code c n d l h)
  where
    go : {x : Answer (ℕ × ℕ)} → RateCode c 4 32 x → Numbered (6 ∷ []) [] [] x
    go (known i j k m o q) = a_value
    go (unknown z) = by_number refl

new_numbered : (p : VbvParams) → Numbered (12 ∷ []) [] [] (new_model p)
unfolding new_model
new_numbered p = pick_elim (Numbered (12 ∷ []) [] []) _ (λ e. by_number refl) λ e. a_value

start_numbered : (m : VbvCbrModel) (delay position : ℕ) → Numbered (12 ∷ 13 ∷ 14 ∷ []) [] [] (start_model m delay position)
unfolding start_model
start_numbered m delay position =
    pick_elim (Numbered (12 ∷ 13 ∷ 14 ∷ []) [] []) _ (λ e. by_number refl) λ e.
    pick_elim (Numbered (12 ∷ 13 ∷ 14 ∷ []) [] []) _ (λ e. by_number refl) λ e.
    pick_elim (Numbered (12 ∷ 13 ∷ 14 ∷ []) [] []) _ (λ e. by_number refl) λ e.
    a_value

delay_numbered : (m : VbvCbrModel) (position : ℕ) → Numbered (12 ∷ 13 ∷ 14 ∷ 7 ∷ 8 ∷ []) [] [] (delay_for_picture m position)
unfolding delay_for_picture
delay_numbered m position =
    pick_elim (Numbered (12 ∷ 13 ∷ 14 ∷ 7 ∷ 8 ∷ []) [] []) _ (λ e. by_number refl) λ e.
    pick_elim (Numbered (12 ∷ 13 ∷ 14 ∷ 7 ∷ 8 ∷ []) [] []) _ (λ e. by_number refl) λ e.
    pick_elim (Numbered (12 ∷ 13 ∷ 14 ∷ 7 ∷ 8 ∷ []) [] []) _ (λ e. by_number refl) λ e.
    pick_elim (Numbered (12 ∷ 13 ∷ 14 ∷ 7 ∷ 8 ∷ []) [] []) _ (λ e. by_number refl) λ e.
    pick_elim (Numbered (12 ∷ 13 ∷ 14 ∷ 7 ∷ 8 ∷ []) [] []) _ (λ e. by_number refl) λ e.
    a_value

remove_numbered : (m : VbvCbrModel) (end : ℕ) (i : RemovalInterval) → Numbered (12 ∷ 13 ∷ 14 ∷ []) (9 ∷ 10 ∷ []) [] (remove_picture m end i)
unfolding remove_picture
remove_numbered m end i =
    pick_elim (Numbered (12 ∷ 13 ∷ 14 ∷ []) (9 ∷ 10 ∷ []) []) _ (λ e. by_number refl) λ e.
    pick_elim (Numbered (12 ∷ 13 ∷ 14 ∷ []) (9 ∷ 10 ∷ []) []) _ (λ e. by_number refl) λ e.
    pick_elim (Numbered (12 ∷ 13 ∷ 14 ∷ []) (9 ∷ 10 ∷ []) []) _ (λ e. by_number refl) λ e.
    pick_elim (Numbered (12 ∷ 13 ∷ 14 ∷ []) (9 ∷ 10 ∷ []) []) _ (λ e. by_picture refl) λ e.
    pick_elim (Numbered (12 ∷ 13 ∷ 14 ∷ []) (9 ∷ 10 ∷ []) []) _ (λ e. by_picture refl) λ e.
    a_value

bits_numbered : (m : VbvCbrModel) (b : ℕ) → Numbered (12 ∷ 13 ∷ []) [] [] (of_started m b)
unfolding of_started
bits_numbered m b =
    pick_elim (Numbered (12 ∷ 13 ∷ []) [] []) _ (λ e. by_number refl) λ e.
    pick_elim (Numbered (12 ∷ 13 ∷ []) [] []) _ (λ e. by_number refl) λ e.
    a_value

gain_numbered : (m : VbvCbrModel) (i : RemovalInterval) → Numbered (12 ∷ 13 ∷ []) [] [] (gained m i)
unfolding gained
gain_numbered m i =
    pick_elim (Numbered (12 ∷ 13 ∷ []) [] []) _ (λ e. by_number refl) λ e.
    pick_elim (Numbered (12 ∷ 13 ∷ []) [] []) _ (λ e. by_number refl) λ e.
    a_value

patch_numbered : (s : List ℕ) → Numbered (20 ∷ []) [] [] (patch_picture s)
unfolding patch_picture
patch_numbered s = pick_elim (Numbered (20 ∷ []) [] []) _ (λ e. by_number refl) λ e. a_value

pub model_numbers : ModelNumbers
unfolding max_end_bits min_end_bits occupancy_before_removal
model_numbers = record {
  rate = rate_numbered;
  new = new_numbered;
  start = start_numbered;
  delay = delay_numbered;
  remove = remove_numbered;
  gain = gain_numbered;
  max_end = λ m. bits_numbered m _;
  min_end = λ m i. bits_numbered m _;
  occupancy = λ m. bits_numbered m _;
  patch = patch_numbered;
}

pub model_stays : ModelStays
model_stays = record {
  made = λ p m h. (model-made p m h).fits;
  begun = λ m next delay position l h. (started m delay position next h).fits l;
  went_on = λ m next end i h. (picture-removed m end i next h).fits;
}
