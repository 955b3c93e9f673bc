-- Every refusal of an entry is one of paper 01's for it.
-- Assumes nothing.
use mathlib.Core.Path.{refl}
use mathlib.Core.List.{List, [], ◌∷◌}
use Prim.Native.Nat.{ℕ}
use native.Mathlib.Omega.{arith}
use Rattle.bits.specs.Refusals.{Answer}
use Rattle.bits.specs.Numbers.{Numbered, a_value, by_number}
use Rattle.bits.proofs.Flags.{pick_elim}
use Rattle.bits.proofs.Numbering.{and_then_lem, wider}
use Rattle.vbv.proofs.Numbering.{model_numbers}
use Rattle.verify.specs.Check.{Accepted}
use Rattle.layout.specs.Mode.{mode_for}
use Rattle.verify.proofs.Numbering.{all_numbers, enough_numbers}
use Rattle.rate_control.specs.declared.CbrConfig.{CbrConfig}
use Rattle.rate_control.proofs.Refusing.{writer_numbers}
use Rattle.layout.specs.Config.{config_in}
use Rattle.hipokuta.specs.Check.{checked, report_alone}
use Rattle.hipokuta.specs.Send.{create_in, create_with, COffer, reach, offer_in, withdraw_in}
use Rattle.hipokuta.specs.Numbers.{EntryNumbers}

abbrev Checks : Answer Accepted → Type 0
Checks a = Numbered (19 ∷ 12 ∷ 14 ∷ 3 ∷ 1 ∷ 2 ∷ 6 ∷ 4 ∷ 5 ∷ 25 ∷ 15 ∷ 7 ∷ 8 ∷ []) [] (11 ∷ 9 ∷ 10 ∷ []) a

vbv_check_numbered : (s : List ℕ) (mode : ℕ) (report recs refusal : List ℕ) → Checks (checked s mode report recs refusal)
unfolding checked
vbv_check_numbered s mode report recs refusal =
    pick_elim Checks _ (λ e. by_number refl) λ e.
    pick_elim Checks _ (λ e. by_number refl) λ e.
    wider refl refl refl (all_numbers (mode_for mode) s _)

abbrev Reports : {X : Type 0} → Answer X → Type 0
Reports a = Numbered (19 ∷ 12 ∷ 14 ∷ 3 ∷ 1 ∷ 2 ∷ 6 ∷ 4 ∷ 5 ∷ 25 ∷ 7 ∷ 8 ∷ []) [] (11 ∷ 9 ∷ 10 ∷ []) a

vbv_report_numbered : (s : List ℕ) (mode : ℕ) (report refusal : List ℕ) → Reports (report_alone s mode report refusal)
unfolding report_alone
vbv_report_numbered s mode report refusal =
    pick_elim Reports _ (λ e. by_number refl) λ e.
    pick_elim Reports _ (λ e. by_number refl) λ e.
    and_then_lem _ (wider refl refl refl (enough_numbers (mode_for mode) s _ (omega arith))) λ a. a_value

cbr_create_numbered : (c : CbrConfig) (place : List ℕ) → Numbered (19 ∷ 12 ∷ 6 ∷ []) [] [] (create_in c place)
unfolding create_in
cbr_create_numbered c place =
    pick_elim (Numbered (19 ∷ 12 ∷ 6 ∷ []) [] []) _ (λ e. by_number refl) λ e.
    wider refl refl refl (writer_numbers.creation c)

cbr_create_config_numbered : (config place : List ℕ) → Numbered (12 ∷ 19 ∷ 6 ∷ []) [] [] (create_with config place)
unfolding create_with
cbr_create_config_numbered config place =
    pick_elim (Numbered (12 ∷ 19 ∷ 6 ∷ []) [] []) _ (λ e. by_number refl) λ e.
    pick_elim (Numbered (12 ∷ 19 ∷ 6 ∷ []) [] []) _ (λ e. by_number refl) λ e.
    pick_elim (Numbered (12 ∷ 19 ∷ 6 ∷ []) [] []) _ (λ e. by_number refl) λ e.
    wider refl refl refl (writer_numbers.creation (config_in config))

abbrev Offers : {X : Type 0} → Answer X → Type 0
Offers a = Numbered (12 ∷ 19 ∷ 17 ∷ 18 ∷ 20 ∷ 14 ∷ 7 ∷ 21 ∷ 22 ∷ []) (9 ∷ []) [] a

cbr_offer_numbered : (s : List ℕ) (o : COffer) → Offers (offer_in s o)
unfolding offer_in reach
cbr_offer_numbered s o =
    and_then_lem _
    (pick_elim Offers _ (λ e. by_number refl) λ e.
    pick_elim Offers _ (λ e. by_number refl) λ e.
    pick_elim Offers _ (λ e. by_number refl) λ e.
    a_value)
    λ x. wider refl refl refl (writer_numbers.offers x.0 x.1)

cbr_withdraw_numbered : (s : List ℕ) → Numbered (12 ∷ []) [] [] (withdraw_in s)
unfolding withdraw_in
cbr_withdraw_numbered s = pick_elim (Numbered (12 ∷ []) [] []) _ (λ e. by_number refl) λ e. wider refl refl refl (writer_numbers.withdrawals _)

pub numbers : EntryNumbers
numbers = record {
  vbv_check = vbv_check_numbered;
  vbv_report = vbv_report_numbered;
  vbv_patch_delay = model_numbers.patch;
  cbr_create = cbr_create_numbered;
  cbr_create_config = cbr_create_config_numbered;
  cbr_offer = cbr_offer_numbered;
  cbr_withdraw = cbr_withdraw_numbered;
}
