-- The numbers of a writer's refusals; and a withdrawal from a writer that fits, which is not refused.
-- Assumes nothing.
use mathlib.Core.Path.{◌≡◌, refl, sym, ◌∙◌}
use mathlib.Core.Bool.{true, false, true≢false}
use mathlib.Core.List.{[], ◌∷◌}
use borrow.Author.Tests.{not-false}
use Rattle.bits.specs.Refusals.{Answer}
use Rattle.bits.specs.Numbers.{Numbered, a_value, by_number, by_picture}
use Rattle.bits.proofs.Flags.{pick_elim}
use Rattle.bits.proofs.Numbering.{and_then_lem, wider}
use Rattle.vbv.proofs.Numbering.{model_numbers}
use Rattle.vbr.proofs.Either.{new_numbered_at}
use Rattle.rate_control.specs.Answers.{Given}
use Rattle.rate_control.specs.Create.{create}
use Rattle.rate_control.specs.Offer.{Offer, offer, withdraw}
use Rattle.rate_control.specs.Numbers.{WriterNumbers}
use Rattle.rate_control.specs.declared.CbrConfig.{CbrConfig}
use Rattle.rate_control.specs.declared.CbrWriter.{CbrWriter}
use Rattle.rate_control.proofs.Chain.{by_constant}
use Rattle.rate_control.proofs.Placing.{overflow-constant, edge_constant}

created_numbered : (c : CbrConfig) → Numbered (12 ∷ 6 ∷ []) [] [] (create c)
unfolding create
created_numbered c =
    pick_elim (Numbered (12 ∷ 6 ∷ []) [] []) _ (λ e. by_number refl) λ e.
    and_then_lem _ (wider refl refl refl (model_numbers.rate c.frame_rate_code c.frame_rate_extension_n c.frame_rate_extension_d)) λ f.
    and_then_lem _ (wider refl refl refl (new_numbered_at c.mode.variable _)) λ m.
    a_value

abbrev Offered : Answer Given → Type 0
Offered a = Numbered (12 ∷ 17 ∷ 18 ∷ 20 ∷ 14 ∷ 7 ∷ 21 ∷ 22 ∷ 19 ∷ []) (9 ∷ []) [] a

offer_numbered : (w : CbrWriter) (o : Offer) → Offered (offer w o)
unfolding offer
offer_numbered w o =
    pick_elim Offered _ (λ e. by_number refl) λ e.
    pick_elim Offered _ (λ e. by_number refl) λ e.
    pick_elim Offered _ (λ e. by_number refl) λ e.
    pick_elim Offered _ (λ e. by_number refl) λ e.
    pick_elim Offered _ (λ e. by_number refl) λ e.
    pick_elim Offered _ (λ e. by_number refl) λ e.
    pick_elim Offered _ (λ e. by_picture refl) λ e.
    pick_elim Offered _ (λ e. pick_elim Offered _ (λ f. by_number refl) (λ f. a_value)) λ e.
    pick_elim Offered _ (λ e. by_number refl) λ e.
    pick_elim Offered _ (λ e. by_number refl) λ e.
    a_value

abbrev Flowed : Answer Given → Type 0
Flowed a = Numbered (12 ∷ 17 ∷ 18 ∷ 20 ∷ 14 ∷ 21 ∷ 19 ∷ []) [] [] a

variable_numbered : (w : CbrWriter) (o : Offer) → w.variable ≡ true → Flowed (offer w o)
unfolding offer
variable_numbered w o v =
    pick_elim Flowed _ (λ e. by_number refl) λ h12.
    pick_elim Flowed _ (λ e. by_number refl) λ h17.
    pick_elim Flowed _ (λ e. by_number refl) λ h18.
    pick_elim Flowed _ (λ e. by_number refl) λ h20.
    pick_elim Flowed _ (λ e. by_number refl) λ h14.
    pick_elim Flowed _ (λ e. absurd (true≢false (sym e ∙ by_constant w.variable _ (λ c. absurd (constant c))))) λ h7.
    pick_elim Flowed _ (λ e. absurd (constant (overflow-constant w o (not-false _ h12) e))) λ h9.
    pick_elim Flowed _ (λ e. pick_elim Flowed _ (λ f. by_number refl) (λ f. a_value)) λ size.
    pick_elim Flowed _ (λ e. absurd (constant (edge_constant w o size e))) λ h22.
    pick_elim Flowed _ (λ e. by_number refl) λ h19.
    a_value
  where
    constant : w.variable ≡ false → ⊥
    constant c = true≢false (sym v ∙ c)

withdraw_numbered : (w : CbrWriter) → Numbered (12 ∷ []) [] [] (withdraw w)
unfolding withdraw
withdraw_numbered w = pick_elim (Numbered (12 ∷ []) [] []) _ (λ e. by_number refl) λ e. a_value

pub writer_numbers : WriterNumbers
writer_numbers = record { creation = created_numbered; offers = offer_numbered; variable_offers = variable_numbered; withdrawals = withdraw_numbered }
