-- The code's answers to an offer are the definition's, by number, and so is the writer that is left.
-- Assumes nothing.
use Rattle.std.specs.Prelude.{Some, None, Ok, Err}
use mathlib.Core.Path.{◌≡◌, refl}
use mathlib.Core.Bool.{false}
use Prim.Native.Nat.{ℕ}
use lib.Dec.{eqb}
use lib.ListN.{length}
use Rattle.bits.specs.Bits.{pick}
use Rattle.bits.specs.Refusals.{Answer, value, refused}
use Rattle.bits.proofs.Flags.{pick-alike}
use Rattle.rate_control.specs.Answers.{Given, placed, again, offer_refusal, offer_answer}
use Rattle.rate_control.specs.Writer.{asked}
use Rattle.rate_control.specs.Offer.{Offer, stuffing, delay, placed_bytes, with_pending, too_large_answer, offer, left_by, left}
use Rattle.rate_control.specs.Steps.{refused_in_code, too_large_in_code, placed_in_code, offer_in_code}
use Rattle.rate_control.specs.declared.CbrWriter.{CbrWriter}
use Rattle.rate_control.specs.declared.CbrError.{CbrError}
use Rattle.rate_control.specs.declared.CbrError.TheVariants.{TooLarge}
use Rattle.rate_control.specs.declared.CbrGiven.TheVariants.{Again}
use Rattle.rate_control.specs.declared.CbrOffered.{CbrOffered}

module _ (w : CbrWriter) (o : Offer) where
  Same : CbrOffered → Answer Given → Type 0
  Same r a = (offer_answer r.answer ≡ a) × (r.writer ≡ left_by w o a)

  refused-same : (e : CbrError) → eqb (offer_refusal e).number 21 ≡ false → Same (refused_in_code w e) (offer_answer (Err e))
  unfolding Same refused_in_code pick
  refused-same e h = (refl, rw h)

  largest-same : Same (record { answer = Err TooLarge; writer = with_pending w None }) (refused 21 0 0 0)
  unfolding Same pick
  largest-same = (refl, refl)

  again-same : (q : ℕ) → Same (record { answer = Ok (Again q); writer = with_pending w (Some (o.kind, q)) }) (value (again q))
  unfolding Same
  again-same q = (refl, refl)

  large_same : Same (too_large_in_code w o.kind (asked w o.kind)) (too_large_answer (asked w o.kind))
  unfolding too_large_in_code
  large_same = pick-alike Same _ largest-same (λ h. again-same _)

  placed_same : Same (placed_in_code w o (asked w o.kind)) (value (placed (asked w o.kind) (delay w o) (length (placed_bytes w o)) (stuffing w o)))
  unfolding Same placed_in_code
  placed_same = (refl, refl)

  same : Same (offer_in_code w o) (offer w o)
  unfolding offer_in_code offer
  same =
      pick-alike Same _ (refused-same _ refl) λ h12.
      pick-alike Same _ (refused-same _ refl) λ h17.
      pick-alike Same _ (refused-same _ refl) λ h18.
      pick-alike Same _ (refused-same _ refl) λ h20.
      pick-alike Same _ (refused-same _ refl) λ h14.
      pick-alike Same _ (refused-same _ refl) λ h7.
      pick-alike Same _ (refused-same _ refl) λ h9.
      pick-alike Same _ large_same λ size.
      pick-alike Same _ (refused-same _ refl) λ h22.
      pick-alike Same _ (refused-same _ refl) λ h19. placed_same

  pub answer_is : offer_answer (offer_in_code w o).answer ≡ offer w o
  unfolding Same
  answer_is = same.0

  pub writer_is : (offer_in_code w o).writer ≡ left w o
  unfolding Same
  writer_is = same.1
