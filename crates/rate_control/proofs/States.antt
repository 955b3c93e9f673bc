-- The ranges of a writer's state as the code tests them.
-- Assumes nothing.
use Rattle.std.specs.Prelude.{None}
use mathlib.Core.Path.{◌≡◌, sym, ◌∙◌}
use mathlib.Core.Bool.{Bool, true, ◌&&◌, and_assoc}
use mathlib.Core.List.{List, [], ◌∷◌}
use mathlib.Core.Logic.{⊎_elim}
use Prim.Native.Nat.{ℕ, ◌*◌, ◌/◌, ◌%◌, ◌≤◌, ◌<◌, max}
use native.Mathlib.Omega.{arith}
use lib.Dec.{leb, eqb}
use lib.ListN.{length}
use borrow.Author.Tests.{le-leb, lt-leb}
use Rattle.bits.specs.Bits.{pick}
use Rattle.bits.proofs.Appending.{lt_or_le}
use Rattle.vbv.specs.Model.{farthest}
use Rattle.vbv.proofs.Fitting.{both_below}
use Rattle.vbr.specs.Variable.{model_fits_at}
use Rattle.cadence.specs.Cadence.{cadence_fits}
use Rattle.rate_control.specs.Writer.{all_fit, quantiser_fits, pending_fits, writer_fits}
use Rattle.bits.specs.Refusals.{value}
use Rattle.rate_control.specs.Offer.{with_pending, withdraw}
use Rattle.rate_control.specs.declared.CbrWriter.{CbrWriter}

-- three numbers
pub data Three : List ℕ → Type 0 where
  of_three : (a b c : ℕ) → Three (a ∷ b ∷ c ∷ [])

pub is_three : (s : List ℕ) → length s ≡ 3 → Three s
is_three [] e = absurd (omega arith)
is_three (a ∷ []) e = absurd (omega arith)
is_three (a ∷ b ∷ []) e = absurd (omega arith)
is_three (a ∷ b ∷ c ∷ []) e = of_three a b c
is_three (a ∷ b ∷ c ∷ d ∷ s) e = absurd (omega arith)

-- bytes against bits
bytes_bits : (n b : ℕ) → leb n (b / 8) ≡ leb (8 * n) b
bytes_bits n b =
    ⊎_elim
    (λ (h : b / 8 < n). lt-leb n (b / 8) h ∙ sym (lt-leb (8 * n) b (omega arith)))
    (λ (h : n ≤ b / 8). le-leb n (b / 8) h ∙ sym (le-leb (8 * n) b (omega arith)))
    (lt_or_le (b / 8) n)

pub writer-tested : (w : CbrWriter) (f t q p k : Bool) (g : ℕ) → f ≡ model_fits_at w.variable w.model → g ≡ max w.model.removed w.stuffing_bytes → t ≡ all_fit (λ x. leb x farthest) w.target_bits
    → q ≡ all_fit quantiser_fits w.q → p ≡ pending_fits w.pending → k ≡ cadence_fits w.cadence
    → (f && (eqb (w.model.prev_end_bits % 8) 0
    && (leb g (w.model.prev_end_bits / 8) && (t && (q && (p && k))))))
    ≡ writer_fits w
unfolding writer_fits
writer-tested w f t q p k g a h b d e c =
    rw (
      a,
      h,
      b,
      d,
      e,
      c,
      both_below w.model.removed w.stuffing_bytes (w.model.prev_end_bits / 8),
      bytes_bits w.model.removed w.model.prev_end_bits,
      bytes_bits w.stuffing_bytes w.model.prev_end_bits,
    )
    (simp and_assoc)

-- a writer that fits is not refused
pub withdraw-answer : (w : CbrWriter) → writer_fits w ≡ true → withdraw w ≡ value (with_pending w None)
unfolding withdraw pick
withdraw-answer w f = rw f
