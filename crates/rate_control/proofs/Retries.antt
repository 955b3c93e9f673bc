-- Retries: from any quantiser of 1 to 31 at most eleven steps to 31.
-- Assumes nothing.
use mathlib.Core.Path.{◌≡◌, refl, subst}
use mathlib.Core.Bool.{Bool, true, false, ◌&&◌}
use Prim.Native.Nat.{ℕ, zero, suc, ◌≤◌, ◌<◌}
use native.Mathlib.Omega.{arith}
use native.Mathlib.Decide.{dec_lt}
use native.Mathlib.Nat.{not-suc-le-zero}
use lib.Dec.{leb, eqb}
use borrow.Author.Tests.{leb-true, eqb-true}
use Rattle.bits.proofs.Flags.{pick_elim, both_true}
use Rattle.rate_control.specs.Writer.{coarser, steered}

pub record Quant (q : ℕ) : Type 0 where
  pub low : 1 ≤ q
  pub high : q ≤ 31

pub below_31 : {q : ℕ} → Quant q → (q ≡ 31 → ⊥) → q < 31
below_31 h n = omega arith

-- steps from q to 31, at most n
abbrev rest_in : ℕ → ℕ → ℕ
rest_in zero q = 0
rest_in (suc n) q = elim (leb 31 q) [ true ↦ 0 | false ↦ suc (rest_in n (coarser q)) ]

unfoldable pub rest : ℕ → ℕ
rest q = rest_in 31 q

-- a test at every number below n
abbrev all_below : ℕ → (ℕ → Bool) → Bool
all_below zero f = true
all_below (suc n) f = f n && all_below n f

at_each : (n : ℕ) (f : ℕ → Bool) → all_below n f ≡ true → (k : ℕ) → k < n → f k ≡ true
at_each zero f t k h = absurd (not-suc-le-zero h)
at_each (suc n) f t k h = go (dec_lt k n) (at_each n f (both_true (f n) (all_below n f) t).1 k)
  where
    go : Dec (k < n) → (k < n → f k ≡ true) → f k ≡ true
    go (yes l) ih = ih l
    go (no g) ih =
        let e : n ≡ k = omega arith in
        subst (λ (m : ℕ). f m ≡ true) e (both_true (f n) (all_below n f) t).0

pub rest_small : {q : ℕ} → Quant q → rest q ≤ 11
unfolding rest coarser
rest_small {q = zero} h = omega arith
rest_small {q = suc j} h = leb-true (rest (suc j)) 11 (at_each 31 (λ j. leb (rest (suc j)) 11) refl j (omega arith))

-- a retry is one step on the way
pub rest-step : {q : ℕ} → Quant q → q < 31 → rest q ≡ suc (rest (coarser q))
unfolding rest coarser
rest-step {q = zero} h b = absurd (not-suc-le-zero h.low)
rest-step {q = suc j} h b =
    eqb-true (rest (suc j)) (suc (rest (coarser (suc j))))
    (at_each 30 (λ j. eqb (rest (suc j)) (suc (rest (coarser (suc j))))) refl j (omega arith))

pub coarser_quant : {q : ℕ} → Quant q → Quant (coarser q)
unfolding coarser
coarser_quant h = omega arith

pub steered_quant : {q : ℕ} (target bits : ℕ) → Quant q → Quant (steered q target bits)
unfolding steered
steered_quant target bits h = pick_elim Quant _ (λ e. omega arith) (λ e. pick_elim Quant _ (λ g. omega arith) (λ g. h))
