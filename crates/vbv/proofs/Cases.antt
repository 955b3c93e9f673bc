-- Answers of the model in their cases: a model in its fields, and a rate code's frame rate.
-- Assumes nothing.
use mathlib.Core.Path.{◌≡◌, refl, ap, subst}
use mathlib.Core.Bool.{Bool, true, false, ◌&&◌}
use Prim.Native.Nat.{ℕ, ◌+◌, ◌*◌, ◌/◌, ◌%◌, ◌≤◌}
use native.Mathlib.Omega.{arith}
use native.Mathlib.Nat.{div-add-mod', zero-div, zero-mod, mul-le-mul}
use lib.Dec.{leb, eqb}
use borrow.Author.Tests.{eqb-true, eqb-false, leb-true, le-leb}
use Rattle.bits.specs.Refusals.{Answer, value, refused, and_then}
use Rattle.bits.proofs.Flags.{pick_elim, held, was_held, both_true}
use Rattle.vbv.specs.Annex.{unit}
use Rattle.vbv.specs.Answers.{code_rate, frame_rate}
use Rattle.vbv.specs.Model.{delivered, at_delivered, after_removal}
use Rattle.vbv.specs.declared.VbvParams.{VbvParams}
use Rattle.vbv.specs.declared.VbvCbrModel.{VbvCbrModel}
use Rattle.bits.proofs.Following.{refused-value}

-- a model in its fields
abbrev pub model_at : VbvParams → ℕ → ℕ → ℕ → Bool → VbvCbrModel
model_at p d end removed started =
    record { params = p; whole = d / unit p; rest = d % unit p; prev_end_bits = end; removed = removed; started = started }

pub after_is : (m : VbvCbrModel) (end d : ℕ) → after_removal m end d ≡ model_at m.params d end (m.removed + 1) true
unfolding after_removal
after_is m end d = refl

pub at_is : (m : VbvCbrModel) (d : ℕ) → at_delivered m d ≡ model_at m.params d m.prev_end_bits m.removed true
unfolding at_delivered
at_is m d = refl

pub delivered-of : (p : VbvParams) (d end removed : ℕ) (started : Bool) → delivered (model_at p d end removed started) ≡ d
unfolding delivered
delivered-of p d end removed started = div-add-mod' d (unit p)

pub zero-model : (p : VbvParams)
    → model_at p 0 0 0 false ≡ record { params = p; whole = 0; rest = 0; prev_end_bits = 0; removed = 0; started = false }
zero-model p = rw (zero-div, zero-mod)

-- a rate code's frame rate in its bounds, at most so many times up and down; and which code has none
pub data RateCode (c up down : ℕ) : Answer (ℕ × ℕ) → Type 0 where
  known : {n d : ℕ} → 1 ≤ c → c ≤ 8 → 1 ≤ n → n ≤ 60000 * up → 1 ≤ d → d ≤ 1001 * down → RateCode c up down (value (n, d))
  unknown : (1 ≤ c → c ≤ 8 → ⊥) → RateCode c up down (refused 6 0 0 0)

pub code_rate_lem : (c : ℕ) → RateCode c 1 1 (code_rate c)
unfolding code_rate
code_rate_lem c =
    pick_elim P _ (λ e. known (omega (arith, eqb-true c 1 e)) (omega (arith, eqb-true c 1 e)) (omega arith) (omega arith) (omega arith) (omega arith)) λ h1.
    pick_elim P _ (λ e. known (omega (arith, eqb-true c 2 e)) (omega (arith, eqb-true c 2 e)) (omega arith) (omega arith) (omega arith) (omega arith)) λ h2.
    pick_elim P _ (λ e. known (omega (arith, eqb-true c 3 e)) (omega (arith, eqb-true c 3 e)) (omega arith) (omega arith) (omega arith) (omega arith)) λ h3.
    pick_elim P _ (λ e. known (omega (arith, eqb-true c 4 e)) (omega (arith, eqb-true c 4 e)) (omega arith) (omega arith) (omega arith) (omega arith)) λ h4.
    pick_elim P _ (λ e. known (omega (arith, eqb-true c 5 e)) (omega (arith, eqb-true c 5 e)) (omega arith) (omega arith) (omega arith) (omega arith)) λ h5.
    pick_elim P _ (λ e. known (omega (arith, eqb-true c 6 e)) (omega (arith, eqb-true c 6 e)) (omega arith) (omega arith) (omega arith) (omega arith)) λ h6.
    pick_elim P _ (λ e. known (omega (arith, eqb-true c 7 e)) (omega (arith, eqb-true c 7 e)) (omega arith) (omega arith) (omega arith) (omega arith)) λ h7.
    pick_elim P _ (λ e. known (omega (arith, eqb-true c 8 e)) (omega (arith, eqb-true c 8 e)) (omega arith) (omega arith) (omega arith) (omega arith)) λ h8.
    unknown (λ l h. omega (arith, h, up 8 h8 (up 7 h7 (up 6 h6 (up 5 h5 (up 4 h4 (up 3 h3 (up 2 h2 (up 1 h1 l)))))))))
  where
    P : Answer (ℕ × ℕ) → Type 0
    P a = RateCode c 1 1 a

    up : (k : ℕ) → eqb c k ≡ false → k ≤ c → k + 1 ≤ c
    up k e l = omega (arith, l, eqb-false c k e)

pub code_bounds : (c n d : ℕ) → code_rate c ≡ value (n, d) → (n ≤ 60000) × (d ≤ 1001)
code_bounds c n d = go (code_rate_lem c)
  where
    go : {x : Answer (ℕ × ℕ)} → RateCode c 1 1 x → x ≡ value (n, d) → (n ≤ 60000) × (d ≤ 1001)
    go (known {n = a} {d = b} i j k m o q) e =
        let f : ◌≡◌ {A = ℕ × ℕ} (a, b) (n, d) = cc in
        let g : a ≡ n = ap (λ (y : ℕ × ℕ). y.0) f in
        let h : b ≡ d = ap (λ (y : ℕ × ℕ). y.1) f in
        (omega arith, omega arith)
    go (unknown z) e = absurd (refused-value e)

-- with extensions
pub rate-code : (c n d : ℕ) → n ≤ 3 → d ≤ 31 → RateCode c 4 32 (frame_rate c n d)
unfolding frame_rate
rate-code c n d l h = subst (RateCode c 4 32) (held (leb n 3 && leb d 31) _ _ (rw (le-leb n 3 l, le-leb d 31 h)) refl) (go (code_rate_lem c))
  where
    go : {x : Answer (ℕ × ℕ)} → RateCode c 1 1 x → RateCode c 4 32 (and_then x (λ f. value (f.0 * (n + 1), f.1 * (d + 1))))
    go (known {n = a} {d = b} i j k m o q) =
        known i j
        (mul-le-mul {n₁ = 1} {m₁ = 1} {n₂ = a} {m₂ = n + 1} k (omega arith))
        (omega (arith, mul-le-mul {n₁ = a} {m₁ = n + 1} {n₂ = 60000} {m₂ = 4} (omega arith) (omega arith)))
        (mul-le-mul {n₁ = 1} {m₁ = 1} {n₂ = b} {m₂ = d + 1} o (omega arith))
        (omega (arith, mul-le-mul {n₁ = b} {m₁ = d + 1} {n₂ = 1001} {m₂ = 32} (omega arith) (omega arith)))
    go (unknown z) = unknown z

-- a frame rate that was found is in paper 01's ranges
pub frames-found : (c n d : ℕ) (f : ℕ × ℕ) → frame_rate c n d ≡ value f → (1 ≤ f.0) × (f.0 ≤ 240000) × (1 ≤ f.1) × (f.1 ≤ 32032)
unfolding frame_rate
frames-found c n d f e =
    let w = was_held (leb n 3 && leb d 31) _ _ refused-value e in
    let b = both_true (leb n 3) (leb d 31) w.0 in
    go (rate-code c n d (leb-true n 3 b.0) (leb-true d 31 b.1)) e
  where
    go : {x : Answer (ℕ × ℕ)} → RateCode c 4 32 x → x ≡ value f → (1 ≤ f.0) × (f.0 ≤ 240000) × (1 ≤ f.1) × (f.1 ≤ 32032)
    go (known {n = a} {d = b} i j k m o q) e = let g : ◌≡◌ {A = ℕ × ℕ} (a, b) f = cc in rw (← g) (k, (omega arith), o, (omega arith))
    go (unknown z) e = absurd (refused-value e)
