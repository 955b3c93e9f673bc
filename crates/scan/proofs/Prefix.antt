-- Where a start code begins, by its bytes, and which bytes end 00 00 01.
-- Assumes nothing.
use mathlib.Core.Path.{◌≡◌, refl, sym, ap, ◌∙◌}
use Prim.Native.Nat.{ℕ, suc, ◌+◌, ◌-◌, ◌≤◌, ◌<◌}
use mathlib.Core.List.{List, [], ◌∷◌}
use mathlib.Core.Bool.{false, true, ◌&&◌, ◌||◌, and-false, and-true, or-false}
use native.Mathlib.Omega.{arith}
use lib.Dec.{eqb, leb}
use lib.ListN.{length, get_or, drop, length-drop}
use lib.Seq.{drop-drop}
use borrow.Author.Tests.{leb-true, le-leb, ne_eqb}
use Rattle.bits.specs.Fields.{same_bytes}
use Rattle.bits.specs.StartCodes.{start_code_prefix}
use Rattle.bits.proofs.Flags.{and_left, or_left, or_right}
use Rattle.bits.proofs.Reading.{same_none, same_more, same_self, same_not}
use Rattle.scan.specs.Codes.{starts, ends_prefix}

-- ---- a start code

pub starts_four : (a b c d : ℕ) (s : List ℕ) → starts (a ∷ b ∷ c ∷ d ∷ s) ≡ (eqb a 0 && (eqb b 0 && eqb c 1))
unfolding starts
starts_four a b c d s =
    let h : 4 ≤ length (a ∷ b ∷ c ∷ d ∷ s) = omega arith in
    rw (le-leb 4 (length (a ∷ b ∷ c ∷ d ∷ s)) h, same_more, same_more, same_more, same_none, and-true)

-- by index
pub starts_is : (s : List ℕ) → starts s ≡ (leb 4 (length s) && (eqb (get_or s 0 0) 0 && (eqb (get_or s 1 0) 0 && eqb (get_or s 2 0) 1)))
unfolding starts
starts_is [] = refl
starts_is (a ∷ []) = refl
starts_is (a ∷ b ∷ []) = refl
starts_is (a ∷ b ∷ c ∷ []) = refl
starts_is (a ∷ b ∷ c ∷ d ∷ s) = rw (same_more, same_more, same_more, same_none, and-true)

pub starts_long : (s : List ℕ) → starts s ≡ true → 4 ≤ length s
unfolding starts
starts_long s h = leb-true 4 (length s) (and_left _ _ h)

-- none begins at a byte that is not zero, at one whose next is not zero, where the third byte is not 01, or before two zero bytes
pub starts_first : (a : ℕ) (s : List ℕ) → (a ≡ 0 → ⊥) → starts (a ∷ s) ≡ false
starts_first a s n = starts_is (a ∷ s) ∙ rw (ne_eqb a 0 n, and-false)

pub starts_second : (a b : ℕ) (s : List ℕ) → (b ≡ 0 → ⊥) → starts (a ∷ b ∷ s) ≡ false
starts_second a b s n = starts_is (a ∷ b ∷ s) ∙ rw (ne_eqb b 0 n, and-false, and-false)

pub starts_third : (s : List ℕ) → (get_or s 2 0 ≡ 1 → ⊥) → starts s ≡ false
starts_third s n = starts_is s ∙ rw (ne_eqb (get_or s 2 0) 1 n, and-false, and-false, and-false)

pub starts-before : (a b : ℕ) (s : List ℕ) → starts (a ∷ b ∷ 0 ∷ s) ≡ false
starts-before a b s = starts_third (a ∷ b ∷ 0 ∷ s) (λ e. omega arith)

-- ---- the bytes end 00 00 01

no_prefix : (s : List ℕ) → (length s ≡ 3 → ⊥) → same_bytes s start_code_prefix ≡ false
no_prefix s n = same_not s start_code_prefix (λ e. n (ap length e))

-- the last three bytes tell it; where there are fewer, all of them
pub ends-last_three : (s : List ℕ) → same_bytes (drop (length s - 3) s) start_code_prefix ≡ ends_prefix s
unfolding ends_prefix
ends-last_three s = refl

-- fewer than three do not
pub ends-few : (s : List ℕ) → length s < 3 → false ≡ ends_prefix s
unfolding ends_prefix
ends-few s h = sym (no_prefix (drop (length s - 3) s) (λ e. omega (arith, length-drop (length s - 3) s)))

pub ends-drop : (n : ℕ) (s : List ℕ) → n + 3 ≤ length s → ends_prefix s ≡ ends_prefix (drop n s)
unfolding ends_prefix
ends-drop n s h =
    let e : n + (length (drop n s) - 3) ≡ length s - 3 = omega (arith, length-drop n s) in
    rw (drop-drop (length (drop n s) - 3) n s, e)

pub ends_prefix_lem : ends_prefix start_code_prefix ≡ true
unfolding ends_prefix
ends_prefix_lem = same_self start_code_prefix

-- they are 00 00 01, or those after the first end so
ends_more : (b : ℕ) (s : List ℕ) → ends_prefix (b ∷ s) ≡ (same_bytes (b ∷ s) start_code_prefix || ends_prefix s)
unfolding ends_prefix
ends_more b [] = rw (no_prefix [] (λ e. omega arith), or-false)
ends_more b (c ∷ []) = rw (no_prefix (c ∷ []) (λ e. omega arith), or-false)
ends_more b (c ∷ d ∷ []) = rw (no_prefix (c ∷ d ∷ []) (λ e. omega arith), or-false)
ends_more b (c ∷ d ∷ e ∷ s) =
    let k : length (b ∷ c ∷ d ∷ e ∷ s) - 3 ≡ suc (length (c ∷ d ∷ e ∷ s) - 3) = omega arith in
    rw (no_prefix (b ∷ c ∷ d ∷ e ∷ s) (λ q. omega arith), k)

module _ (b : ℕ) (s : List ℕ) (p : ends_prefix (b ∷ s) ≡ false) where
  pub ends-here : same_bytes (b ∷ s) start_code_prefix ≡ false
  ends-here = or_left _ _ (sym (ends_more b s) ∙ p)

  pub ends_tail : ends_prefix s ≡ false
  ends_tail = or_right (same_bytes (b ∷ s) start_code_prefix) _ (sym (ends_more b s) ∙ p)

-- and back
pub ends_neither : (b : ℕ) (s : List ℕ) → same_bytes (b ∷ s) start_code_prefix ≡ false → ends_prefix s ≡ false → ends_prefix (b ∷ s) ≡ false
ends_neither b s p q = ends_more b s ∙ rw (p, q)
