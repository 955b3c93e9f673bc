-- Zero bytes passed over, the prefix 00 00 01, and where next_start_code() finds it.
-- Assumes nothing.
use mathlib.Core.Path.{◌≡◌, refl, sym, ap, ◌∙◌}
use mathlib.Core.List.{List, [], ◌∷◌, ◌++◌}
use mathlib.Core.Bool.{Bool, true, false, not}
use Prim.Native.Nat.{ℕ, zero, suc, ◌+◌, ◌-◌, ◌≤◌, ◌<◌}
use native.Mathlib.Numerals.{add-one}
use native.Mathlib.Omega.{arith}
use lib.Dec.{eqb, leb}
use lib.ListN.{length, get_or, take, drop, length-drop, drop_of_length-le}
use lib.Seq.{drop-cons, drop-append-le, take-append-le}
use borrow.Author.Tests.{eqb-true, eqb-false, le-leb}
use Rattle.bits.specs.Bits.{pick}
use Rattle.bits.specs.Refusals.{value, refused}
use Rattle.bits.specs.Fields.{same_bytes}
use Rattle.bits.specs.StartCodes.{start_code_prefix}
use Rattle.bits.proofs.Flags.{clash}
use Rattle.bits.proofs.Reading.{same_bytes_lem, same_self, same_not}
use Rattle.headers.specs.StartCode.{leading_zeros, prefix_at, next_start_code}

-- the first byte from byte k on that is not zero: k itself past the end or where it is not zero, else the first from k + 1 on
module _ (s : List ℕ) (k : ℕ) where
  pub zeros_past : length s ≤ k → k + leading_zeros (drop k s) ≡ k
  unfolding leading_zeros
  zeros_past h = rw (drop_of_length-le s h) (omega arith)

  pub zeros_none : k < length s → eqb (get_or s k 0) 0 ≡ false → k + leading_zeros (drop k s) ≡ k
  unfolding leading_zeros
  zeros_none h n = rw (drop-cons s k 0 h) (first (get_or s k 0) (eqb-false (get_or s k 0) 0 n))
    where
      first : (b : ℕ) → (b ≡ 0 → ⊥) → k + leading_zeros (b ∷ drop (suc k) s) ≡ k
      first zero m = absurd (m refl)
      first (suc b) m = omega arith

  pub zeros_more : k < length s → eqb (get_or s k 0) 0 ≡ true → k + leading_zeros (drop k s) ≡ k + 1 + leading_zeros (drop (k + 1) s)
  unfolding leading_zeros
  zeros_more h z = rw (add-one k, drop-cons s k 0 h, eqb-true (get_or s k 0) 0 z) (omega arith)

pub zeros_zero : (s : List ℕ) (k : ℕ) → k < leading_zeros s → ◌≡◌ {A = ℕ} (get_or s k 0) 0
unfolding leading_zeros
zeros_zero [] k h = refl
zeros_zero (zero ∷ s) zero h = refl
zeros_zero (zero ∷ s) (suc k) h = zeros_zero s k (omega arith)
zeros_zero (suc b ∷ s) k h = absurd (omega arith)

pub zeros_append : (s t : List ℕ) → leading_zeros s < length s → leading_zeros (s ++ t) ≡ leading_zeros s
unfolding leading_zeros
zeros_append [] t h = omega arith
zeros_append (zero ∷ s) t h = ap suc (zeros_append s t (omega arith))
zeros_append (suc b ∷ s) t h = refl

-- there are two or more just where the first two bytes are zero
pub zeros_test : (s : List ℕ) → same_bytes (take 2 s) (0 ∷ 0 ∷ []) ≡ leb 2 (leading_zeros s)
unfolding leading_zeros
zeros_test [] = same_not [] (0 ∷ 0 ∷ []) (λ e. clash cc)
zeros_test (zero ∷ []) = same_not (0 ∷ []) (0 ∷ 0 ∷ []) (λ e. clash cc)
zeros_test (suc a ∷ []) = same_not (suc a ∷ []) (0 ∷ 0 ∷ []) (λ e. clash cc)
zeros_test (zero ∷ zero ∷ s) = same_self (0 ∷ 0 ∷ []) ∙ sym (le-leb 2 (suc (suc (leading_zeros s))) (omega arith))
zeros_test (zero ∷ suc b ∷ s) = same_not (0 ∷ suc b ∷ []) (0 ∷ 0 ∷ []) (λ e. let z : suc b ≡ 0 = cc in omega arith)
zeros_test (suc a ∷ b ∷ s) = same_not (suc a ∷ b ∷ []) (0 ∷ 0 ∷ []) (λ e. let z : suc a ≡ 0 = cc in omega arith)

-- the prefix
pub prefix_is : (s : List ℕ) (p : ℕ) → prefix_at s p ≡ same_bytes (take 3 (drop p s)) start_code_prefix
unfolding prefix_at
prefix_is s p = refl

pub record Prefix (s : List ℕ) (p : ℕ) : Type 0 where
  pub room : p + 3 ≤ length s
  pub is : take 3 (drop p s) ≡ start_code_prefix

pub prefix_true : (s : List ℕ) (p : ℕ) → prefix_at s p ≡ true → Prefix s p
unfolding prefix_at
prefix_true s p e =
    let q = same_bytes_lem (take 3 (drop p s)) start_code_prefix e in
    record { room = long (drop p s) q (length-drop p s); is = q }
  where
    long : (d : List ℕ) → take 3 d ≡ start_code_prefix → length d ≡ length s - p → p + 3 ≤ length s
    long [] q l = absurd (clash cc)
    long (a ∷ []) q l = absurd (clash cc)
    long (a ∷ b ∷ []) q l = absurd (clash cc)
    long (a ∷ b ∷ c ∷ d) q l = omega arith

-- a prefix at byte 0 has two zeros to pass over, so that none ends before byte 2
first_zeros : (s : List ℕ) (k : ℕ) → take 3 s ≡ start_code_prefix → 2 ≤ k + leading_zeros (drop k s)
unfolding leading_zeros
first_zeros [] k q = absurd (clash cc)
first_zeros (suc a ∷ s) k q = let z : suc a ≡ 0 = cc in omega arith
first_zeros (zero ∷ []) k q = absurd (clash cc)
first_zeros (zero ∷ suc b ∷ s) k q = let z : suc b ≡ 0 = cc in omega arith
first_zeros (zero ∷ zero ∷ s) zero q = omega arith
first_zeros (zero ∷ zero ∷ s) (suc zero) q = omega arith
first_zeros (zero ∷ zero ∷ s) (suc (suc k)) q = omega arith

prefix_early : (s : List ℕ) (k : ℕ) → k + leading_zeros (drop k s) < 2 → prefix_at s 0 ≡ false
prefix_early s k h = case (prefix_at s 0) refl
  where
    case : (b : Bool) → prefix_at s 0 ≡ b → prefix_at s 0 ≡ false
    case true e = absurd (omega (arith, first_zeros s k (prefix_true s 0 e).is))
    case false e = e

-- the three ways that next_start_code() goes; e is the first byte that is not zero
module _ (s : List ℕ) (k e : ℕ) (h : e ≡ k + leading_zeros (drop k s)) where
  pub next-early : e < 2 → next_start_code s k ≡ refused 2 0 0 0
  unfolding next_start_code pick
  next-early l =
      let z : k + leading_zeros (drop k s) - 2 ≡ 0 = omega arith in
      rw (z, prefix_early s k (omega arith))

  pub next_missing : prefix_at s (e - 2) ≡ false → next_start_code s k ≡ refused 2 0 0 0
  unfolding next_start_code pick
  next_missing q = rw (← h, q)

  pub next-at : prefix_at s (e - 2) ≡ true → next_start_code s k ≡ value (e - 2)
  unfolding next_start_code pick
  next-at q = rw (← h, q)

-- at byte k itself, where it stands there
pub next_here : (s : List ℕ) (k : ℕ) → prefix_at s k ≡ true → next_start_code s k ≡ value k
unfolding leading_zeros
next_here s k e =
    let z : k + 2 - 2 ≡ k = omega arith in
    next-at s k (k + 2) (ap (λ (n : ℕ). k + n) (sym (two (drop k s) (prefix_true s k e).is))) (rw z e) ∙ ap value z
  where
    two : (d : List ℕ) → take 3 d ≡ start_code_prefix → leading_zeros d ≡ 2
    two [] q = absurd (clash cc)
    two (a ∷ []) q = absurd (clash cc)
    two (a ∷ b ∷ []) q = absurd (clash cc)
    two (a ∷ b ∷ c ∷ d) q =
        let x : a ≡ 0 = cc in
        let y : b ≡ 0 = cc in
        let z : c ≡ 1 = cc in
        rw (x, y, z)

-- what a prefix that was found says: it stands there, and ends with the first byte that is not zero
pub record Found (s : List ℕ) (k p : ℕ) : Type 0 where
  pub prefix : Prefix s p
  pub ends : p + 2 ≡ k + leading_zeros (drop k s)

pub next-found : (s : List ℕ) (k p : ℕ) → next_start_code s k ≡ value p → Found s k p
unfolding next_start_code pick
next-found s k p e = case (prefix_at s (k + leading_zeros (drop k s) - 2)) refl e
  where
    late : (q : ℕ) → q ≡ k + leading_zeros (drop k s) - 2 → Prefix s q → q + 2 ≡ k + leading_zeros (drop k s)
    late zero x r = omega (arith, first_zeros s k r.is)
    late (suc q) x r = omega arith

    case : (b : Bool) → prefix_at s (k + leading_zeros (drop k s) - 2) ≡ b → pick (not b) (refused 2 0 0 0) (value (k + leading_zeros (drop k s) - 2)) ≡ value p → Found s k p
    case true t q =
        let x : p ≡ k + leading_zeros (drop k s) - 2 = cc in
        let r = prefix_true s p (rw x t) in
        record { prefix = r; ends = late p x r }
    case false t q = absurd (clash cc)

-- it is the same in a list with the same bytes from k on and from it on
pub next-same : (s t : List ℕ) (k p : ℕ) → drop k t ≡ drop k s → drop p t ≡ drop p s → next_start_code s k ≡ value p → next_start_code t k ≡ value p
unfolding next_start_code prefix_at
next-same s t k p a b e =
    let f = next-found s k p e in
    let q : k + leading_zeros (drop k s) - 2 ≡ p = omega (arith, f.ends) in
    let g : drop (k + leading_zeros (drop k s) - 2) t ≡ drop (k + leading_zeros (drop k s) - 2) s = rw q b in
    rw (a, g) e

-- what stands after does not move it
pub next-append : (s t : List ℕ) (k p : ℕ) → next_start_code s k ≡ value p → next_start_code (s ++ t) k ≡ value p
unfolding prefix_at
next-append s t k p e =
    let f = next-found s k p e in
    let r : p + 3 ≤ length s = f.prefix.room in
    let d : drop k (s ++ t) ≡ drop k s ++ t = drop-append-le k s t (omega arith) in
    let l : leading_zeros (drop k s) < length (drop k s) = omega (arith, length-drop k s) in
    let z : leading_zeros (drop k (s ++ t)) ≡ leading_zeros (drop k s) = rw (d, zeros_append (drop k s) t l) in
    let m : 3 ≤ length (drop p s) = omega (arith, length-drop p s) in
    let w : k + leading_zeros (drop k s) - 2 ≡ p = omega arith in
    let q : prefix_at (s ++ t) (k + leading_zeros (drop k s) - 2) ≡ true =
    rw (w, drop-append-le p s t (omega arith), take-append-le 3 (drop p s) t m, f.prefix.is) (same_self start_code_prefix) in
    next-at (s ++ t) k (k + leading_zeros (drop k s)) (rw z) q ∙ ap value w
