-- The start codes of two parts laid end to end.
-- Assumes nothing.
use mathlib.Core.Path.{◌≡◌, refl, sym, ap, ◌∙◌}
use Prim.Native.Nat.{ℕ, zero, suc, ◌+◌, ◌≤◌}
use mathlib.Core.List.{List, [], ◌∷◌, ◌++◌, map}
use mathlib.Core.Bool.{Bool, true, false, not, ◌&&◌, and-false, false≢true}
use native.Mathlib.Omega.{arith}
use native.Mathlib.Nat.{add-suc, add-zero, zero-add}
use lib.ListN.{length, get_or, replicate}
use lib.Dec.{eqb}
use borrow.Author.Tests.{not-true}
use Rattle.bits.specs.Bits.{pick}
use Rattle.bits.specs.Fields.{same_bytes}
use Rattle.bits.specs.StartCodes.{start_code_prefix}
use Rattle.bits.proofs.Flags.{and_left, and_right, clash}
use Rattle.bits.proofs.Reading.{same_self, same_more, same_not}
use Rattle.scan.specs.declared.StartCode.{StartCode}
use Rattle.scan.specs.Codes.{starts, codes_from, codes, ends_prefix}
use Rattle.scan.proofs.Prefix.{starts_four, starts_is, starts_long, starts-before, ends-few, ends-here, ends_tail, ends_neither}

-- ---- bytes that complete no prefix which another part began

-- they begin with neither 01 nor 00 01
unfoldable pub fresh : List ℕ → Bool
fresh [] = true
fresh (a ∷ []) = not (eqb a 1)
fresh (a ∷ b ∷ s) = not (eqb a 1) && not (eqb a 0 && eqb b 1)

fresh_1 : (q : ℕ) (y : List ℕ) → fresh (q ∷ y) ≡ true → eqb q 1 ≡ false
unfolding fresh
fresh_1 q [] e = not-true (eqb q 1) e
fresh_1 q (r ∷ y) e = not-true (eqb q 1) (and_left _ _ e)

fresh_2 : (q r : ℕ) (y : List ℕ) → fresh (q ∷ r ∷ y) ≡ true → (eqb q 0 && eqb r 1) ≡ false
unfolding fresh
fresh_2 q r y e = not-true (eqb q 0 && eqb r 1) (and_right (not (eqb q 1)) _ e)

-- ---- a code begins in x: the bytes after x change nothing

starts-append : (b : ℕ) (x y : List ℕ) → ends_prefix (b ∷ x) ≡ false → fresh y ≡ true → starts (b ∷ (x ++ y)) ≡ starts (b ∷ x)
unfolding starts
starts-append b [] [] p f = refl
starts-append b [] (q ∷ []) p f = refl
starts-append b [] (q ∷ r ∷ y) p f = starts_is (b ∷ q ∷ r ∷ y) ∙ rw (fresh_2 q r y f, and-false, and-false)
starts-append b (c ∷ []) [] p f = refl
starts-append b (c ∷ []) (q ∷ y) p f = starts_is (b ∷ c ∷ q ∷ y) ∙ rw (fresh_1 q y f, and-false, and-false, and-false)
starts-append b (c ∷ d ∷ []) [] p f = refl
starts-append b (c ∷ d ∷ []) (q ∷ y) p f = rw (ends-here b (c ∷ d ∷ []) p, and-false)
starts-append b (c ∷ d ∷ e ∷ x) y p f = starts_four b c d e (x ++ y) ∙ sym (starts_four b c d e x)

fourth-append : (b : ℕ) (x y : List ℕ) → starts (b ∷ x) ≡ true → get_or (b ∷ (x ++ y)) 3 0 ≡ get_or (b ∷ x) 3 0
unfolding starts
fourth-append b [] y h = cc
fourth-append b (c ∷ []) y h = cc
fourth-append b (c ∷ d ∷ []) y h = cc
fourth-append b (c ∷ d ∷ e ∷ x) y h = refl

pub codes_from-append : (x y : List ℕ) (o k : ℕ) → k ≤ length x → ends_prefix x ≡ false → fresh y ≡ true
    → codes_from o k (x ++ y) ≡ codes_from o k x ++ codes_from (o + length x) 0 y
unfolding codes_from
codes_from-append [] y o zero h p f = rw add-zero
codes_from-append [] y o (suc k) h p f = absurd (omega arith)
codes_from-append (b ∷ x) y o (suc k) h p f =
    let e : o + suc (length x) ≡ suc o + length x = omega arith in
    rw e (codes_from-append x y (suc o) k (omega arith) (ends_tail b x p) f)
codes_from-append (b ∷ x) y o zero h p f =
    let e : o + suc (length x) ≡ suc o + length x = omega arith in
    rw (e, starts-append b x y p f)
    (go (λ k h. codes_from-append x y (suc o) k h (ends_tail b x p) f) (starts (b ∷ x)) refl)
  where
    go : ((k : ℕ) → k ≤ length x → codes_from (suc o) k (x ++ y) ≡ codes_from (suc o) k x ++ codes_from (suc o + length x) 0 y)
        → (t : Bool) → starts (b ∷ x) ≡ t
        → pick t (record { offset = o; code = get_or (b ∷ (x ++ y)) 3 0 } ∷ codes_from (suc o) 3 (x ++ y)) (codes_from (suc o) 0 (x ++ y))
        ≡ pick t (record { offset = o; code = get_or (b ∷ x) 3 0 } ∷ codes_from (suc o) 3 x) (codes_from (suc o) 0 x) ++ codes_from (suc o + length x) 0 y
    go ih true q = rw (fourth-append b x y q, ih 3 (omega (arith, starts_long (b ∷ x) q)))
    go ih false q = ih 0 (omega arith)

-- ---- moved on

-- a code moved on by d bytes
unfoldable pub moved : ℕ → StartCode → StartCode
moved d c = record { offset = d + c.offset; code = c.code }

pub codes_from_moved : (d o k : ℕ) (s : List ℕ) → codes_from (d + o) k s ≡ map (moved d) (codes_from o k s)
unfolding codes_from moved
codes_from_moved d o k [] = refl
codes_from_moved d o (suc k) (b ∷ s) = rw (← add-suc d o) (codes_from_moved d (suc o) k s)
codes_from_moved d o zero (b ∷ s) = rw (← add-suc d o) (go (codes_from_moved d (suc o) 3 s) (codes_from_moved d (suc o) 0 s) (starts (b ∷ s)))
  where
    go : codes_from (d + suc o) 3 s ≡ map (moved d) (codes_from (suc o) 3 s) → codes_from (d + suc o) 0 s ≡ map (moved d) (codes_from (suc o) 0 s)
        → (t : Bool)
        → pick t (record { offset = d + o; code = get_or (b ∷ s) 3 0 } ∷ codes_from (d + suc o) 3 s) (codes_from (d + suc o) 0 s)
        ≡ map (moved d) (pick t (record { offset = o; code = get_or (b ∷ s) 3 0 } ∷ codes_from (suc o) 3 s) (codes_from (suc o) 0 s))
    go i3 i0 true = rw i3
    go i3 i0 false = i0

-- ---- the law

pub codes-append : (x y : List ℕ) → ends_prefix x ≡ false → fresh y ≡ true → codes (x ++ y) ≡ codes x ++ map (moved (length x)) (codes y)
unfolding codes
codes-append x y p f =
    codes_from-append x y 0 0 (omega arith) p f ∙ ap (λ l. codes_from 0 0 x ++ l) (rw zero-add (rw add-zero at (codes_from_moved (length x) 0 0 y)))

-- what is fresh: nothing, zeros, and zeros before 00 00 01
pub fresh_code : (s : List ℕ) → fresh (0 ∷ 0 ∷ 1 ∷ s) ≡ true
unfolding fresh
fresh_code s = refl

pub fresh_zeros : (n : ℕ) (s : List ℕ) → fresh s ≡ true → fresh (replicate n 0 ++ s) ≡ true
unfolding fresh
fresh_zeros zero s f = f
fresh_zeros (suc zero) [] f = refl
fresh_zeros (suc zero) (b ∷ s) f = rw (fresh_1 b s f)
fresh_zeros (suc (suc n)) s f = refl

-- ---- the conditions hold of longer parts

prefix_append : (b : ℕ) (x y : List ℕ) → same_bytes (b ∷ x) start_code_prefix ≡ false → fresh y ≡ true → same_bytes (b ∷ (x ++ y)) start_code_prefix ≡ false
unfolding fresh
prefix_append b x y p f = same_not (b ∷ (x ++ y)) start_code_prefix (go x p)
  where
    go : (x : List ℕ) → same_bytes (b ∷ x) start_code_prefix ≡ false → b ∷ (x ++ y) ≡ start_code_prefix → ⊥
    go [] p e = let q : y ≡ 0 ∷ 1 ∷ [] = cc in false≢true (rw q at (f))
    go (c ∷ []) p e = let q : y ≡ 1 ∷ [] = cc in false≢true (rw q at (f))
    go (c ∷ d ∷ []) p e = let q : b ∷ c ∷ d ∷ [] ≡ start_code_prefix = cc in false≢true (sym p ∙ rw q (same_self start_code_prefix))
    go (c ∷ d ∷ a ∷ x) p e = absurd (clash cc)

pub ends-append : (x y : List ℕ) → ends_prefix x ≡ false → fresh y ≡ true → ends_prefix y ≡ false → ends_prefix (x ++ y) ≡ false
ends-append [] y p f q = q
ends-append (b ∷ x) y p f q =
    ends_neither b (x ++ y) (prefix_append b x y (ends-here b x p) f) (ends-append x y (ends_tail b x p) f q)

-- ---- zeros

pub codes_from_zeros : (n o k : ℕ) → codes_from o k (replicate n 0) ≡ []
unfolding codes_from
codes_from_zeros zero o k = refl
codes_from_zeros (suc n) o (suc k) = codes_from_zeros n (suc o) k
codes_from_zeros (suc n) o zero = rw (starts_zeros n) (codes_from_zeros n (suc o) 0)
  where
    starts_zeros : (n : ℕ) → starts (0 ∷ replicate n 0) ≡ false
    starts_zeros zero = refl
    starts_zeros (suc zero) = refl
    starts_zeros (suc (suc n)) = starts-before 0 0 (replicate n 0)

pub ends_zeros : (n : ℕ) → ends_prefix (replicate n 0) ≡ false
ends_zeros zero = sym (ends-few [] (omega arith))
ends_zeros (suc n) = ends_neither 0 (replicate n 0) (no_prefix n) (ends_zeros n)
  where
    no_prefix : (n : ℕ) → same_bytes (0 ∷ replicate n 0) start_code_prefix ≡ false
    no_prefix zero = same_not _ _ (λ e. absurd (clash cc))
    no_prefix (suc zero) = same_not _ _ (λ e. absurd (clash cc))
    no_prefix (suc (suc n)) = rw (same_more, same_more, same_more)
