-- The places that a scan looks at: what one place adds, and how many they are at most.
-- Assumes nothing.
use mathlib.Core.Path.{◌≡◌, refl, ap, ◌∙◌}
use Prim.Native.Nat.{ℕ, zero, suc, ◌+◌, ◌-◌, ◌*◌, ◌≤◌, ◌<◌}
use mathlib.Core.List.{List, [], ◌∷◌}
use mathlib.Core.Bool.{Bool, true, false}
use native.Mathlib.Omega.{arith}
use lib.ListN.{length, drop, get_or, length-drop}
use lib.Seq.{drop-drop, get_or-drop}
use lib.Dec.{leb}
use borrow.Author.Tests.{ne_eqb, le-leb, lt-leb, leb-true, leb-false}
use Rattle.bits.specs.Bits.{pick}
use Rattle.scan.specs.Codes.{starts}
use Rattle.scan.specs.Scanned.{stride, looks, looked, looked_all, AboveOne}
use Rattle.scan.proofs.Prefix.{starts_long, starts_third}

-- ---- over a list

-- to pass over k bytes is to begin k bytes later
passing : (a : Bool) (k : ℕ) (l : List ℕ) → looks a k l ≡ looks a 0 (drop k l)
unfolding looks
passing a zero l = refl
passing a (suc k) [] = refl
passing a (suc k) (b ∷ l) = passing a k l

short : (a : Bool) (l : List ℕ) → length l < 4 → looks a 0 l ≡ 0
unfolding looks pick
short a [] h = refl
short a (b ∷ l) h = rw (lt-leb 4 (length (b ∷ l)) h)

-- one place
place : (a : Bool) (b : ℕ) (l : List ℕ)
    → looks a 0 (b ∷ l) ≡ pick (leb 4 (length (b ∷ l))) (suc (pick (starts (b ∷ l)) (pick a (looks a 3 l) 0) (looks a (stride (b ∷ l) - 1) l))) 0
unfolding looks
place a b l = refl

step : (a : Bool) (b : ℕ) (l : List ℕ) (t : Bool) → starts (b ∷ l) ≡ t → 4 ≤ length (b ∷ l)
    → looks a 0 (b ∷ l) ≡ suc (pick t (pick a (looks a 3 l) 0) (looks a (stride (b ∷ l) - 1) l))
unfolding pick
step a b l t e h = place a b l ∙ rw (le-leb 4 (length (b ∷ l)) h) (ap (λ x. suc (pick x (pick a (looks a 3 l) 0) (looks a (stride (b ∷ l) - 1) l))) e)

-- a code there
here : (a : Bool) (l : List ℕ) → starts l ≡ true → looks a 0 l ≡ suc (pick a (looks a 0 (drop 4 l)) 0)
unfolding pick
here a [] e = absurd (omega (arith, starts_long [] e))
here a (b ∷ l) e = step a b l true e (starts_long (b ∷ l) e) ∙ rw (passing a 3 l)

-- none there
on : (a : Bool) (b : ℕ) (l : List ℕ) → 4 ≤ length (b ∷ l) → starts (b ∷ l) ≡ false → looks a 0 (b ∷ l) ≡ suc (looks a (stride (b ∷ l) - 1) l)
unfolding pick
on a b l h e = step a b l false e h

stride-one : (l : List ℕ) → get_or l 2 0 ≡ 0 → stride l ≡ 1
unfolding stride pick
stride-one l z = rw z

stride_three : (l : List ℕ) → (get_or l 2 0 ≡ 0 → ⊥) → stride l ≡ 3
unfolding stride pick
stride_three l n = rw (ne_eqb (get_or l 2 0) 0 n)

one_on : (a : Bool) (l : List ℕ) → 4 ≤ length l → starts l ≡ false → get_or l 2 0 ≡ 0 → looks a 0 l ≡ suc (looks a 0 (drop 1 l))
one_on a [] h e z = absurd (omega arith)
one_on a (b ∷ l) h e z = on a b l h e ∙ rw (stride-one (b ∷ l) z)

three_on : (a : Bool) (l : List ℕ) → 4 ≤ length l → starts l ≡ false → (get_or l 2 0 ≡ 0 → ⊥) → looks a 0 l ≡ suc (looks a 0 (drop 3 l))
three_on a [] h e n = absurd (omega arith)
three_on a (b ∷ l) h e n = on a b l h e ∙ rw (stride_three (b ∷ l) n) (ap suc (passing a 2 l))

-- ---- in a stream

-- the places from offset i on: up to the first code, or all
unfoldable pub looked_from : Bool → List ℕ → ℕ → ℕ
looked_from a s i = looks a 0 (drop i s)

pub looked_all_is : (s : List ℕ) → looked_all s ≡ looked_from true s 0
unfolding looked_all looked_from
looked_all_is s = refl

pub looked_is : (s : List ℕ) (i : ℕ) → looked s i ≡ looked_from false s i
unfolding looked looked_from
looked_is s i = refl

module _ (a : Bool) (s : List ℕ) (i : ℕ) where
  pub none_left : length s < i + 4 → looked_from a s i ≡ 0
  unfolding looked_from
  none_left h = short a (drop i s) (simp length-drop (omega arith))

  pub at_code : starts (drop i s) ≡ true → looked_from a s i ≡ suc (pick a (looked_from a s (i + 4)) 0)
  unfolding looked_from
  at_code e = here a (drop i s) e ∙ rw (drop-drop 4 i s)

  long : i + 4 ≤ length s → 4 ≤ length (drop i s)
  long h = simp length-drop (omega arith)

  pub third_zero : i + 4 ≤ length s → starts (drop i s) ≡ false → get_or s (i + 2) 0 ≡ 0 → looked_from a s i ≡ suc (looked_from a s (i + 1))
  unfolding looked_from
  third_zero h e z = one_on a (drop i s) (long h) e (get_or-drop i s 2 0 ∙ z) ∙ rw (drop-drop 1 i s)

  pub third_other : i + 4 ≤ length s → starts (drop i s) ≡ false → (get_or s (i + 2) 0 ≡ 0 → ⊥) → looked_from a s i ≡ suc (looked_from a s (i + 3))
  unfolding looked_from
  third_other h e n = three_on a (drop i s) (long h) e (rw (get_or-drop i s 2 0) n) ∙ rw (drop-drop 3 i s)

-- ---- how many they are at most

-- a third of the bytes, where all are above 01
thirds : (a : Bool) (k : ℕ) (l : List ℕ) → k ≤ length l → ((j : ℕ) → j < length l → 1 < get_or l j 0) → 3 * looks a k l + k ≤ length l
unfolding looks
thirds a zero [] h f = omega arith
thirds a (suc k) [] h f = absurd (omega arith)
thirds a (suc k) (b ∷ l) h f =
    let r : 3 * looks a k l + k ≤ length l = thirds a k l (omega arith) (λ j q. f (suc j) (omega arith)) in
    omega arith
thirds a zero (b ∷ l) h f = go (λ q. thirds a 2 l q (λ j r. f (suc j) (omega arith))) (leb 4 (length (b ∷ l))) refl
  where
    go : (2 ≤ length l → 3 * looks a 2 l + 2 ≤ length l) → (t : Bool) → leb 4 (length (b ∷ l)) ≡ t → 3 * looks a 0 (b ∷ l) + 0 ≤ length (b ∷ l)
    go ih true e =
        let q : 4 ≤ length (b ∷ l) = leb-true _ _ e in
        let c : 1 < get_or (b ∷ l) 2 0 = f 2 (omega arith) in
        let m : stride (b ∷ l) ≡ 3 = stride_three (b ∷ l) (λ x. omega arith) in
        let r : looks a 0 (b ∷ l) ≡ suc (looks a 2 l) = on a b l q (starts_third (b ∷ l) (λ x. omega arith)) ∙ rw m in
        omega (arith, ih (omega arith))
    go ih false e =
        let q : length (b ∷ l) < 4 = leb-false _ _ e in
        let r : looks a 0 (b ∷ l) ≡ 0 = short a (b ∷ l) q in
        omega arith

pub third_left : (a : Bool) (s : List ℕ) (i : ℕ) → AboveOne s i → 3 * looked_from a s i ≤ length s - i
unfolding looked_from
third_left a s i f =
    omega (arith, length-drop i s, thirds a 0 (drop i s) (omega arith) (λ j q. rw (get_or-drop i s j 0) (f (i + j) (omega arith) (omega (arith, length-drop i s)))))

-- the places with four bytes from them on
one_place : (a : Bool) (b : ℕ) (l : List ℕ) (m : ℕ) → 4 ≤ length (b ∷ l) → ((k : ℕ) → looks a k l ≤ m) → looks a 0 (b ∷ l) ≤ suc m
unfolding pick
one_place a b l m h f = rw (step a b l (starts (b ∷ l)) refl h) (go (starts (b ∷ l)) a)
  where
    go : (t x : Bool) → suc (pick t (pick x (looks a 3 l) 0) (looks a (stride (b ∷ l) - 1) l)) ≤ suc m
    go true true = omega (arith, f 3)
    go true false = omega arith
    go false x = omega (arith, f (stride (b ∷ l) - 1))

places-left : (a : Bool) (k : ℕ) (l : List ℕ) → looks a k l ≤ length l - k - 3
unfolding looks
places-left a zero [] = omega arith
places-left a (suc k) [] = omega arith
places-left a (suc k) (b ∷ l) = omega (arith, places-left a k l)
places-left a zero (b ∷ l) = go (λ k. places-left a k l) (leb 4 (length (b ∷ l))) refl
  where
    go : ((k : ℕ) → looks a k l ≤ length l - k - 3) → (t : Bool) → leb 4 (length (b ∷ l)) ≡ t → looks a 0 (b ∷ l) ≤ length (b ∷ l) - 0 - 3
    go ih true e =
        let q : 4 ≤ length (b ∷ l) = leb-true _ _ e in
        let r : looks a 0 (b ∷ l) ≤ suc (length l - 3) = one_place a b l (length l - 3) q (λ k. omega (arith, ih k)) in
        omega arith
    go ih false e =
        let r : looks a 0 (b ∷ l) ≡ 0 = short a (b ∷ l) (leb-false _ _ e) in
        omega arith

pub few-left : (a : Bool) (s : List ℕ) (i : ℕ) → looked_from a s i ≤ length s - i - 3
unfolding looked_from
few-left a s i = omega (arith, length-drop i s, places-left a 0 (drop i s))
