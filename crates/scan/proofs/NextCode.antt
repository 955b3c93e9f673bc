-- What the definition of the next code says at an index of the stream.
-- Assumes nothing.
use mathlib.Core.Path.{◌≡◌, refl, sym, ap, ◌∙◌}
use Prim.Native.Nat.{ℕ, suc, ◌+◌, ◌-◌, ◌≤◌, ◌<◌}
use mathlib.Core.List.{List, [], ◌∷◌}
use mathlib.Core.Bool.{Bool, true, false, ◌&&◌, and-false, and-true}
use native.Mathlib.Omega.{arith}
use native.Mathlib.Nat.{add-zero}
use native.Mathlib.Numerals.{add-one}
use lib.ListN.{length, take, drop, get_or, length-drop}
use lib.Seq.{drop-drop, get_or-drop}
use lib.Dec.{eqb, leb}
use borrow.Author.Tests.{ne_eqb, le-leb}
use Rattle.bits.specs.Bits.{pick}
use Rattle.bits.specs.Fields.{same_bytes}
use Rattle.bits.specs.StartCodes.{start_code_prefix, start_code, picture_start_code}
use Rattle.bits.proofs.Flags.{clash, both_true}
use Rattle.bits.proofs.Reading.{same_bytes_lem, same_more, same_none}
use Rattle.scan.specs.declared.StartCode.{StartCode}
use Rattle.std.specs.Prelude.{Option, Some, None}
use Rattle.scan.specs.Codes.{starts, codes_from, codes_at, found, next_code}
use Rattle.scan.proofs.Prefix.{starts_is, starts_four, starts_long, starts_third}
use Rattle.scan.proofs.Walk.{code_seen}

-- ---- over a list

abbrev pub code_at : ℕ → ℕ → StartCode
code_at o c = record { offset = o; code = c }

-- the first start code of the bytes `l`, which stand at offset `o` of the stream
unfoldable pub first_from : ℕ → List ℕ → Option StartCode
unfolding pick starts
first_from o [] = None
first_from o (b ∷ l) = pick (starts (b ∷ l)) (Some (record { offset = o; code = get_or (b ∷ l) 3 0 })) (first_from (suc o) l)

first_from_is : (o : ℕ) (l : List ℕ) → first_from o l ≡ found (codes_from o 0 l)
unfolding first_from codes_from found pick
first_from_is o [] = refl
first_from_is o (b ∷ l) = go (first_from_is (suc o) l) (starts (b ∷ l))
  where
    go : first_from (suc o) l ≡ found (codes_from (suc o) 0 l) → (t : Bool)
        → pick t (Some (record { offset = o; code = get_or (b ∷ l) 3 0 })) (first_from (suc o) l)
        ≡ found (pick t (record { offset = o; code = get_or (b ∷ l) 3 0 } ∷ codes_from (suc o) 3 l) (codes_from (suc o) 0 l))
    go ih true = refl
    go ih false = ih

pub short_none : (l : List ℕ) (o : ℕ) → length l < 4 → first_from o l ≡ None
unfolding first_from starts pick
short_none [] o h = refl
short_none (a ∷ []) o h = refl
short_none (a ∷ b ∷ []) o h = refl
short_none (a ∷ b ∷ c ∷ []) o h = refl
short_none (a ∷ b ∷ c ∷ d ∷ l) o h = absurd (omega arith)

first_on : (o : ℕ) (l : List ℕ) → starts l ≡ false → first_from (o + 1) (drop 1 l) ≡ first_from o l
unfolding first_from pick
first_on o [] e = refl
first_on o (b ∷ l) e = rw (add-one o, e)

first-here : (o : ℕ) (l : List ℕ) → starts l ≡ true → Some (code_at o (get_or l 3 0)) ≡ first_from o l
unfolding first_from pick starts
first-here o [] e = cc
first-here o (b ∷ l) e = rw e

-- ---- in a stream

pub next-first : (s : List ℕ) (i : ℕ) → next_code s i ≡ first_from i (drop i s)
unfolding next_code codes_at
next-first s i = sym (first_from_is i (drop i s))

pub next-short : (s : List ℕ) (i : ℕ) → length s < i + 4 → None ≡ next_code s i
next-short s i h = rw (next-first s i) (sym (short_none (drop i s) i (simp length-drop (omega arith))))

starts-at : (s : List ℕ) (i : ℕ)
    → starts (drop i s) ≡ (leb 4 (length s - i) && (eqb (get_or s i 0) 0 && (eqb (get_or s (i + 1) 0) 0 && eqb (get_or s (i + 2) 0) 1)))
starts-at s i = starts_is (drop i s) ∙ rw (length-drop, get_or-drop i s 0 0, get_or-drop i s 1 0, get_or-drop i s 2 0, add-zero i)

-- where there are four bytes, three tell it
abbrev pub three : List ℕ → ℕ → List ℕ
three s i = get_or s i 0 ∷ get_or s (i + 1) 0 ∷ get_or s (i + 2) 0 ∷ []

pub prefix_test : (s : List ℕ) (i : ℕ) → i + 4 ≤ length s → same_bytes (three s i) start_code_prefix ≡ starts (drop i s)
prefix_test s i h =
    let l : 4 ≤ length s - i = omega arith in
    sym (starts-at s i ∙ rw (le-leb 4 (length s - i) l, same_more, same_more, same_more, same_none, and-true))

pub next_here : (s : List ℕ) (i : ℕ) → starts (drop i s) ≡ true → Some (code_at i (get_or s (i + 3) 0)) ≡ next_code s i
next_here s i e = rw (next-first s i, ← get_or-drop i s 3 0) (first-here i (drop i s) e)

-- ---- a picture's start code

-- over a list
picture-first : (l : List ℕ) → take 4 l ≡ start_code picture_start_code → (starts l ≡ true) × (get_or l 3 0 ≡ picture_start_code)
picture-first [] e = absurd (clash cc)
picture-first (a ∷ []) e = absurd (clash cc)
picture-first (a ∷ b ∷ []) e = absurd (clash cc)
picture-first (a ∷ b ∷ c ∷ []) e = absurd (clash cc)
picture-first (a ∷ b ∷ c ∷ d ∷ l) e =
    let ea : a ≡ 0 = cc in
    let eb : b ≡ 0 = cc in
    let ec : c ≡ 1 = cc in
    let ed : d ≡ picture_start_code = cc in
    (starts_four a b c d l ∙ rw (ea, eb, ec), ed)

-- in a stream
pub picture-next : (s : List ℕ) (i : ℕ) → same_bytes (take 4 (drop i s)) (start_code picture_start_code) ≡ true → next_code s i ≡ Some (code_at i picture_start_code)
picture-next s i h =
    let p = picture-first (drop i s) (same_bytes_lem (take 4 (drop i s)) (start_code picture_start_code) h) in
    next-first s i ∙ sym (first-here i (drop i s) p.0) ∙ ap (λ c. Some (code_at i c)) p.1

-- ---- no code at i

pub next_on : (s : List ℕ) (i : ℕ) → starts (drop i s) ≡ false → next_code s (i + 1) ≡ next_code s i
next_on s i e = rw (next-first s (i + 1), next-first s i, ← drop-drop 1 i s) (first_on i (drop i s) e)

not_first : (s : List ℕ) (i : ℕ) → (get_or s i 0 ≡ 0 → ⊥) → next_code s (i + 1) ≡ next_code s i
not_first s i n = next_on s i (starts-at s i ∙ rw (ne_eqb (get_or s i 0) 0 n, and-false))

not_second : (s : List ℕ) (i : ℕ) → (get_or s (i + 1) 0 ≡ 0 → ⊥) → next_code s (i + 1) ≡ next_code s i
not_second s i n = next_on s i (starts-at s i ∙ rw (ne_eqb (get_or s (i + 1) 0) 0 n, and-false, and-false))

pub no_third : (s : List ℕ) (i : ℕ) → (get_or s (i + 2) 0 ≡ 1 → ⊥) → starts (drop i s) ≡ false
no_third s i n = starts_third (drop i s) (rw (get_or-drop i s 2 0) n)

pub no_pair : (s : List ℕ) (i : ℕ) → (eqb (get_or s (i + 1) 0) 0 && eqb (get_or s (i + 2) 0) 1) ≡ false → next_code s (i + 1) ≡ next_code s i
no_pair s i e = next_on s i (starts-at s i ∙ rw (e, and-false, and-false))

-- a third byte that is not 00 is neither the second byte of a code nor its first
two_on : (s : List ℕ) (i : ℕ) → (get_or s (i + 2) 0 ≡ 0 → ⊥) → next_code s (i + 3) ≡ next_code s (i + 1)
two_on s i n =
    let e2 : i + 1 + 1 ≡ i + 2 = omega arith in
    let e3 : i + 2 + 1 ≡ i + 3 = omega arith in
    rw e3 at (not_first s (i + 2) n) ∙ rw e2 at (not_second s (i + 1) (rw e2 n))

pub far_on : (s : List ℕ) (i : ℕ) → starts (drop i s) ≡ false → (get_or s (i + 2) 0 ≡ 0 → ⊥) → next_code s (i + 3) ≡ next_code s i
far_on s i e n = two_on s i n ∙ next_on s i e

-- ---- the four bytes of a code that the scan finds

-- over a list
four_first : (l : List ℕ) (x : ℕ) → starts l ≡ true → same_bytes (take 4 l) (start_code x) ≡ eqb (get_or l 3 0) x
four_first [] x h = absurd (omega (arith, starts_long [] h))
four_first (a ∷ []) x h = absurd (omega (arith, starts_long (a ∷ []) h))
four_first (a ∷ b ∷ []) x h = absurd (omega (arith, starts_long (a ∷ b ∷ []) h))
four_first (a ∷ b ∷ c ∷ []) x h = absurd (omega (arith, starts_long (a ∷ b ∷ c ∷ []) h))
four_first (a ∷ b ∷ c ∷ d ∷ l) x h =
    let p = both_true (eqb a 0) (eqb b 0 && eqb c 1) (sym (starts_four a b c d l) ∙ h) in
    let q = both_true (eqb b 0) (eqb c 1) p.1 in
    rw (same_more, same_more, same_more, same_more, same_none, p.0, q.0, q.1, and-true)

-- in a stream
pub four_told : (s : List ℕ) (c : StartCode) (x : ℕ) → next_code s c.offset ≡ Some c → same_bytes (take 4 (drop c.offset s)) (start_code x) ≡ eqb c.code x
four_told s c x h = go (starts (drop c.offset s)) refl
  where
    go : (t : Bool) → starts (drop c.offset s) ≡ t → same_bytes (take 4 (drop c.offset s)) (start_code x) ≡ eqb c.code x
    go true e =
        let q : Some (code_at c.offset (get_or s (c.offset + 3) 0)) ≡ Some c = next_here s c.offset e ∙ h in
        let r : code_at c.offset (get_or s (c.offset + 3) 0) ≡ c = cc in
        four_first (drop c.offset s) x e ∙ rw (get_or-drop c.offset s 3 0) (ap (λ (d : StartCode). eqb d.code x) r)
    go false e = absurd (omega (arith, (code_seen s (c.offset + 1) c (next_on s c.offset e ∙ h)).from))
