-- The scan place by place: its steps, its loop, and what is owed of it.
-- Assumes nothing.
use mathlib.Core.Path.{◌≡◌, refl, sym, ap, ◌∙◌}
use Prim.Native.Nat.{ℕ, zero, suc, ◌+◌, ◌≤◌, ◌<◌}
use mathlib.Core.List.{List}
use mathlib.Core.Bool.{Bool, true, false}
use native.Mathlib.Omega.{arith}
use lib.ListN.{length, drop, get_or}
use lib.Dec.{eqb, leb}
use borrow.Author.Tests.{leb-true, leb-false, eqb-true, eqb-false}
use Rattle.bits.specs.Bits.{pick}
use Rattle.bits.specs.Fields.{same_bytes}
use Rattle.bits.specs.StartCodes.{start_code_prefix}
use Rattle.scan.specs.declared.StartCode.{StartCode}
use Rattle.std.specs.Prelude.{Option, Some, None}
use Rattle.scan.specs.declared.Scanned.{Scanned}
use Rattle.scan.specs.Codes.{starts, codes_at, next_code}
use Rattle.scan.specs.Scanned.{looked, scanned, looked_all, one_more, ScansGive, none, more, OwedOfScans}
use Rattle.scan.proofs.NextCode.{code_at, three, prefix_test, no_third, next_here, next-short, next_on, far_on}
use Rattle.scan.proofs.Walk.{CodeSeen, code_seen, unseen}
use Rattle.scan.proofs.Search.{codes_from-zero}
use Rattle.scan.proofs.Looked.{looked_from, looked_is, looked_all_is, none_left, at_code, third_zero, third_other, third_left, few-left}

pub found_by : {r : Scanned} (s : List ℕ) (i : ℕ) → r ≡ scanned s i → r.found ≡ next_code s i
unfolding scanned
found_by s i e = ap (λ (x : Scanned). x.found) e

looked_by : {r : Scanned} (s : List ℕ) (i : ℕ) → r ≡ scanned s i → r.looked ≡ looked s i
unfolding scanned
looked_by s i e = ap (λ (x : Scanned). x.looked) e

-- an answer by its parts
pub scanned_is : (s : List ℕ) (i n : ℕ) (f : Option StartCode) → f ≡ next_code s i → n ≡ looked_from false s i → record { found = f; looked = n } ≡ scanned s i
unfolding scanned
scanned_is s i n f e q = rw (e, q, looked_is s i)

-- ---- the steps

step-short : (s : List ℕ) (i : ℕ) → length s < i + 4 → scanned s i ≡ record { found = None; looked = 0 }
step-short s i h = sym (scanned_is s i 0 None (next-short s i h) (sym (none_left false s i h)))

step-code : (s : List ℕ) (i : ℕ) → starts (drop i s) ≡ true → scanned s i ≡ record { found = Some (code_at i (get_or s (i + 3) 0)); looked = 1 }
unfolding pick
step-code s i e = sym (scanned_is s i 1 (Some (code_at i (get_or s (i + 3) 0))) (next_here s i e) (sym (at_code false s i e)))

more_is : (s : List ℕ) (i j : ℕ) → next_code s j ≡ next_code s i → looked_from false s i ≡ suc (looked_from false s j) → scanned s i ≡ one_more (scanned s j)
unfolding one_more scanned
more_is s i j e q = sym (scanned_is s i _ _ e (rw (looked_is s j) (sym q)))

step-one : (s : List ℕ) (i : ℕ) → i + 4 ≤ length s → starts (drop i s) ≡ false → get_or s (i + 2) 0 ≡ 0 → scanned s i ≡ one_more (scanned s (i + 1))
step-one s i h e z = more_is s i (i + 1) (next_on s i e) (third_zero false s i h e z)

step_three : (s : List ℕ) (i : ℕ) → i + 4 ≤ length s → starts (drop i s) ≡ false → (get_or s (i + 2) 0 ≡ 0 → ⊥) → scanned s i ≡ one_more (scanned s (i + 3))
step_three s i h e n = more_is s i (i + 3) (far_on s i e n) (third_other false s i h e n)

-- ---- the loop: k places were looked at, and the scan goes on at i

pub record Scanning (s : List ℕ) (from i k : ℕ) : Type 0 where
  pub code : next_code s i ≡ next_code s from
  pub count : k + looked_from false s i ≡ looked_from false s from
  pub few : k ≤ i

pub scanning : (s : List ℕ) (from i k : ℕ) → next_code s i ≡ next_code s from → k + looked_from false s i ≡ looked_from false s from → k ≤ i → Scanning s from i k
scanning s from i k e q l = record { code = e; count = q; few = l }

-- the third byte is above 01: three bytes on the code is the same, and one place less is left to look at
pub above_code : (s : List ℕ) (i : ℕ) → i + 4 ≤ length s → 1 < get_or s (i + 2) 0 → next_code s (i + 3) ≡ next_code s i
above_code s i h t = far_on s i (no_third s i (λ e. omega arith)) (λ e. omega arith)

pub above_count : (s : List ℕ) (i : ℕ) → i + 4 ≤ length s → 1 < get_or s (i + 2) 0 → 1 + looked_from false s (i + 3) ≡ looked_from false s i
above_count s i h t = omega (arith, third_other false s i h (no_third s i (λ e. omega arith)) (λ e. omega arith))

module _ {s : List ℕ} {from i k : ℕ} (v : Scanning s from i k) where
  one_later : i + 4 ≤ length s → starts (drop i s) ≡ false → get_or s (i + 2) 0 ≡ 0 → Scanning s from (i + 1) (k + 1)
  one_later h e z =
      record { code = next_on s i e ∙ v.code; count = omega (arith, v.count, third_zero false s i h e z); few = omega (arith, v.few) }

  three_later : i + 4 ≤ length s → starts (drop i s) ≡ false → (get_or s (i + 2) 0 ≡ 0 → ⊥) → Scanning s from (i + 3) (k + 1)
  three_later h e n =
      record { code = far_on s i e n ∙ v.code; count = omega (arith, v.count, third_other false s i h e n); few = omega (arith, v.few) }

  -- the third byte is 00
  pub go_zero : i + 4 ≤ length s → get_or s (i + 2) 0 ≡ 0 → Scanning s from (i + 1) (k + 1)
  go_zero h z = one_later h (no_third s i (λ e. omega arith)) z

  -- it is neither, and the three bytes are no prefix, or are one
  pub go_other : i + 4 ≤ length s → (get_or s (i + 2) 0 ≡ 0 → ⊥) → same_bytes (three s i) start_code_prefix ≡ false → Scanning s from (i + 3) (k + 1)
  go_other h n e = three_later h (sym (prefix_test s i h) ∙ e) n

  pub done-here : i + 4 ≤ length s → same_bytes (three s i) start_code_prefix ≡ true → record { found = Some (code_at i (get_or s (i + 3) 0)); looked = k + 1 } ≡ scanned s from
  unfolding pick
  done-here h e =
      let q : starts (drop i s) ≡ true = sym (prefix_test s i h) ∙ e in
      scanned_is s from (k + 1) _ (next_here s i q ∙ v.code) (omega (arith, v.count, at_code false s i q))

  pub done_none : length s < i + 4 → record { found = None; looked = k } ≡ scanned s from
  done_none h = scanned_is s from k _ (next-short s i h ∙ v.code) (omega (arith, v.count, none_left false s i h))

-- ---- one after another

-- what the scan of the whole looks at behind the code that it finds
unfoldable behind : List ℕ → Option StartCode → ℕ
behind s (Some c) = looked_from true s (c.offset + 4)
behind s None = 0

-- from i on it looks at those up to the first code, and at those behind it
abbrev Splits : List ℕ → ℕ → Type 0
Splits s i = looked_from true s i ≡ looked_from false s i + behind s (next_code s i)

split_short : (s : List ℕ) (i : ℕ) → length s < i + 4 → Splits s i
unfolding behind
split_short s i h = rw (none_left true s i h, none_left false s i h, ← next-short s i h)

split_long : (s : List ℕ) (i : ℕ) → i + 4 ≤ length s → Splits s (i + 1) → Splits s (i + 3) → Splits s i
unfolding behind pick
split_long s i h one three = go (starts (drop i s)) refl (eqb (get_or s (i + 2) 0) 0) refl
  where
    go : (t : Bool) → starts (drop i s) ≡ t → (z : Bool) → eqb (get_or s (i + 2) 0) 0 ≡ z → Splits s i
    go true e z f = rw (at_code true s i e, at_code false s i e, ← next_here s i e) (omega arith)
    go false e true f =
        let w = eqb-true _ _ f in
        rw (third_zero true s i h e w, third_zero false s i h e w, ← next_on s i e) (omega (arith, one))
    go false e false f =
        let w = eqb-false _ _ f in
        rw (third_other true s i h e w, third_other false s i h e w, ← far_on s i e w) (omega (arith, three))

-- n only counts the steps
split : (n : ℕ) (s : List ℕ) (i : ℕ) → length s < i + n + 4 → Splits s i
split zero s i h = split_short s i (omega arith)
split (suc n) s i h = go (leb (i + 4) (length s)) refl (split n s (i + 1) (omega arith)) (split n s (i + 3) (omega arith))
  where
    go : (t : Bool) → leb (i + 4) (length s) ≡ t → Splits s (i + 1) → Splits s (i + 3) → Splits s i
    go true e one three = split_long s i (leb-true _ _ e) one three
    go false e one three = split_short s i (leb-false _ _ e)

-- one scan, then those behind its code
gives_one : (s : List ℕ) (i : ℕ) → ((j : ℕ) → i + 4 ≤ j → j ≤ length s → ScansGive s j (codes_at s j) (looked_from true s j))
    → ScansGive s i (codes_at s i) (looked_from true s i)
unfolding behind
gives_one s i rest = go (next_code s i) refl (split (length s) s i (omega arith))
  where
    go : (f : Option StartCode) → next_code s i ≡ f → Splits s i → ScansGive s i (codes_at s i) (looked_from true s i)
    go None e p =
        let q : looked_from true s i ≡ looked_from false s i = p ∙ rw e (omega arith) in
        rw (unseen s i e, q) (none (sym (scanned_is s i (looked_from false s i) None (sym e) refl)))
    go (Some c) e p =
        let q : looked_from true s i ≡ looked_from false s i + looked_from true s (c.offset + 4) = p ∙ rw e in
        let m : CodeSeen s i c = code_seen s i c e in
        rw (m.list, q)
        (more (sym (scanned_is s i (looked_from false s i) (Some c) (sym e) refl)) (rest (c.offset + 4) (omega (arith, m.from)) m.room))

gives : (n : ℕ) (s : List ℕ) (i : ℕ) → length s ≤ i + n → ScansGive s i (codes_at s i) (looked_from true s i)
gives zero s i h = gives_one s i (λ j a b. absurd (omega arith))
gives (suc n) s i h = gives_one s i (λ j a b. gives n s j (omega arith))

-- ---- a walk from code to code: k places were looked at, and the next scan begins at i

pub record Looking (s : List ℕ) (i k : ℕ) : Type 0 where
  pub count : k + looked_from true s i ≡ looked_all s

pub looking_begun : (s : List ℕ) → Looking s 0 0
looking_begun s = record { count = rw (looked_all_is s) (omega arith) }

module _ {s : List ℕ} {i k : ℕ} {r : Scanned} (v : Looking s i k) (e : r ≡ scanned s i) where
  -- as many as the scan says, and those behind its code
  told : k + r.looked + behind s (next_code s i) ≡ looked_all s
  told = omega (arith, v.count, split (length s) s i (omega arith), looked_by s i e, looked_is s i)

  pub looking_on : {c : StartCode} → r.found ≡ Some c → Looking s (c.offset + 4) (k + r.looked)
  unfolding behind
  looking_on q = record { count = ap (λ f. k + r.looked + behind s f) (sym q ∙ found_by s i e) ∙ told }

  pub looking_done : r.found ≡ None → k + r.looked ≡ looked_all s
  unfolding behind
  looking_done q =
      let b : behind s (next_code s i) ≡ 0 = ap (behind s) (sym (found_by s i e) ∙ q) in
      omega (arith, told, b)

  -- never more places than bytes
  pub looking_few : k + r.looked ≤ length s
  looking_few = omega (arith, told, looked_all_is s, few-left true s 0)

-- ---- what is owed

pub scans_owed : OwedOfScans
scans_owed = record {
  same_code = λ s i. found_by s i refl;
  too_few = step-short;
  at_code = step-code;
  one_on = step-one;
  three_on = step_three;
  whole = λ s. rw (codes_from-zero s, looked_all_is s) (gives (length s) s 0 (omega arith));
  a_third = λ s f. (rw (looked_is s 0) (omega (arith, third_left false s 0 f)), rw (looked_all_is s) (omega (arith, third_left true s 0 f)));
  a_third_from = λ s i f. rw (looked_is s i) (omega (arith, third_left false s i f), third_left false s i f);
  few = λ s i. rw (looked_is s i) (few-left false s i);
  few_all = λ s. rw (looked_all_is s) (omega (arith, few-left true s 0));
}
