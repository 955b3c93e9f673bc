-- What the block test and the search in a part say of the next code.
-- Assumes nothing.
use mathlib.Core.Path.{◌≡◌, refl, sym, ap, ◌∙◌}
use Prim.Native.Nat.{ℕ, zero, suc, ◌+◌}
use mathlib.Core.List.{List, [], ◌∷◌}
use mathlib.Core.Bool.{Bool, true, false, ◌&&◌, ◌||◌}
use native.Mathlib.Omega.{arith}
use native.Mathlib.Nat.{add-zero, zero-add, suc-add}
use native.Mathlib.Numerals.{add-one}
use lib.ListN.{take, drop, get_or, length-take}
use lib.Seq.{drop-drop, get_or-take, take-nil}
use lib.Dec.{eqb}
use Rattle.bits.specs.Bits.{pick}
use Rattle.bits.proofs.Flags.{or_left, or_right}
use Rattle.std.specs.Prelude.{Some, None}
use Rattle.scan.specs.declared.StartCode.{StartCode}
use Rattle.scan.specs.Codes.{starts, next_code}
use Rattle.scan.specs.Steps.{zero_one}
use Rattle.scan.proofs.NextCode.{code_at, first_from, next-first, short_none, no_pair}
use Rattle.scan.proofs.Prefix.{starts_four}

-- ---- the block test, place by place

pub no_place : (s : List ℕ) (at : ℕ) → false ≡ zero_one s at 0
unfolding zero_one
no_place s at = refl

pub one_more_lem : (s : List ℕ) (at k : ℕ) (b : Bool) → b ≡ zero_one s at k
    → (b || (eqb (get_or s (at + k + 1) 0) 0 && eqb (get_or s (at + k + 2) 0) 1)) ≡ zero_one s at (k + 1)
unfolding zero_one
one_more_lem s at k b e = rw (add-one k, e)

-- a block without 00 01 is passed over whole
pub quiet : (s : List ℕ) (at k : ℕ) → zero_one s at k ≡ false → next_code s (at + k) ≡ next_code s at
unfolding zero_one
quiet s at zero e = rw add-zero
quiet s at (suc k) e =
    let i : at + suc k ≡ at + k + 1 = omega arith in
    rw i (no_pair s (at + k) (or_right (zero_one s at k) _ e) ∙ quiet s at k (or_left _ _ e))

-- ---- the search in a part that ends k + 3 bytes on: what begins at one of its first k places is found

-- four bytes tell whether a code begins
starts_part : (k b : ℕ) (l : List ℕ) → starts (b ∷ take (k + 3) l) ≡ starts (b ∷ l)
starts_part k b l =
    let e : k + 3 ≡ suc (suc (suc k)) = omega arith in
    rw e (go l)
  where
    go : (l : List ℕ) → starts (b ∷ take (suc (suc (suc k))) l) ≡ starts (b ∷ l)
    go [] = refl
    go (c ∷ []) = refl
    go (c ∷ d ∷ []) = refl
    go (c ∷ d ∷ e ∷ l) = starts_four b c d e (take k l) ∙ sym (starts_four b c d e l)

part_here : (k o b : ℕ) (l : List ℕ)
    → first_from o (b ∷ take (k + 3) l) ≡ pick (starts (b ∷ l)) (Some (code_at o (get_or (b ∷ l) 3 0))) (first_from (suc o) (take (k + 3) l))
unfolding first_from
part_here k o b l = rw (starts_part k b l, get_or-take (k + 3) l 2 0 (omega arith))

-- a code that is found is the next one
part_found : (k o : ℕ) (l : List ℕ) (c : StartCode) → first_from o (take (k + 3) l) ≡ Some c → Some c ≡ first_from o l
unfolding first_from pick
part_found zero o l c e = let z : None ≡ Some c = sym (short_none (take 3 l) o (omega (arith, length-take 3 l))) ∙ e in cc
part_found (suc k) o [] c e = sym (rw suc-add at (e))
part_found (suc k) o (b ∷ l) c e = go (part_found k (suc o) l c) (starts (b ∷ l)) (sym (part_here k o b l) ∙ rw suc-add at (e))
  where
    go : (first_from (suc o) (take (k + 3) l) ≡ Some c → Some c ≡ first_from (suc o) l) → (t : Bool)
        → pick t (Some (code_at o (get_or (b ∷ l) 3 0))) (first_from (suc o) (take (k + 3) l)) ≡ Some c
        → Some c ≡ pick t (Some (code_at o (get_or (b ∷ l) 3 0))) (first_from (suc o) l)
    go ih true r = sym r
    go ih false r = ih r

-- where none is found, the search goes on k bytes later
part_none : (k o : ℕ) (l : List ℕ) → first_from o (take (k + 3) l) ≡ None → first_from (o + k) (drop k l) ≡ first_from o l
unfolding first_from pick
part_none zero o l e = rw add-zero
part_none (suc k) o [] e = refl
part_none (suc k) o (b ∷ l) e = go (part_none k (suc o) l) (starts (b ∷ l)) (sym (part_here k o b l) ∙ rw suc-add at (e))
  where
    m : o + suc k ≡ suc o + k
    m = omega arith

    go : (first_from (suc o) (take (k + 3) l) ≡ None → first_from (suc o + k) (drop k l) ≡ first_from (suc o) l) → (t : Bool)
        → pick t (Some (code_at o (get_or (b ∷ l) 3 0))) (first_from (suc o) (take (k + 3) l)) ≡ None
        → first_from (o + suc k) (drop k l) ≡ pick t (Some (code_at o (get_or (b ∷ l) 3 0))) (first_from (suc o) l)
    go ih true r = cc
    go ih false r = rw m (ih r)

-- in a stream
drop_part : (i n : ℕ) (l : List ℕ) → drop i (take (i + n) l) ≡ take n (drop i l)
drop_part zero n l = rw zero-add
drop_part (suc i) n [] = rw (take-nil n, suc-add)
drop_part (suc i) n (b ∷ l) = rw suc-add (drop_part i n l)

part_first : (s : List ℕ) (i k : ℕ) → next_code (take (i + (k + 3)) s) i ≡ first_from i (take (k + 3) (drop i s))
part_first s i k = next-first (take (i + (k + 3)) s) i ∙ ap (first_from i) (drop_part i (k + 3) s)

pub found_inside : (s : List ℕ) (i k : ℕ) (c : StartCode) → next_code (take (i + (k + 3)) s) i ≡ Some c → Some c ≡ next_code s i
found_inside s i k c e = rw (next-first s i) (part_found k i (drop i s) c (sym (part_first s i k) ∙ e))

pub none_inside : (s : List ℕ) (i k : ℕ) → next_code (take (i + (k + 3)) s) i ≡ None → next_code s (i + k) ≡ next_code s i
none_inside s i k e = rw (next-first s (i + k), next-first s i, ← drop-drop k i s) (part_none k i (drop i s) (sym (part_first s i k) ∙ e))
