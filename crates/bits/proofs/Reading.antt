-- Reading a table: what a read of bits says, the table in a byte string, the ways that reading a field goes, and what the answer says.
-- Assumes nothing.
use mathlib.Core.Path.{◌≡◌, refl, sym, ap, ◌∙◌}
use mathlib.Core.List.{List, [], ◌∷◌, ◌++◌, append_assoc}
use mathlib.Core.Bool.{Bool, true, false, not, ◌&&◌}
use Prim.Native.Nat.{ℕ, zero, suc, ◌+◌, ◌-◌, ◌*◌, ◌/◌, ◌^◌, ◌≤◌, ◌<◌, zero-le, min}
use native.Mathlib.Nat.{add_assoc, add-zero}
use native.Mathlib.Omega.{arith}
use lib.Dec.{leb, ltb, eqb}
use lib.ListN.{length, get_or, take, drop, replicate, length-append, length-drop}
use lib.Seq.{take-suc, take_all, take-append-le}
use borrow.Author.Tests.{le-leb, le-ltb, lt-ltb, leb-true, ltb-true, ltb-false, eqb-true, eq-eqb}
use Rattle.bits.specs.Bits.{pick, bits_at, there}
use Rattle.bits.specs.Refusals.{Answer, value, refused, and_then, number}
use Rattle.bits.specs.Fields.{Field, field, any_value, obeys, read_fields, same_bytes, read_header, total}
use Rattle.bits.specs.Answers.{read_bits, bits_answer, greatest, table_of, places, in_places, fields_answer}
use Rattle.bits.proofs.Flags.{pick_elim, clash, both_true}
use Rattle.bits.proofs.Laws.{bits_bound, bits_append, bits_drop}
use Rattle.std.specs.Prelude.{Option, Result, Ok, Err}
use Rattle.bits.specs.declared.FieldsError.{FieldsError}
use Rattle.bits.specs.declared.FieldsError.TheVariants.{Short, Bad}

-- bits are there
module _ (s : List ℕ) (i n : ℕ) where
  pub there_is : n ≤ 32 → i + n ≤ 8 * length s → there s i n ≡ true
  unfolding there
  there_is a b = rw (le-leb _ _ a, le-leb _ _ b)

  pub there_true : there s i n ≡ true → (n ≤ 32) × (i + n ≤ 8 * length s)
  unfolding there
  there_true e =
      let b = both_true (leb n 32) (leb (i + n) (8 * length s)) e in
      (leb-true _ _ b.0, leb-true _ _ b.1)

-- what a read of bits finds: they are not there, or the number in them
pub data Bit (s : List ℕ) (i n : ℕ) : Answer ℕ → Type 0 where
  absent : there s i n ≡ false → Bit s i n (refused 1 0 0 0)
  present : there s i n ≡ true → Bit s i n (value (bits_at s i n))

pub bits_seen : (s : List ℕ) (i n : ℕ) → Bit s i n (read_bits s i n)
unfolding read_bits pick
bits_seen s i n = case (there s i n) refl
  where
    case : (b : Bool) → there s i n ≡ b → Bit s i n (read_bits s i n)
    case true e = rw e (present e)
    case false e = rw e (absent e)

pub bits_found : (s : List ℕ) (i n v : ℕ) → value v ≡ read_bits s i n → (there s i n ≡ true) × (v ≡ bits_at s i n)
bits_found s i n v e = case (bits_seen s i n) e
  where
    case : {a : Answer ℕ} → Bit s i n a → value v ≡ a → (there s i n ≡ true) × (v ≡ bits_at s i n)
    case (absent t) q = ((cc), (cc))
    case (present t) q = (t, cc)

pub found_bound : (s : List ℕ) (i n v : ℕ) → value v ≡ read_bits s i n → v < 2 ^ n
found_bound s i n v e = rw (bits_found s i n v e).1 (bits_bound s i n)

pub missed : (s : List ℕ) (i n : ℕ) → refused 1 0 0 0 ≡ read_bits s i n → there s i n ≡ false
missed s i n e = case (bits_seen s i n) e
  where
    case : {a : Answer ℕ} → Bit s i n a → refused 1 0 0 0 ≡ a → there s i n ≡ false
    case (absent t) q = t
    case (present t) q = cc

-- a case of the answer, by what it tells
pub bits_case : {r x : Option ℕ} {a : Answer ℕ} → r ≡ x → bits_answer r ≡ a → bits_answer x ≡ a
bits_case e f = rw (← e) f

-- a table has a field for each three bytes, n at most
pub table_count : (n : ℕ) (t : List ℕ) → min (length t / 3) n ≡ length (table_of n t)
table_count zero t = omega arith
table_count (suc n) [] = omega arith
table_count (suc n) (w ∷ []) = omega arith
table_count (suc n) (w ∷ l ∷ []) = omega arith
table_count (suc n) (w ∷ l ∷ m ∷ t) = omega (arith, table_count n t)

pub table_room : (n : ℕ) (t : List ℕ) → (length (table_of n t) ≤ n) × (3 * length (table_of n t) ≤ length t)
table_room zero t = omega arith
table_room (suc n) [] = omega arith
table_room (suc n) (w ∷ []) = omega arith
table_room (suc n) (w ∷ l ∷ []) = omega arith
table_room (suc n) (w ∷ l ∷ m ∷ t) = omega (arith, table_room n t)

-- field k is in the bytes from 3 * k on
abbrev pub field_at : List ℕ → ℕ → Field
field_at t k = field (get_or t (3 * k) 0) (get_or t (3 * k + 1) 0) (greatest (get_or t (3 * k) 0) (get_or t (3 * k + 2) 0))

pub table_at : (n : ℕ) (t : List ℕ) (k : ℕ) → k < length (table_of n t) → get_or (table_of n t) k (field 0 0 0) ≡ field_at t k
table_at zero t k h = absurd (omega arith)
table_at (suc n) [] k h = absurd (omega arith)
table_at (suc n) (w ∷ []) k h = absurd (omega arith)
table_at (suc n) (w ∷ l ∷ []) k h = absurd (omega arith)
table_at (suc n) (w ∷ l ∷ m ∷ t) zero h = refl
table_at (suc n) (w ∷ l ∷ m ∷ t) (suc k) h =
    let a : 3 * suc k ≡ suc (suc (suc (3 * k))) = omega arith in
    let b : 3 * suc k + 1 ≡ suc (suc (suc (3 * k + 1))) = omega arith in
    let d : 3 * suc k + 2 ≡ suc (suc (suc (3 * k + 2))) = omega arith in
    rw (b, d, a) (table_at n t k (omega arith))

-- values before others
abbrev pub prepended : List ℕ → Answer (List ℕ) → Answer (List ℕ)
prepended vs a = and_then a (λ ws. value (vs ++ ws))

pub prepended_none : (a : Answer (List ℕ)) → prepended [] a ≡ a
prepended_none (value vs) = refl
prepended_none (refused n p c e) = refl

pub after-after : (us vs : List ℕ) (a : Answer (List ℕ)) → prepended us (prepended vs a) ≡ prepended (us ++ vs) a
after-after us vs (value ws) = ap value (sym (append_assoc us vs ws))
after-after us vs (refused n p c e) = refl

-- no fields are left
pub read_none : (s : List ℕ) (i : ℕ) → read_fields [] s i ≡ value []
unfolding read_fields
read_none s i = refl

-- the three ways that reading a field goes
module _ (f : Field) (fs : List Field) (s : List ℕ) (i : ℕ) where
  pub read_short : there s i f.width ≡ false → read_fields (f ∷ fs) s i ≡ refused 1 0 0 0
  unfolding read_fields pick
  read_short e = rw e

  pub read_bad : there s i f.width ≡ true → obeys f (bits_at s i f.width) ≡ false → read_fields (f ∷ fs) s i ≡ refused 2 0 0 0
  unfolding read_fields pick
  read_bad e o = rw (e, o)

  pub read_more : there s i f.width ≡ true → obeys f (bits_at s i f.width) ≡ true
      → read_fields (f ∷ fs) s i ≡ prepended (bits_at s i f.width ∷ []) (read_fields fs s (i + f.width))
  unfolding read_fields pick
  read_more e o = rw (e, o)

-- a value within a field's range
module _ (f : Field) (v : ℕ) where
  pub obeys_is : f.low ≤ v → v ≤ f.high → obeys f v ≡ true
  unfolding obeys
  obeys_is l h = rw (le-leb _ _ l, le-leb _ _ h)

  pub obeys_true : obeys f v ≡ true → (f.low ≤ v) × (v ≤ f.high)
  unfolding obeys
  obeys_true e =
      let b = both_true (leb f.low v) (leb v f.high) e in
      (leb-true _ _ b.0, leb-true _ _ b.1)

-- a field of any value, after a read of its bits
module _ (w : ℕ) (fs : List Field) (s : List ℕ) (i : ℕ) where
  pub any_missed : refused 1 0 0 0 ≡ read_bits s i w → read_fields (any_value w ∷ fs) s i ≡ refused 1 0 0 0
  any_missed e = read_short (any_value w) fs s i (missed s i w e)

  pub any_found : (v : ℕ) → value v ≡ read_bits s i w → read_fields (any_value w ∷ fs) s i ≡ prepended (v ∷ []) (read_fields fs s (i + w))
  any_found v e =
      let f = bits_found s i w v e in
      read_more (any_value w) fs s i f.0 (obeys_is (any_value w) (bits_at s i w) zero-le (omega (arith, bits_bound s i w)))
      ∙ rw f.1

-- what a read finds: bytes that end in it (1), a rule broken (2), or what is there
pub data ParseOutcome {X : Type 0} : Answer X → Type 0 where
  cut : ParseOutcome (refused 1 0 0 0)
  broken : ParseOutcome (refused 2 0 0 0)
  whole : (x : X) → ParseOutcome (value x)

-- one read after another
pub then_seen : {X Y : Type 0} {a : Answer X} {f : X → Answer Y} → ParseOutcome a → ((x : X) → ParseOutcome (f x)) → ParseOutcome (and_then a f)
then_seen cut g = cut
then_seen broken g = broken
then_seen (whole x) g = g x

pub fields_seen : (fs : List Field) (s : List ℕ) (i : ℕ) → ParseOutcome (read_fields fs s i)
unfolding read_fields
fields_seen [] s i = whole []
fields_seen (f ∷ fs) s i =
    pick_elim ParseOutcome (not (there s i f.width)) (λ t. cut)
    (λ t. pick_elim ParseOutcome (not (obeys f (bits_at s i f.width))) (λ o. broken)
    (λ o. then_seen (fields_seen fs s (i + f.width)) (λ vs. whole _)))

-- no rule is broken where there is none
pub never_bad : (n w : ℕ) (s : List ℕ) (i : ℕ) → read_fields (replicate n (any_value w)) s i ≡ refused 2 0 0 0 → ⊥
never_bad zero w s i e = clash (cc (read_none s i))
never_bad (suc n) w s i e = case (bits_seen s i w) refl (fields_seen (replicate n (any_value w)) s (i + w)) refl (never_bad n w s (i + w))
  where
    case : {b : Answer ℕ} → Bit s i w b → b ≡ read_bits s i w → {p : Answer (List ℕ)} → ParseOutcome p → read_fields (replicate n (any_value w)) s (i + w) ≡ p
        → (read_fields (replicate n (any_value w)) s (i + w) ≡ refused 2 0 0 0 → ⊥) → ⊥
    case (absent t) b p q r = let z = ap number (sym (any_missed w (replicate n (any_value w)) s i b) ∙ e) in omega arith
    case (present t) b cut q r = let z = ap number (sym (any_found w (replicate n (any_value w)) s i _ b ∙ ap (prepended (bits_at s i w ∷ [])) q) ∙ e) in omega arith
    case (present t) b broken q r = r q
    case (present t) b (whole vs) q r = let z = ap number (sym (any_found w (replicate n (any_value w)) s i _ b ∙ ap (prepended (bits_at s i w ∷ [])) q) ∙ e) in omega arith

-- what a table that was read says of its first field
pub record FieldRead (f : Field) (fs : List Field) (s : List ℕ) (i : ℕ) (vs : List ℕ) : Type 0 where
  pub rest : List ℕ
  pub is_there : there s i f.width ≡ true
  pub obeyed : obeys f (bits_at s i f.width) ≡ true
  pub then : read_fields fs s (i + f.width) ≡ value rest
  pub all : vs ≡ bits_at s i f.width ∷ rest

pub read_field : (f : Field) (fs : List Field) (s : List ℕ) (i : ℕ) (vs : List ℕ) → read_fields (f ∷ fs) s i ≡ value vs → FieldRead f fs s i vs
unfolding read_fields pick
read_field f fs s i vs e = case (there s i f.width) (obeys f (bits_at s i f.width)) (read_fields fs s (i + f.width)) refl refl refl e
  where
    case : (b o : Bool) (p : Answer (List ℕ)) → there s i f.width ≡ b → obeys f (bits_at s i f.width) ≡ o
        → read_fields fs s (i + f.width) ≡ p
        → pick (not b) (refused 1 0 0 0) (pick (not o) (refused 2 0 0 0) (prepended (bits_at s i f.width ∷ []) p)) ≡ value vs → FieldRead f fs s i vs
    case true true (value ws) t u r q = record { rest = ws; is_there = t; obeyed = u; then = r; all = cc }
    case true true (refused n p c x) t u r q = record { rest = []; is_there = t; obeyed = u; then = cc; all = cc }
    case true false p t u r q = record { rest = []; is_there = t; obeyed = cc; then = cc; all = cc }
    case false o p t u r q = record { rest = []; is_there = cc; obeyed = cc; then = cc; all = cc }

-- and the first value is the number in its bits
pub first_found : (f : Field) (fs : List Field) (s : List ℕ) (i : ℕ) (vs : List ℕ) → read_fields (f ∷ fs) s i ≡ value vs
    → value (get_or vs 0 0) ≡ read_bits s i f.width
unfolding read_bits pick
first_found f fs s i vs e =
    let t = read_field f fs s i vs e in
    rw (t.is_there, t.all)

-- as many values as fields
pub read_length : (fs : List Field) (s : List ℕ) (i : ℕ) (vs : List ℕ) → read_fields fs s i ≡ value vs → length vs ≡ length fs
unfolding read_fields
read_length [] s i [] e = refl
read_length [] s i (v ∷ vs) e = cc
read_length (f ∷ fs) s i vs e =
    let t = read_field f fs s i vs e in
    rw t.all (ap suc (read_length fs s (i + f.width) t.rest t.then))

-- the bits of a table
pub total-none : total [] ≡ 0
unfolding total
total-none = refl

pub total-more : (f : Field) (fs : List Field) → total (f ∷ fs) ≡ f.width + total fs
unfolding total
total-more f fs = refl

pub total-same : (n : ℕ) (f : Field) → total (replicate n f) ≡ n * f.width
unfolding total
total-same zero f = omega arith
total-same (suc n) f = omega (arith, total-same n f)

-- each value within its field's range; past the table's end both are 0
abbrev pub FieldsInRange : List Field → List ℕ → Type 0
FieldsInRange fs vs = (k : ℕ) → ((get_or fs k (field 0 0 0)).low ≤ get_or vs k 0) × (get_or vs k 0 ≤ (get_or fs k (field 0 0 0)).high)

pub read_range : (fs : List Field) (s : List ℕ) (i : ℕ) (vs : List ℕ) → read_fields fs s i ≡ value vs → FieldsInRange fs vs
unfolding read_fields
read_range [] s i [] e k = (zero-le, zero-le)
read_range [] s i (v ∷ vs) e k = absurd (clash cc)
read_range (f ∷ fs) s i vs e zero =
    let t = read_field f fs s i vs e in
    rw t.all (obeys_true f (bits_at s i f.width) t.obeyed)
read_range (f ∷ fs) s i vs e (suc k) =
    let t = read_field f fs s i vs e in
    rw t.all (read_range fs s (i + f.width) t.rest t.then k)

-- two tests of the same fact
leb_same : (a b c d : ℕ) → (a ≤ b → c ≤ d) → (c ≤ d → a ≤ b) → leb a b ≡ leb c d
leb_same a b c d f g = case (leb a b) (leb c d) refl refl
  where
    case : (x y : Bool) → leb a b ≡ x → leb c d ≡ y → leb a b ≡ leb c d
    case true y p q = p ∙ sym (le-leb c d (f (leb-true a b p)))
    case false true p q = le-leb a b (g (leb-true c d q)) ∙ sym q
    case false false p q = p ∙ sym q

-- what is after byte k, as code hands it on
pub rest_is : (s : List ℕ) (k : ℕ) → take (length s - k) (drop k s) ≡ drop k s
rest_is s k = take_all (length s - k) (drop k s) (omega (arith, length-drop k s))

-- a part of the bytes reads as the part alone
pub there-drop : (k : ℕ) (s : List ℕ) (i n : ℕ) → k ≤ length s → there (drop k s) i n ≡ there s (8 * k + i) n
unfolding there
there-drop k s i n h =
    ap (λ (b : Bool). leb n 32 && b)
    (leb_same (i + n) (8 * length (drop k s)) (8 * k + i + n) (8 * length s)
    (λ p. omega (arith, length-drop k s)) (λ p. omega (arith, length-drop k s)))

pub read_drop : (fs : List Field) (k : ℕ) (s : List ℕ) (i : ℕ) → k ≤ length s → read_fields fs (drop k s) i ≡ read_fields fs s (8 * k + i)
unfolding read_fields
read_drop [] k s i h = refl
read_drop (f ∷ fs) k s i h =
    rw (
      there-drop k s i f.width h,
      bits_drop k s i f.width,
      read_drop fs k s (i + f.width) h,
      ← add_assoc (8 * k) i f.width,
    )

-- what stands after the bytes does not matter, unless they are too short
pub there-append : (s t : List ℕ) (i n : ℕ) → there s i n ≡ true → there (s ++ t) i n ≡ true
there-append s t i n e =
    let b = there_true s i n e in
    there_is (s ++ t) i n b.0 (omega (arith, b.1, length-append s t))

pub read_append : (fs : List Field) (s t : List ℕ) (i : ℕ) → (read_fields fs s i ≡ refused 1 0 0 0 → ⊥) → read_fields fs (s ++ t) i ≡ read_fields fs s i
unfolding read_fields pick
read_append [] s t i h = refl
read_append (f ∷ fs) s t i h =
    case (there s i f.width) (obeys f (bits_at s i f.width)) refl refl (read_append fs s t (i + f.width))
  where
    same : there s i f.width ≡ true → bits_at (s ++ t) i f.width ≡ bits_at s i f.width
    same e = bits_append s t i f.width (there_true s i f.width e).1

    case : (b o : Bool) → there s i f.width ≡ b → obeys f (bits_at s i f.width) ≡ o
        → ((read_fields fs s (i + f.width) ≡ refused 1 0 0 0 → ⊥) → read_fields fs (s ++ t) (i + f.width) ≡ read_fields fs s (i + f.width))
        → read_fields (f ∷ fs) (s ++ t) i ≡ read_fields (f ∷ fs) s i
    case false o e u r = absurd (h (rw e))
    case true false e u r = rw (there-append s t i f.width e, e, same e, u)
    case true true e u r = rw (there-append s t i f.width e, e, same e, u, r (λ z. h (rw (e, u, z))))

-- two tables end to end: the second is read where the first ends
pub read_join : (fs gs : List Field) (s : List ℕ) (i : ℕ)
    → read_fields (fs ++ gs) s i ≡ and_then (read_fields fs s i) (λ vs. prepended vs (read_fields gs s (i + total fs)))
unfolding read_fields total pick
read_join [] gs s i = rw (add-zero i) (sym (prepended_none _))
read_join (f ∷ fs) gs s i =
    case (there s i f.width) (obeys f (bits_at s i f.width)) (read_fields fs s (i + f.width)) refl refl refl
    (read_join fs gs s (i + f.width))
  where
    case : (b o : Bool) (p : Answer (List ℕ)) → there s i f.width ≡ b → obeys f (bits_at s i f.width) ≡ o
        → read_fields fs s (i + f.width) ≡ p
        → read_fields (fs ++ gs) s (i + f.width)
        ≡ and_then (read_fields fs s (i + f.width)) (λ vs. prepended vs (read_fields gs s (i + f.width + total fs)))
        → read_fields (f ∷ (fs ++ gs)) s i
        ≡ and_then (read_fields (f ∷ fs) s i) (λ vs. prepended vs (read_fields gs s (i + (f.width + total fs))))
    case false o p e u q r = rw e
    case true false p e u q r = rw (e, u)
    case true true (refused n k c x) e u q r = rw (e, u, r, q)
    case true true (value vs) e u q r =
        rw (e, u, r, q, ← add_assoc i f.width (total fs))
        (after-after (bits_at s i f.width ∷ []) vs (read_fields gs s (i + f.width + total fs)))

pub read_both : (fs gs : List Field) (s : List ℕ) (i : ℕ) (vs ws : List ℕ) → read_fields fs s i ≡ value vs → read_fields gs s (i + total fs) ≡ value ws
    → read_fields (fs ++ gs) s i ≡ value (vs ++ ws)
read_both fs gs s i vs ws e f = read_join fs gs s i ∙ rw (e, f)

pub read_split : (fs gs : List Field) (s : List ℕ) (i : ℕ) (vs ws : List ℕ) → length vs ≡ length fs → read_fields (fs ++ gs) s i ≡ value (vs ++ ws)
    → (read_fields fs s i ≡ value vs) × (read_fields gs s (i + total fs) ≡ value ws)
unfolding read_fields total
read_split [] gs s i [] ws l e = (refl, rw add-zero e)
read_split [] gs s i (v ∷ vs) ws l e = absurd (omega arith)
read_split (f ∷ fs) gs s i [] ws l e = absurd (omega arith)
read_split (f ∷ fs) gs s i (v ∷ vs) ws l e =
    let t = read_field f (fs ++ gs) s i (v ∷ (vs ++ ws)) e in
    let x : v ≡ bits_at s i f.width = cc in
    let y : t.rest ≡ vs ++ ws = cc in
    let r = read_split fs gs s (i + f.width) vs ws (omega arith) (t.then ∙ ap value y) in
    (read_more f fs s i t.is_there t.obeyed ∙ rw (r.0, x), rw (← add_assoc) r.1)

-- four bytes, one by one
pub four : (s : List ℕ) → 4 ≤ length s → take 4 s ≡ get_or s 0 0 ∷ get_or s 1 0 ∷ get_or s 2 0 ∷ get_or s 3 0 ∷ []
four s h = rw (take-suc s 3 0 (omega arith), take-suc s 2 0 (omega arith), take-suc s 1 0 (omega arith), take-suc s 0 0 (omega arith))

-- the three ways that reading a header goes
module _ (code : List ℕ) (fs : List Field) (s : List ℕ) where
  pub header_short : length s < 4 → read_header code fs s ≡ refused 1 0 0 0
  unfolding read_header pick
  header_short h = rw (lt-ltb (length s) 4 h)

  pub header_bad : 4 ≤ length s → same_bytes (take 4 s) code ≡ false → read_header code fs s ≡ refused 2 0 0 0
  unfolding read_header pick
  header_bad h e = rw (le-ltb (length s) 4 h, e)

  pub header_more : 4 ≤ length s → same_bytes (take 4 s) code ≡ true → read_header code fs s ≡ read_fields fs s 32
  unfolding read_header pick
  header_more h e = rw (le-ltb (length s) 4 h, e)

-- bytes that are the same, and what a header that was read says
pub same_bytes_lem : (a b : List ℕ) → same_bytes a b ≡ true → a ≡ b
unfolding same_bytes
same_bytes_lem [] [] e = refl
same_bytes_lem [] (y ∷ b) e = cc
same_bytes_lem (x ∷ a) [] e = cc
same_bytes_lem (x ∷ a) (y ∷ b) e =
    let t = both_true (eqb x y) (same_bytes a b) e in
    rw (eqb-true x y t.0, same_bytes_lem a b t.1)

pub same_none : same_bytes [] [] ≡ true
unfolding same_bytes
same_none = refl

pub same_more : (x y : ℕ) (a b : List ℕ) → same_bytes (x ∷ a) (y ∷ b) ≡ eqb x y && same_bytes a b
unfolding same_bytes
same_more x y a b = refl

pub same_self : (a : List ℕ) → same_bytes a a ≡ true
unfolding same_bytes
same_self [] = refl
same_self (x ∷ a) = rw (eq-eqb x x refl, same_self a)

pub same_not : (a b : List ℕ) → (a ≡ b → ⊥) → same_bytes a b ≡ false
same_not a b n = case (same_bytes a b) refl
  where
    case : (t : Bool) → same_bytes a b ≡ t → t ≡ false
    case true e = absurd (n (same_bytes_lem a b e))
    case false e = refl

pub record HeaderRead (code : List ℕ) (fs : List Field) (s vs : List ℕ) : Type 0 where
  pub long : 4 ≤ length s
  pub code_first : take 4 s ≡ code
  pub fields_read : read_fields fs s 32 ≡ value vs

pub header_got : (code : List ℕ) (fs : List Field) (s vs : List ℕ) → read_header code fs s ≡ value vs → HeaderRead code fs s vs
unfolding read_header pick
header_got code fs s vs e = case (ltb (length s) 4) (same_bytes (take 4 s) code) refl refl e
  where
    case : (b o : Bool) → ltb (length s) 4 ≡ b → same_bytes (take 4 s) code ≡ o
        → pick b (refused 1 0 0 0) (pick (not o) (refused 2 0 0 0) (read_fields fs s 32)) ≡ value vs → HeaderRead code fs s vs
    case false true l t q = record { long = ltb-false _ _ l; code_first = same_bytes_lem (take 4 s) code t; fields_read = q }
    case false false l t q = record { long = ltb-false _ _ l; code_first = cc; fields_read = cc }
    case true o l t q = record { long = absurd (clash cc); code_first = cc; fields_read = cc }

pub header_of_lem : {code : List ℕ} {fs : List Field} {s vs : List ℕ} → HeaderRead code fs s vs → read_header code fs s ≡ value vs
header_of_lem {code} {fs} {s} {vs} r = header_more code fs s r.long (rw r.code_first (same_self code)) ∙ r.fields_read

-- more after a header does not matter, unless it is too short
pub header_append : (code : List ℕ) (fs : List Field) (s t : List ℕ) → (read_header code fs s ≡ refused 1 0 0 0 → ⊥)
    → read_header code fs (s ++ t) ≡ read_header code fs s
header_append code fs s t h = case (ltb (length s) 4) (same_bytes (take 4 s) code) refl refl
  where
    more : 4 ≤ length s → 4 ≤ length (s ++ t)
    more a = omega (arith, length-append s t)

    case : (b o : Bool) → ltb (length s) 4 ≡ b → same_bytes (take 4 s) code ≡ o → read_header code fs (s ++ t) ≡ read_header code fs s
    case true o l e = absurd (h (header_short code fs s (ltb-true _ _ l)))
    case false false l e =
        let a : 4 ≤ length s = ltb-false _ _ l in
        header_bad code fs (s ++ t) (more a) (rw (take-append-le 4 s t a) e) ∙ sym (header_bad code fs s a e)
    case false true l e =
        let a : 4 ≤ length s = ltb-false _ _ l in
        let m = header_more code fs s a e in
        header_more code fs (s ++ t) (more a) (rw (take-append-le 4 s t a) e) ∙ read_append fs s t 32 (λ z. h (m ∙ z)) ∙ sym m

pub header_seen : (code : List ℕ) (fs : List Field) (s : List ℕ) → ParseOutcome (read_header code fs s)
unfolding read_header
header_seen code fs s =
    pick_elim ParseOutcome (ltb (length s) 4) (λ t. cut) (λ t. pick_elim ParseOutcome (not (same_bytes (take 4 s) code)) (λ o. broken) (λ o. fields_seen fs s 32))

-- the values in 24 places, each where it was
pub places-at : (vs : List ℕ) (k : ℕ) → get_or (places vs) k 0 ≡ get_or vs k 0
unfolding places
places-at vs k = zeros vs (24 - length vs) k
  where
    none : (n j : ℕ) → ◌≡◌ {A = ℕ} (get_or (replicate n 0) j 0) 0
    none zero j = refl
    none (suc n) zero = refl
    none (suc n) (suc j) = none n j

    zeros : (us : List ℕ) (n j : ℕ) → get_or (us ++ replicate n 0) j 0 ≡ get_or us j 0
    zeros [] n j = none n j
    zeros (u ∷ us) n zero = refl
    zeros (u ∷ us) n (suc j) = zeros us n j

-- what the answer says of the table
pub answer_refused : (r : Result (List ℕ) FieldsError) (p : Answer (List ℕ)) {x : FieldsError} → fields_answer r ≡ in_places p → r ≡ Err x
    → p ≡ fields_answer (Err x)
answer_refused r (value vs) {x = Short} e o = let z = ap number (rw o at e) in absurd (omega arith)
answer_refused r (value vs) {x = Bad} e o = let z = ap number (rw o at e) in absurd (omega arith)
answer_refused r (refused n k c x) e o = sym (rw o at e)

pub answer-short : (r : Result (List ℕ) FieldsError) (p : Answer (List ℕ)) → fields_answer r ≡ in_places p → r ≡ Err Short → p ≡ refused 1 0 0 0
answer-short r p e o = answer_refused r p e o

pub answer_bad : (r : Result (List ℕ) FieldsError) (p : Answer (List ℕ)) → fields_answer r ≡ in_places p → r ≡ Err Bad → p ≡ refused 2 0 0 0
answer_bad r p e o = answer_refused r p e o

pub answer-done : (r : Result (List ℕ) FieldsError) (p : Answer (List ℕ)) {values : List ℕ} → fields_answer r ≡ in_places p → r ≡ Ok values
    → (vs : List ℕ) × (p ≡ value vs) × (values ≡ places vs)
answer-done r (value vs) e o = let z = rw o at e in (vs, refl, (cc))
answer-done r (refused n k c x) e o = let z = rw o at e in ([], (cc), (cc))

-- where it was read: the values, each within its field's range
pub record Read (fs : List Field) (p : Answer (List ℕ)) (found : List ℕ) : Type 0 where
  pub vs : List ℕ
  pub parsed : p ≡ value vs
  pub values : found ≡ places vs
  pub same : (k : ℕ) → get_or found k 0 ≡ get_or vs k 0
  pub low : (k : ℕ) → (get_or fs k (field 0 0 0)).low ≤ get_or found k 0
  pub high : (k : ℕ) → get_or found k 0 ≤ (get_or fs k (field 0 0 0)).high

read_by : (r : Result (List ℕ) FieldsError) (fs : List Field) (p : Answer (List ℕ)) {found : List ℕ} → fields_answer r ≡ in_places p → r ≡ Ok found
    → ((vs : List ℕ) → p ≡ value vs → FieldsInRange fs vs) → Read fs p found
read_by r fs p {found} e o within =
    let d = answer-done r p e o in
    let at : (k : ℕ) → get_or found k 0 ≡ get_or d.0 k 0 = λ k. ap (λ (x : List ℕ). get_or x k 0) d.2 ∙ places-at d.0 k in
    let in_range = within d.0 d.1 in
    record {
      vs = d.0;
      parsed = d.1;
      values = d.2;
      same = at;
      low = λ k. omega (arith, at k, in_range k);
      high = λ k. omega (arith, at k, in_range k);
    }

pub fields-done : (r : Result (List ℕ) FieldsError) (fs : List Field) (s : List ℕ) (i : ℕ) {found : List ℕ}
    → fields_answer r ≡ in_places (read_fields fs s i) → r ≡ Ok found → Read fs (read_fields fs s i) found
fields-done r fs s i e o = read_by r fs (read_fields fs s i) e o (read_range fs s i)

pub header_done : (r : Result (List ℕ) FieldsError) (code : List ℕ) (fs : List Field) (s : List ℕ) {found : List ℕ}
    → fields_answer r ≡ in_places (read_header code fs s) → r ≡ Ok found → Read fs (read_header code fs s) found
header_done r code fs s e o =
    read_by r fs (read_header code fs s) e o (λ vs q. read_range fs s 32 vs (header_got code fs s vs q).fields_read)
