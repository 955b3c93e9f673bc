-- The numbers of an answer, down its chain of tests: of tables read and written.
-- Assumes nothing.
use mathlib.Core.Path.{◌≡◌, refl, sym, ◌∙◌}
use mathlib.Core.Bool.{Bool, true, false, ◌&&◌, ◌||◌, true≢false}
use mathlib.Core.List.{List, [], ◌∷◌}
use Prim.Native.Nat.{ℕ, zero, suc, ◌+◌, ◌≤◌}
use native.Mathlib.Omega.{arith}
use lib.Dec.{eqb}
use borrow.Author.Tests.{eqb-true}
use Rattle.bits.specs.Refusals.{Answer, refused, and_then}
use Rattle.bits.specs.Fields.{Field, read_fields, read_header}
use Rattle.bits.specs.Answers.{write_answer}
use Rattle.bits.specs.Numbers.{one_of, Numbered, a_value, by_number, by_picture, by_all}
use Rattle.bits.proofs.Flags.{and_left, and_right, pick_elim, clash}

-- a refusal stays one that may be
pub and_then_lem : {X Y : Type 0} {alone pictured full : List ℕ} {a : Answer X} (next : X → Answer Y) → Numbered alone pictured full a
    → ((x : X) → Numbered alone pictured full (next x)) → Numbered alone pictured full (and_then a next)
and_then_lem next (a_value {x}) f = f x
and_then_lem next (by_number h) f = by_number h
and_then_lem next (by_picture h) f = by_picture h
and_then_lem next (by_all h) f = by_all h

-- every number of the one list is in the other
abbrev pub covers : List ℕ → List ℕ → Bool
covers [] ns = true
covers (k ∷ ks) ns = one_of ns k && covers ks ns

covered : (ks ns : List ℕ) (n : ℕ) → covers ks ns ≡ true → one_of ks n ≡ true → one_of ns n ≡ true
covered [] ns n h e = absurd (true≢false (sym e))
covered (k ∷ ks) ns n h e = go (eqb n k) refl e (covered ks ns n (and_right (one_of ns k) (covers ks ns) h))
  where
    go : (b : Bool) → eqb n k ≡ b → (b || one_of ks n) ≡ true → (one_of ks n ≡ true → one_of ns n ≡ true) → one_of ns n ≡ true
    go true f g rest = rw (eqb-true n k f) (and_left (one_of ns k) (covers ks ns) h)
    go false f g rest = rest g

-- more numbers may be
pub wider : {X : Type 0} {a b c alone pictured full : List ℕ} {x : Answer X} → covers a alone ≡ true → covers b pictured ≡ true → covers c full ≡ true
    → Numbered a b c x → Numbered alone pictured full x
wider e f g a_value = a_value
wider {a = a} {alone = ns} e f g (by_number {n} h) = by_number (covered a ns n e h)
wider {b = b} {pictured = ns} e f g (by_picture {n} h) = by_picture (covered b ns n f h)
wider {c = c} {full = ns} e f g (by_all {n} h) = by_all (covered c ns n g h)

-- a refusal is no 0, where 0 is in no list
not-zero : (ns : List ℕ) (n : ℕ) → one_of ns 0 ≡ false → one_of ns n ≡ true → 1 ≤ n
not-zero ns zero z h = absurd (true≢false (sym h ∙ z))
not-zero ns (suc n) z h = omega arith

pub refused-low : {X : Type 0} {alone pictured full : List ℕ} {a : Answer X} {n k c e : ℕ} → one_of alone 0 ≡ false → one_of pictured 0 ≡ false → one_of full 0 ≡ false
    → Numbered alone pictured full a → a ≡ refused n k c e → 1 ≤ n
refused-low p q r a_value h = absurd (clash cc)
refused-low {alone = ns} {n = n} p q r (by_number {n = m} i) h = let z : m ≡ n = cc in rw (← z) (not-zero ns m p i)
refused-low {pictured = ns} {n = n} p q r (by_picture {n = m} i) h = let z : m ≡ n = cc in rw (← z) (not-zero ns m q i)
refused-low {full = ns} {n = n} p q r (by_all {n = m} i) h = let z : m ≡ n = cc in rw (← z) (not-zero ns m r i)

-- 1 or 2
abbrev pub Header : {X : Type 0} → Answer X → Type 0
Header a = Numbered (1 ∷ 2 ∷ []) [] [] a

pub fields_numbered : (fs : List Field) (s : List ℕ) (i : ℕ) → Header (read_fields fs s i)
unfolding read_fields
fields_numbered [] s i = a_value
fields_numbered (f ∷ fs) s i =
    pick_elim Header _ (λ e. by_number refl) λ e.
    pick_elim Header _ (λ e. by_number refl) λ e.
    and_then_lem _ (fields_numbered fs s (i + f.width)) (λ vs. a_value)

pub header_numbered : (code : List ℕ) (fs : List Field) (s : List ℕ) → Header (read_header code fs s)
unfolding read_header
header_numbered code fs s = pick_elim Header _ (λ e. by_number refl) λ e. pick_elim Header _ (λ e. by_number refl) λ e. fields_numbered fs s 32

pub write_numbered : (code : List ℕ) (fs : List Field) (vs out : List ℕ) → Numbered (16 ∷ 19 ∷ []) [] [] (write_answer code fs vs out)
unfolding write_answer
write_numbered code fs vs out =
    pick_elim (Numbered (16 ∷ 19 ∷ []) [] []) _ (λ e. by_number refl) λ e. pick_elim (Numbered (16 ∷ 19 ∷ []) [] []) _ (λ e. by_number refl) λ e. a_value
