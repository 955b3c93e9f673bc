-- Whether values fit a table: the test of a field, the proposition, and the code's loop.
-- Assumes nothing.
use mathlib.Core.Path.{◌≡◌, refl, sym, ap, ◌∙◌}
use mathlib.Core.List.{List, [], ◌∷◌}
use mathlib.Core.Bool.{Bool, true, false, not, ◌&&◌, false≢true}
use Prim.Native.Nat.{ℕ, zero, suc, ◌+◌, ◌*◌, ◌^◌, ◌≤◌, ◌<◌, zero-le}
use native.Mathlib.Numerals.{add-one}
use native.Mathlib.Nat.{zero-add, add-zero}
use native.Mathlib.Omega.{arith}
use lib.Dec.{leb, ltb}
use lib.ListN.{length, get_or, drop, drop_of_length-le}
use lib.Seq.{drop-cons}
use borrow.Author.Tests.{le-leb, lt-ltb, leb-true, ltb-true}
use Rattle.bits.specs.Bits.{pick}
use Rattle.bits.specs.Refusals.{Answer, value, refused}
use Rattle.bits.specs.Fields.{Field, field, obeys, fits_field, fits_all, total}
use Rattle.bits.specs.Answers.{greatest, table_of, check_fields, checked_answer}
use Rattle.std.specs.Prelude.{Option}
use Rattle.bits.proofs.Flags.{both_true}
use Rattle.bits.proofs.Reading.{field_at, table_at, table_room, obeys_is, obeys_true}

-- values that fit a table, as a proposition
pub data Fits : List Field → List ℕ → Type 0 where
  fits_none : Fits [] []
  fits_more : {f : Field} {fs : List Field} {v : ℕ} {vs : List ℕ}
      → f.width ≤ 32 → v < 2 ^ f.width → f.low ≤ v → v ≤ f.high → Fits fs vs → Fits (f ∷ fs) (v ∷ vs)

pub fits-of : (fs : List Field) (vs : List ℕ) → fits_all fs vs ≡ true → Fits fs vs
unfolding fits_all fits_field
fits-of [] [] e = fits_none
fits-of [] (v ∷ vs) e = absurd (false≢true e)
fits-of (f ∷ fs) [] e = absurd (false≢true e)
fits-of (f ∷ fs) (v ∷ vs) e =
    let a = both_true (fits_field f v) (fits_all fs vs) e in
    let b = both_true (leb f.width 32) (ltb v (2 ^ f.width) && obeys f v) a.0 in
    let d = both_true (ltb v (2 ^ f.width)) (obeys f v) b.1 in
    let o = obeys_true f v d.1 in
    fits_more (leb-true _ _ b.0) (ltb-true _ _ d.0) o.0 o.1 (fits-of fs vs a.1)

pub fits_all_lem : {fs : List Field} {vs : List ℕ} → Fits fs vs → fits_all fs vs ≡ true
unfolding fits_all fits_field
fits_all_lem fits_none = refl
fits_all_lem (fits_more {f} {fs} {v} {vs} a b c d r) = rw (le-leb _ _ a, lt-ltb _ _ b, obeys_is f v c d) (fits_all_lem r)

pub fits-length : {fs : List Field} {vs : List ℕ} → Fits fs vs → length vs ≡ length fs
fits-length fits_none = refl
fits-length (fits_more a b c d r) = ap suc (fits-length r)

pub fits_width : {fs : List Field} {vs : List ℕ} → Fits fs vs → (k : ℕ) → (get_or fs k (field 0 0 0)).width ≤ 32
fits_width fits_none k = zero-le
fits_width (fits_more a b c d r) zero = a
fits_width (fits_more a b c d r) (suc k) = fits_width r k

-- as many values as fields
pub misfit_count : (fs : List Field) (vs : List ℕ) → (length vs ≡ length fs → ⊥) → fits_all fs vs ≡ false
unfolding fits_all
misfit_count [] [] n = absurd (n refl)
misfit_count [] (v ∷ vs) n = refl
misfit_count (f ∷ fs) [] n = refl
misfit_count (f ∷ fs) (v ∷ vs) n = rw (misfit_count fs vs (λ e. n (ap suc e))) (and_false (fits_field f v))
  where
    and_false : (b : Bool) → b && false ≡ false
    and_false true = refl
    and_false false = refl

-- a case of the answer, by what it tells
pub checked_case : {r x : Option ℕ} {a : Answer ℕ} → r ≡ x → checked_answer r ≡ a → checked_answer x ≡ a
checked_case e f = rw (← e) f

-- what the answer says
module _ (fs : List Field) (vs : List ℕ) where
  pub check_misfit : fits_all fs vs ≡ false → refused 16 0 0 0 ≡ check_fields fs vs
  unfolding check_fields pick
  check_misfit e = rw e

  pub check-width : (n : ℕ) → fits_all fs vs ≡ true → total fs ≡ n → value n ≡ check_fields fs vs
  unfolding check_fields pick
  check-width n e t = rw (e, t)

  pub checked-width : {n : ℕ} → value n ≡ check_fields fs vs → (fits_all fs vs ≡ true) × (n ≡ total fs)
  unfolding check_fields pick
  checked-width {n} e = case (fits_all fs vs) e
    where
      case : (b : Bool) → value n ≡ pick (not b) (refused 16 0 0 0) (value (total fs)) → (b ≡ true) × (n ≡ total fs)
      case true q = (refl, cc)
      case false q = ((cc), (cc))

  pub checked_misfit : refused 16 0 0 0 ≡ check_fields fs vs → fits_all fs vs ≡ false
  unfolding check_fields pick
  checked_misfit e = case (fits_all fs vs) e
    where
      case : (b : Bool) → refused 16 0 0 0 ≡ pick (not b) (refused 16 0 0 0) (value (total fs)) → b ≡ false
      case true q = cc
      case false q = refl

-- the code's loop, after k of n fields, which have so many bits: it is left whether the others fit
pub record Checking (t vs : List ℕ) (n k bits : ℕ) : Type 0 where
  pub count : n ≡ length (table_of 24 t)
  pub most : n ≤ 24
  pub room : 3 * n ≤ length t
  pub many : length vs ≡ n
  pub within : k ≤ n
  pub near : bits ≤ 255 * k
  pub fits_on : fits_all (table_of 24 t) vs ≡ fits_all (drop k (table_of 24 t)) (drop k vs)
  pub bits_on : total (table_of 24 t) ≡ bits + total (drop k (table_of 24 t))

pub checking_none : {t vs : List ℕ} {n : ℕ} → n ≡ length (table_of 24 t) → length vs ≡ n → Checking t vs n 0 0
checking_none {t} e l = record {
  count = e;
  most = omega (arith, table_room 24 t);
  room = omega (arith, table_room 24 t);
  many = l;
  within = zero-le;
  near = zero-le;
  fits_on = refl;
  bits_on = sym (zero-add _);
}

module _ {t vs : List ℕ} {n k bits w : ℕ} (r : Checking t vs n k bits) (h : k < n) (e : w ≡ get_or t (3 * k) 0) where
  cons : drop k (table_of 24 t) ≡ field_at t k ∷ drop (k + 1) (table_of 24 t)
  cons = rw (add-one k, drop-cons (table_of 24 t) k (field 0 0 0) (omega arith), table_at 24 t k (omega arith))

  next : fits_all (table_of 24 t) vs ≡ fits_field (field_at t k) (get_or vs k 0) && fits_all (drop (k + 1) (table_of 24 t)) (drop (k + 1) vs)
  unfolding fits_all
  next = r.fits_on ∙ rw (cons, drop-cons vs k 0 (omega arith), add-one k)

  pub checking_misfit : {f : Bool} → f ≡ fits_field (field w (get_or t (3 * k + 1) 0) (greatest w (get_or t (3 * k + 2) 0))) (get_or vs k 0) → f ≡ false
      → refused 16 0 0 0 ≡ check_fields (table_of 24 t) vs
  checking_misfit p f = check_misfit (table_of 24 t) vs (next ∙ rw (sym (rw e at p) ∙ f))

  pub checking_more : {f : Bool} → f ≡ fits_field (field w (get_or t (3 * k + 1) 0) (greatest w (get_or t (3 * k + 2) 0))) (get_or vs k 0) → f ≡ true
      → w < 256 → Checking t vs n (k + 1) (bits + w)
  unfolding total
  checking_more p f b = record {
    count = r.count;
    most = r.most;
    room = r.room;
    many = r.many;
    within = omega arith;
    near = omega arith;
    fits_on = next ∙ rw (sym (rw e at p) ∙ f);
    bits_on = r.bits_on ∙ rw cons (omega arith);
  }

pub checking_end : {t vs : List ℕ} {n k bits : ℕ} → Checking t vs n k bits → n ≤ k → value bits ≡ check_fields (table_of 24 t) vs
unfolding fits_all total
checking_end {t} {vs} {n} {k} {bits} r h =
    let a : drop k (table_of 24 t) ≡ [] = drop_of_length-le (table_of 24 t) {i = k} (omega arith) in
    let b : drop k vs ≡ [] = drop_of_length-le vs {i = k} (omega arith) in
    check-width (table_of 24 t) vs bits (r.fits_on ∙ rw (a, b)) (r.bits_on ∙ rw (a, add-zero bits))
