-- The laws of the extra information in a picture header: the walk from flag to flag, that it ends within the bytes, and that bytes
-- after it change nothing.
-- Assumes nothing.
use mathlib.Core.Path.{◌≡◌, refl, sym, ap, ◌∙◌}
use mathlib.Core.List.{List, [], ◌∷◌, ◌++◌}
use mathlib.Core.Bool.{Bool, true, false}
use Prim.Native.Nat.{ℕ, zero, suc, ◌+◌, ◌-◌, ◌*◌, ◌≤◌, ◌<◌}
use native.Mathlib.Nat.{add-zero}
use native.Mathlib.Omega.{arith}
use lib.Dec.{leb, lit≤}
use lib.ListN.{length, get_or, take, drop, length-drop, drop_of_length-le}
use lib.Seq.{drop-cons, drop-drop, drop-append-le}
use borrow.Author.Tests.{leb-true, leb-false}
use Rattle.bits.specs.Bits.{bit_at, bits_at, bit_list, there}
use Rattle.bits.specs.Refusals.{Answer, value, refused, and_then}
use Rattle.bits.specs.Answers.{read_bits}
use Rattle.bits.proofs.Laws.{bits_none, bits_more, bits_drop, bit_list-length, bit_list-append, bit_list-at}
use Rattle.bits.proofs.Reading.{ParseOutcome, cut, whole, then_seen, bits_found, missed, there_is, there_true, rest_is, there-drop}
use Rattle.picture_header.specs.PictureHeader.{extra, extra_at}
use Rattle.bits.proofs.Following.{Stays, then_stays}
use Rattle.bits.proofs.Flags.{clash}

-- the extra information: bits passed over are bits dropped
pass_over : (k : ℕ) (bs : List ℕ) → extra k bs ≡ extra 0 (drop k bs)
unfolding extra
pass_over zero bs = refl
pass_over (suc k) [] = refl
pass_over (suc k) (b ∷ bs) = pass_over k bs

abbrev one_more : Answer ℕ → Answer ℕ
one_more a = and_then a (λ n. value (suc n))

-- a flag at bit p: the bits end before it; it is the last; a byte and another flag follow it
module _ (bs : List ℕ) (p : ℕ) where
  flag_cut : length bs ≤ p → extra 0 (drop p bs) ≡ refused 1 0 0 0
  unfolding extra
  flag_cut h = rw (drop_of_length-le bs h)

  flag_last : p < length bs → get_or bs p 0 ≡ 0 → extra 0 (drop p bs) ≡ value 0
  unfolding extra
  flag_last h e = rw (drop-cons bs p 0 h, e)

  flag_more : p < length bs → (get_or bs p 0 ≡ 0 → ⊥) → extra 0 (drop p bs) ≡ one_more (extra 0 (drop (p + 9) bs))
  unfolding extra
  flag_more h n =
      let e : suc p + 8 ≡ p + 9 = omega arith in
      rw (drop-cons bs p 0 h) (one (get_or bs p 0) n ∙ ap one_more (pass_over 8 (drop (suc p) bs) ∙ ap (extra 0) (drop-drop 8 (suc p) bs ∙ ap (λ (k : ℕ). drop k bs) e)))
    where
      one : (b : ℕ) → (b ≡ 0 → ⊥) → extra 0 (b ∷ drop (suc p) bs) ≡ one_more (extra 8 (drop (suc p) bs))
      one zero z = absurd (z refl)
      one (suc b) z = refl

-- none, where the first flag is 0
pub extra-none : (s : List ℕ) (f : ℕ) → f < 8 * length s → bit_at s f ≡ 0 → extra_at s f ≡ value 0
extra-none s f h z = flag_last (bit_list s) f (omega (arith, bit_list-length s)) (bit_list-at s f ∙ z)

-- n bytes before
unfoldable pub counted_on : ℕ → Answer ℕ → Answer ℕ
counted_on n a = and_then a (λ k. value (n + k))

after_none : (a : Answer ℕ) → a ≡ counted_on 0 a
unfolding counted_on
after_none (refused n p c e) = refl
after_none (value k) = ap value (omega arith)

after_more : (n : ℕ) (a : Answer ℕ) → counted_on n (one_more a) ≡ counted_on (n + 1) a
unfolding counted_on
after_more n (refused m p c e) = refl
after_more n (value k) = ap value (omega arith)

-- the walk over the flags of the bytes s, the first at bit f: n of them are 1, and the next is at bit f + 9 * n
pub record Walk (s : List ℕ) (f n : ℕ) : Type 0 where
  pub so_far : extra_at s f ≡ counted_on n (extra_at s (f + 9 * n))

pub walk_none : (s : List ℕ) (f : ℕ) → Walk s f 0
walk_none s f = record { so_far = rw (add-zero f) (after_none _) }

module _ {s : List ℕ} {f n : ℕ} (w : Walk s f n) where
  pub walk_cut : 8 * length s ≤ f + 9 * n → refused 1 0 0 0 ≡ extra_at s f
  unfolding counted_on
  walk_cut h = sym (rw (w.so_far, flag_cut (bit_list s) (f + 9 * n) (omega (arith, bit_list-length s))))

  pub walk_end : f + 9 * n < 8 * length s → bit_at s (f + 9 * n) ≡ 0 → value n ≡ extra_at s f
  unfolding counted_on
  walk_end h z =
      sym (rw (w.so_far, flag_last (bit_list s) (f + 9 * n) (omega (arith, bit_list-length s)) (bit_list-at s (f + 9 * n) ∙ z), add-zero n))

  pub walk_more : f + 9 * n < 8 * length s → (bit_at s (f + 9 * n) ≡ 0 → ⊥) → Walk s f (n + 1)
  walk_more h z =
      let e : f + 9 * n + 9 ≡ f + 9 * (n + 1) = omega arith in
      record {
        so_far =
            w.so_far
            ∙ ap (counted_on n) (flag_more (bit_list s) (f + 9 * n) (omega (arith, bit_list-length s)) (λ y. z (sym (bit_list-at s (f + 9 * n)) ∙ y)))
            ∙ after_more n _ ∙ ap (λ (p : ℕ). counted_on (n + 1) (extra_at s p)) e;
      }

-- flag n as it is read, from byte n on
module _ (s : List ℕ) (f n : ℕ) (h : n < length s) where
  place : 8 * n + (f + n) ≡ f + 9 * n
  place = omega arith

  there_place : there (drop n s) (f + n) 1 ≡ there s (f + 9 * n) 1
  there_place = there-drop n s (f + n) 1 (omega arith) ∙ ap (λ (i : ℕ). there s i 1) place

  pub flag_read : (v : ℕ) → value v ≡ read_bits (take (length s - n) (drop n s)) (f + n) 1
      → (f + 9 * n < 8 * length s) × (v ≡ bit_at s (f + 9 * n))
  flag_read v e =
      let r = bits_found (drop n s) (f + n) 1 v (rw rest_is at (e)) in
      let b : bits_at s (f + 9 * n) 1 ≡ bit_at s (f + 9 * n) = bits_more s (f + 9 * n) 0 ∙ rw (bits_none s (f + 9 * n), add-zero (f + 9 * n)) (omega arith) in (
        omega (arith, (there_true s (f + 9 * n) 1 (sym there_place ∙ r.0)).1),
        r.1 ∙ bits_drop n s (f + n) 1 ∙ ap (λ (i : ℕ). bits_at s i 1) place ∙ b,
      )

  pub flag_missed : refused 1 0 0 0 ≡ read_bits (take (length s - n) (drop n s)) (f + n) 1 → 8 * length s ≤ f + 9 * n
  flag_missed e = case (leb (8 * length s) (f + 9 * n)) refl
    where
      gone : there s (f + 9 * n) 1 ≡ false
      gone = sym there_place ∙ missed (drop n s) (f + n) 1 (rw rest_is at (e))

      case : (b : Bool) → leb (8 * length s) (f + 9 * n) ≡ b → 8 * length s ≤ f + 9 * n
      case true q = leb-true _ _ q
      case false q =
          let t = there_is s (f + 9 * n) 1 (lit≤ tt) (omega (arith, leb-false (8 * length s) (f + 9 * n) q)) in
          absurd (clash (cc gone))

-- what it finds
extra-found : (k : ℕ) (bs : List ℕ) → ParseOutcome (extra k bs)
unfolding extra
extra-found k [] = cut
extra-found (suc k) (b ∷ bs) = extra-found k bs
extra-found zero (zero ∷ bs) = whole 0
extra-found zero (suc b ∷ bs) = then_seen (extra-found 8 bs) (λ n. whole (suc n))

pub extra_seen : (s : List ℕ) (f : ℕ) → ParseOutcome (extra_at s f)
extra_seen s f = extra-found 0 (drop f (bit_list s))

-- an extra information that ends, ends within the bits
extra-within : (k : ℕ) (bs : List ℕ) (n : ℕ) → extra k bs ≡ value n → k + 9 * n + 1 ≤ length bs
unfolding extra
extra-within k [] n e = absurd (clash cc)
extra-within (suc k) (b ∷ bs) n e = omega (arith, extra-within k bs n e)
extra-within zero (zero ∷ bs) n e = let z : 0 ≡ n = cc in omega arith
extra-within zero (suc b ∷ bs) n e = case (extra 8 bs) refl e (λ m. extra-within 8 bs m)
  where
    case : (x : Answer ℕ) → extra 8 bs ≡ x → one_more x ≡ value n → ((m : ℕ) → extra 8 bs ≡ value m → 8 + 9 * m + 1 ≤ length bs)
        → 0 + 9 * n + 1 ≤ suc (length bs)
    case (refused a b c d) q y rec = absurd (clash cc)
    case (value m) q y rec = let z : suc m ≡ n = cc in omega (arith, rec m q)

pub extra_inside : (s : List ℕ) (f n : ℕ) → extra_at s f ≡ value n → f + 9 * n + 1 ≤ 8 * length s
extra_inside s f n e = omega (arith, extra-within 0 (drop f (bit_list s)) n e, length-drop f (bit_list s), bit_list-length s)

-- and bits after do not matter, unless the bits end first
extra_longer : (k : ℕ) (bs cs : List ℕ) → Stays (extra k bs) (extra k (bs ++ cs))
unfolding extra
extra_longer k [] cs = λ h. absurd (h refl)
extra_longer (suc k) (b ∷ bs) cs = extra_longer k bs cs
extra_longer zero (zero ∷ bs) cs = λ h. refl
extra_longer zero (suc b ∷ bs) cs = then_stays (extra 8 bs) _ _ _ (extra_longer 8 bs cs) (λ n h. refl)

pub extra-append : (s t : List ℕ) (f : ℕ) → Stays (extra_at s f) (extra_at (s ++ t) f)
extra-append s t f h = case (leb f (length (bit_list s))) refl
  where
    case : (b : Bool) → leb f (length (bit_list s)) ≡ b → extra_at (s ++ t) f ≡ extra_at s f
    case true e = rw (bit_list-append s t, drop-append-le f (bit_list s) (bit_list t) (leb-true f (length (bit_list s)) e)) (extra_longer 0 (drop f (bit_list s)) (bit_list t) h)
    case false e = absurd (h (flag_cut (bit_list s) f (omega (arith, leb-false f (length (bit_list s)) e))))
