-- The flag of a matrix and its 64 bytes: what a read of them finds.
-- Assumes nothing.
use mathlib.Core.Path.{◌≡◌, refl, ap, ◌∙◌}
use mathlib.Core.List.{List, [], ◌∷◌, ◌++◌}
use mathlib.Core.Bool.{Bool, true, false}
use Prim.Native.Nat.{ℕ, zero, suc, ◌+◌, ◌*◌}
use native.Mathlib.Omega.{arith}
use lib.Dec.{eqb}
use lib.ListN.{length, get_or}
use borrow.Author.Tests.{ne_eqb}
use Rattle.std.specs.Prelude.{Option, Some, None, IfSome}
use Rattle.bits.specs.Bits.{pick}
use Rattle.bits.specs.Refusals.{Answer, value, refused, and_then}
use Rattle.bits.specs.Fields.{any_value, read_fields, total}
use Rattle.bits.specs.Answers.{read_bits}
use Rattle.bits.proofs.Reading.{Bit, absent, present, bits_seen, found_bound, ParseOutcome, cut, broken, whole, fields_seen, never_bad, read_length, read_append, total-none, total-more, total-same, first_found, read_none, any_missed, any_found}
use Rattle.bits.proofs.Following.{then_value, Stays, then_stays}
use Rattle.headers.specs.QuantMatrix.{matrix_bytes, read_matrix, load_flag, matrix_fields, matrix_values}

-- the three ways of read_matrix
module _ (s : List ℕ) (i : ℕ) where
  pub flag_missed : refused 1 0 0 0 ≡ read_bits s i 1 → read_matrix s i ≡ refused 1 0 0 0
  unfolding read_matrix
  flag_missed e = rw (any_missed 1 [] s i e)

  pub flag_unset : (v : ℕ) → value v ≡ read_bits s i 1 → v ≡ 0 → read_matrix s i ≡ value None
  unfolding read_matrix pick
  flag_unset v e z = rw (any_found 1 [] s i v e, read_none s (i + 1), z)

  pub flag_set : (v : ℕ) → value v ≡ read_bits s i 1 → (v ≡ 0 → ⊥) → read_matrix s i ≡ and_then (read_fields matrix_bytes s (i + 1)) (λ bytes. value (Some bytes))
  unfolding read_matrix pick
  flag_set v e n = rw (any_found 1 [] s i v e, read_none s (i + 1), ne_eqb v 0 n)

-- what a read finds: too few bits; the flag alone; or the flag and 64 bytes
pub data Matrix (s : List ℕ) (i : ℕ) : Answer (Option (List ℕ)) → Type 0 where
  missing : Matrix s i (refused 1 0 0 0)
  none : read_fields (matrix_fields None) s i ≡ value (matrix_values None) → Matrix s i (value None)
  one : (bytes : List ℕ) → read_fields (matrix_fields (Some bytes)) s i ≡ value (matrix_values (Some bytes)) → length bytes ≡ 64 → Matrix s i (value (Some bytes))

module _ (s : List ℕ) (i : ℕ) where
  flag_alone : value 0 ≡ read_bits s i 1 → read_fields (matrix_fields None) s i ≡ value (matrix_values None)
  unfolding matrix_fields matrix_values
  flag_alone e = rw (any_found 1 [] s i 0 e, read_none s (i + 1))

  flag_and_bytes : (bytes : List ℕ) → value 1 ≡ read_bits s i 1 → read_fields matrix_bytes s (i + 1) ≡ value bytes
      → read_fields (matrix_fields (Some bytes)) s i ≡ value (matrix_values (Some bytes))
  unfolding matrix_fields matrix_values
  flag_and_bytes bytes e q = rw (any_found 1 matrix_bytes s i 1 e, q)

  sixty_four : (bytes : List ℕ) → read_fields matrix_bytes s (i + 1) ≡ value bytes → length bytes ≡ 64
  unfolding matrix_bytes
  sixty_four bytes q = read_length matrix_bytes s (i + 1) bytes q

  never_broken : read_fields matrix_bytes s (i + 1) ≡ refused 2 0 0 0 → ⊥
  unfolding matrix_bytes
  never_broken q = never_bad 64 8 s (i + 1) q

  pub matrix_seen : Matrix s i (read_matrix s i)
  matrix_seen = flag (bits_seen s i 1) refl
    where
      loaded : {p : Answer (List ℕ)} → ParseOutcome p → read_fields matrix_bytes s (i + 1) ≡ p → value 1 ≡ read_bits s i 1 → Matrix s i (and_then p (λ bytes. value (Some bytes)))
      loaded cut q e = missing
      loaded broken q e = absurd (never_broken q)
      loaded (whole bytes) q e = one bytes (flag_and_bytes bytes e q) (sixty_four bytes q)

      bit : (v : ℕ) → value v ≡ read_bits s i 1 → Matrix s i (read_matrix s i)
      bit zero e = rw (flag_unset s i 0 e refl) (none (flag_alone e))
      bit (suc zero) e = rw (flag_set s i 1 e (λ z. omega arith)) (loaded (fields_seen matrix_bytes s (i + 1)) refl e)
      bit (suc (suc v)) e = absurd (omega (arith, found_bound s i 1 (suc (suc v)) e))

      flag : {b : Answer ℕ} → Bit s i 1 b → b ≡ read_bits s i 1 → Matrix s i (read_matrix s i)
      flag (absent t) e = rw (flag_missed s i e) missing
      flag (present t) e = bit _ e

  -- too few bits or a matrix, and what stands after does not matter to one
  pub matrix_found : ParseOutcome (read_matrix s i)
  matrix_found = case matrix_seen
    where
      case : {a : Answer (Option (List ℕ))} → Matrix s i a → ParseOutcome a
      case missing = cut
      case (none e) = whole None
      case (one bytes e l) = whole (Some bytes)

  pub matrix_stays : (t : List ℕ) → Stays (read_matrix s i) (read_matrix (s ++ t) i)
  unfolding read_matrix pick
  matrix_stays t =
      then_stays (read_fields (any_value 1 ∷ []) s i) _ _ _ (read_append (any_value 1 ∷ []) s t i) (λ f.
      picked (eqb (get_or f 0 0) 0) (value None)
      (then_stays (read_fields matrix_bytes s (i + 1)) _ _ _ (read_append matrix_bytes s t (i + 1)) (λ bytes k. refl)))
    where
      picked : {X : Type 0} (b : Bool) (x : Answer X) {y z : Answer X} → Stays y z → Stays (pick b x y) (pick b x z)
      picked true x h k = refl
      picked false x h k = h k

  -- a matrix that was read is written again
  module _ (m : Option (List ℕ)) (e : read_matrix s i ≡ value m) where
    seen : Matrix s i (value m)
    seen = rw e at (matrix_seen)

    pub matrix_back : read_fields (matrix_fields m) s i ≡ value (matrix_values m)
    matrix_back = case seen
      where
        case : {n : Option (List ℕ)} → Matrix s i (value n) → read_fields (matrix_fields n) s i ≡ value (matrix_values n)
        case (none q) = q
        case (one bytes q l) = q

    pub matrix_places : IfSome m (λ bytes. length bytes ≡ 64)
    matrix_places = case seen
      where
        case : {n : Option (List ℕ)} → Matrix s i (value n) → IfSome n (λ bytes. length bytes ≡ 64)
        case (none q) = tt
        case (one bytes q l) = l

  -- a matrix that was written is read again
  pub matrix_read_back : (m : Option (List ℕ)) → read_fields (matrix_fields m) s i ≡ value (matrix_values m) → read_matrix s i ≡ value m
  unfolding matrix_fields matrix_values
  matrix_read_back None e = flag_unset s i 0 (first_found (any_value 1) [] s i (0 ∷ []) e) refl
  matrix_read_back (Some bytes) e =
      let f = first_found (any_value 1) matrix_bytes s i (1 ∷ bytes) e in
      let q = then_value (read_fields matrix_bytes s (i + 1)) (rw (any_found 1 matrix_bytes s i 1 f) at (e)) in
      let b : q.0 ≡ bytes = cc in
      flag_set s i 1 f (λ z. omega arith) ∙ rw (q.1, b)

-- how many fields, and how many bits
pub matrix_count : (m : Option (List ℕ)) → IfSome m (λ bytes. length bytes ≡ 64) → length (matrix_values m) ≡ length (matrix_fields m)
unfolding matrix_values matrix_fields matrix_bytes
matrix_count (Some bytes) l = ap suc l
matrix_count None l = refl

pub matrix_total : (m : Option (List ℕ)) → total (matrix_fields m) ≡ 1 + 512 * load_flag m
unfolding matrix_fields matrix_bytes
matrix_total (Some bytes) = total-more (any_value 1) matrix_bytes ∙ ap (λ (n : ℕ). 1 + n) (total-same 64 (any_value 8))
matrix_total None = total-more (any_value 1) [] ∙ ap (λ (n : ℕ). 1 + n) total-none
