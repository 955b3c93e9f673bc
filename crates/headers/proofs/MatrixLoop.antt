-- The loop of read_bytes: what is known after k bytes, and each way to go on.
-- Assumes nothing.
use mathlib.Core.Path.{◌≡◌, refl, ◌∙◌}
use mathlib.Core.List.{List, [], ◌∷◌, append-nil}
use Prim.Native.Nat.{ℕ, suc, ◌+◌, ◌-◌, ◌*◌, ◌≤◌, ◌<◌, zero-le}
use native.Mathlib.Numerals.{add-one}
use native.Mathlib.Omega.{arith}
use lib.ListN.{length, take, set, replicate, length-set}
use lib.Seq.{take-suc-set, take_all}
use Rattle.bits.specs.Refusals.{value, refused}
use Rattle.bits.specs.Fields.{any_value, read_fields}
use Rattle.bits.specs.Answers.{read_bits}
use Rattle.bits.proofs.Reading.{prepended, prepended_none, after-after, read_none, any_missed, any_found}
use Rattle.headers.specs.QuantMatrix.{matrix_bytes}

-- the code's loop, after k of 64 bytes: they stand first in bytes, and the others are read after them
pub record MatrixReading (s : List ℕ) (at : ℕ) (bytes : List ℕ) (k : ℕ) : Type 0 where
  pub within : k ≤ 64
  pub long : length bytes ≡ 64
  pub progress : read_fields (matrix_bytes) s at ≡ prepended (take k bytes) (read_fields (replicate (64 - k) (any_value 8)) s (at + 8 * k))

pub matrix_reading_none : (s : List ℕ) (at : ℕ) → MatrixReading s at (replicate 64 0) 0
unfolding matrix_bytes
matrix_reading_none s at = record {
  within = zero-le;
  long = refl;
  progress =
      let e : at + 8 * 0 ≡ at = omega arith in
      rw (e, prepended_none (read_fields (replicate 64 (any_value 8)) s at));
}

module _ {s : List ℕ} {at : ℕ} {bytes : List ℕ} {k : ℕ} (r : MatrixReading s at bytes k) where
  module _ (h : k < 64) where
    next : read_fields (matrix_bytes) s at ≡ prepended (take k bytes) (read_fields (any_value 8 ∷ replicate (64 - suc k) (any_value 8)) s (at + 8 * k))
    next =
        let e : 64 - k ≡ suc (64 - suc k) = omega arith in
        r.progress ∙ rw e

    pub reading_short : refused 1 0 0 0 ≡ read_bits s (at + 8 * k) 8 → refused 1 0 0 0 ≡ read_fields matrix_bytes s at
    reading_short m = rw (next, any_missed 8 (replicate (64 - suc k) (any_value 8)) s (at + 8 * k) m)

    pub reading_more : {v : ℕ} → value v ≡ read_bits s (at + 8 * k) 8 → MatrixReading s at (set bytes k v) (k + 1)
    reading_more {v} f = record {
      within = omega arith;
      long = simp length-set r.long;
      progress =
          let e : at + 8 * k + 8 ≡ at + 8 * suc k = omega arith in
          next ∙ rw (any_found 8 (replicate (64 - suc k) (any_value 8)) s (at + 8 * k) v f, after-after (take k bytes) (v ∷ []) (read_fields (replicate (64 - suc k) (any_value 8)) s (at + 8 * k + 8)), add-one k, take-suc-set bytes k v (omega arith), e);
    }

  pub reading_end : 64 ≤ k → value bytes ≡ read_fields matrix_bytes s at
  reading_end h =
      let e : 64 - k ≡ 0 = omega arith in
      rw (r.progress, e, read_none s (at + 8 * k), append-nil (take k bytes), take_all k bytes (omega arith))
