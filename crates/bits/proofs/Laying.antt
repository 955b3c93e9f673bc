-- Bytes appended one after another, as a loop does it: after some, their bits are appended.
-- Assumes nothing.
use mathlib.Core.Path.{◌≡◌, refl, ap, ◌∙◌}
use mathlib.Core.List.{List, append-nil}
use Prim.Native.Nat.{ℕ, zero, suc, ◌+◌, ◌*◌, ◌≤◌, ◌<◌}
use native.Mathlib.Nat.{add-zero}
use native.Mathlib.Numerals.{add-one}
use native.Mathlib.Omega.{arith}
use lib.ListN.{length, get_or, take}
use lib.Seq.{take-suc, take_all, length-take-le}
use Rattle.bits.specs.Bits.{digits, bit_list, append_bits}
use Rattle.bits.specs.Answers.{wrote_bits}
use Rattle.bits.proofs.Laws.{length_digits, bit_list-length}
use Rattle.bits.proofs.Reading.{there_is}
use Rattle.bits.proofs.Appending.{bit_list_bound, bit_list-more, append-length, append-append}
use Rattle.bits.proofs.Putting.{wrote_there}

-- s after k of the bytes, the first at bit i
unfoldable pub bytes_appended : List ℕ → ℕ → List ℕ → ℕ → List ℕ
bytes_appended s i bytes zero = s
bytes_appended s i bytes (suc k) = wrote_bits (bytes_appended s i bytes k) (i + 8 * k) 8 (get_or bytes k 0)

module _ (s : List ℕ) (i : ℕ) (bytes : List ℕ) where
  pub laid_none : s ≡ bytes_appended s i bytes 0
  unfolding bytes_appended
  laid_none = refl

  pub laid-length : (k : ℕ) → i + 8 * k ≤ 8 * length s → length (bytes_appended s i bytes k) ≡ length s
  unfolding bytes_appended
  laid-length zero h = refl
  laid-length (suc k) h =
      let o = bytes_appended s i bytes k in
      let l : length o ≡ length s = laid-length k (omega arith) in
      rw (wrote_there o (i + 8 * k) 8 (get_or bytes k 0) (there_is o (i + 8 * k) 8 (omega arith) (omega arith)))
      (append-length o (i + 8 * k) (digits 8 (get_or bytes k 0)) (omega (arith, length_digits 8 (get_or bytes k 0))) ∙ l)

  pub laid_more : {o p : List ℕ} (k : ℕ) → o ≡ bytes_appended s i bytes k → p ≡ wrote_bits o (i + 8 * k) 8 (get_or bytes k 0) → p ≡ bytes_appended s i bytes (k + 1)
  unfolding bytes_appended
  laid_more k e q = q ∙ rw (e, add-one k)

  -- from the first byte on
  laid-some : (k : ℕ) → k < length bytes → i + 8 * suc k ≤ 8 * length s → bytes_appended s i bytes (suc k) ≡ append_bits s i (bit_list (take (suc k) bytes))
  unfolding bytes_appended bit_list
  laid-some zero l h =
      rw (add-zero i, take-suc bytes 0 0 l, append-nil) (wrote_there s i 8 (get_or bytes 0 0) (there_is s i 8 (omega arith) (omega arith)))
  laid-some (suc k) l h =
      let o = bytes_appended s i bytes (suc k) in
      let b = get_or bytes (suc k) 0 in
      let bs = bit_list (take (suc k) bytes) in
      let n : length bs ≡ 8 * suc k = bit_list-length (take (suc k) bytes) ∙ ap (λ (x : ℕ). 8 * x) (length-take-le (suc k) bytes (omega arith)) in
      let r : length o ≡ length s = laid-length (suc k) (omega arith) in
      wrote_there o (i + 8 * suc k) 8 b (there_is o (i + 8 * suc k) 8 (omega arith) (omega arith))
      ∙ rw (laid-some k (omega arith) (omega arith), ← n, take-suc bytes (suc k) 0 l, bit_list-more (take (suc k) bytes) b)
      (append-append s i bs (digits 8 b) (bit_list_bound (take (suc k) bytes)) (omega (arith, length_digits 8 b)))

  pub laid_all : (n : ℕ) → length bytes ≡ suc n → i + 8 * suc n ≤ 8 * length s → bytes_appended s i bytes (suc n) ≡ append_bits s i (bit_list bytes)
  laid_all n e h = laid-some n (omega arith) h ∙ rw (take_all (suc n) bytes (omega arith))
