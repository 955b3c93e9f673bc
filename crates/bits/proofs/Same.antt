-- Two lists of bytes that have the same bits from a bit on are read the same from there.
-- Assumes nothing.
use mathlib.Core.Path.{◌≡◌, refl, sym, ◌∙◌}
use mathlib.Core.List.{List, [], ◌∷◌}
use Prim.Native.Nat.{ℕ, ◌+◌, ◌≤◌}
use native.Mathlib.Nat.{add-zero}
use native.Mathlib.Omega.{arith}
use lib.ListN.{length, drop, length-drop}
use lib.Seq.{get_or-drop, ext_get_or}
use Rattle.bits.specs.Bits.{bit_at, bits_at, bit_list, there}
use Rattle.bits.specs.Fields.{Field, read_fields}
use Rattle.bits.proofs.Laws.{bits_none, bits_more, bit_list-length, bit_list-at}

-- one bit
pub bits_one : (s : List ℕ) (i : ℕ) → bits_at s i 1 ≡ bit_at s i
bits_one s i = bits_more s i 0 ∙ rw (bits_none s i, add-zero i) (omega arith)

module _ (s t : List ℕ) (l : length t ≡ length s) where
  pub read_same : (fs : List Field) (i : ℕ) → ((k n : ℕ) → i ≤ k → bits_at t k n ≡ bits_at s k n) → read_fields fs t i ≡ read_fields fs s i
  unfolding read_fields there
  read_same [] i b = refl
  read_same (f ∷ fs) i b =
      rw (l, b i f.width (omega arith), read_same fs (i + f.width) (λ k n h. b k n (omega arith)))

  pub bit_list-same : (i : ℕ) → ((k n : ℕ) → i ≤ k → bits_at t k n ≡ bits_at s k n) → drop i (bit_list t) ≡ drop i (bit_list s)
  bit_list-same i b =
      ext_get_or 0 (drop i (bit_list t)) (drop i (bit_list s)) (rw (length-drop i (bit_list t), length-drop i (bit_list s), bit_list-length t, bit_list-length s, l))
      (λ j h.
      get_or-drop i (bit_list t) j 0 ∙ bit_list-at t (i + j) ∙ sym (bits_one t (i + j)) ∙ b (i + j) 1 (omega arith) ∙ bits_one s (i + j)
      ∙ sym (get_or-drop i (bit_list s) j 0 ∙ bit_list-at s (i + j)))
