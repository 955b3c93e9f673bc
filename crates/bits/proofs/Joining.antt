-- Two tables end to end: what fits them, and a header gone on with at its last bit.
-- Assumes nothing.
use mathlib.Core.Path.{◌≡◌, refl, sym, ◌∙◌}
use mathlib.Core.List.{List, [], ◌∷◌, ◌++◌, append_assoc}
use mathlib.Core.Bool.{true, ◌&&◌, and_assoc}
use Prim.Native.Nat.{ℕ, zero, suc, ◌+◌, ◌*◌, ◌/◌, ◌≤◌, zero-le}
use native.Mathlib.Omega.{arith}
use borrow.Author.Tests.{le-ltb}
use lib.ListN.{length, replicate, length-append}
use Rattle.bits.specs.Bits.{pick, digits, bit_list, append_bits}
use Rattle.bits.specs.Refusals.{value}
use Rattle.bits.specs.Fields.{Field, any_value, field_bits, write_header, fits_all, total}
use Rattle.bits.specs.Answers.{over, write_answer, write_result}
use Rattle.bits.proofs.Laws.{bit_list-length}
use Rattle.bits.proofs.Appending.{Below, below_append, bit_list_bound, append-append}
use Rattle.bits.proofs.Checking.{Fits, fits_none, fits_more, fits-of, fits-length}
use Rattle.bits.proofs.Putting.{field_bits_bound, length-field_bits, field_bits-append}
use Rattle.bits.proofs.Writing.{length_header, written-append}

-- the bits of a table, field by field
pub field_bits-more : (f : Field) (fs : List Field) (v : ℕ) (vs : List ℕ) → field_bits (f ∷ fs) (v ∷ vs) ≡ digits f.width v ++ field_bits fs vs
unfolding field_bits
field_bits-more f fs v vs = refl

pub field_bits-none : (vs : List ℕ) → field_bits [] vs ≡ []
unfolding field_bits
field_bits-none vs = refl

-- both fit
pub fits-append : (fs gs : List Field) (vs ws : List ℕ) → length vs ≡ length fs
    → fits_all (fs ++ gs) (vs ++ ws) ≡ fits_all fs vs && fits_all gs ws
unfolding fits_all
fits-append [] gs [] ws e = refl
fits-append [] gs (v ∷ vs) ws e = absurd (omega arith)
fits-append (f ∷ fs) gs [] ws e = absurd (omega arith)
fits-append (f ∷ fs) gs (v ∷ vs) ws e = rw (fits-append fs gs vs ws (omega arith), and_assoc)

-- bytes fit a field for each
pub fits-bytes : (n : ℕ) (s : List ℕ) → length s ≡ n → Below 256 s → Fits (replicate n (any_value 8)) s
fits-bytes zero [] e b = fits_none
fits-bytes zero (x ∷ s) e b = absurd (omega arith)
fits-bytes (suc n) [] e b = absurd (omega arith)
fits-bytes (suc n) (x ∷ s) e b =
    fits_more {f = any_value 8} (omega arith) (b 0) zero-le (omega (arith, b 0)) (fits-bytes n s (omega arith) (λ k. b (suc k)))

module _ (code : List ℕ) (fs : List Field) (vs out : List ℕ) where
  -- the fields of a second table appended to a header written
  pub write_on : (gs : List Field) (ws : List ℕ) → Below 256 code → length code ≡ 4 → length vs ≡ length fs → length ws ≡ length gs
      → 32 + total fs + total gs ≤ 8 * length out
      → append_bits (over (write_header code fs vs) out) (32 + total fs) (field_bits gs ws) ≡ over (write_header code (fs ++ gs) (vs ++ ws)) out
  write_on gs ws b l e g h =
      let bs = bit_list code ++ field_bits fs vs in
      let n : 32 + total fs ≡ 0 + length bs =
      omega (arith, length-append (bit_list code) (field_bits fs vs), bit_list-length code, length-field_bits fs vs e) in
      rw (written-append code fs vs out b, written-append code (fs ++ gs) (vs ++ ws) out b, n, field_bits-append fs gs vs ws e, ← append_assoc)
      (append-append out 0 bs (field_bits gs ws) (below_append 2 (bit_list code) (field_bits fs vs) (bit_list_bound code) (field_bits_bound fs vs))
      (omega (arith, length-field_bits gs ws g)))

  -- what is answered and left where the bytes are written
  pub write_over : {n : ℕ} {o : List ℕ} → length code ≡ 4 → fits_all fs vs ≡ true → n ≡ 4 + (total fs + 7) / 8 → n ≤ length out
      → o ≡ over (write_header code fs vs) out → (value n ≡ write_answer code fs vs out) × (o ≡ write_result code fs vs out)
  unfolding write_answer write_result pick
  write_over {n} l e m h q =
      let t : length (write_header code fs vs) ≡ n = length_header code fs vs l (fits-length (fits-of fs vs e)) ∙ sym m in
      (rw (e, t, le-ltb _ _ h), q ∙ rw (e, t, le-ltb _ _ h))
