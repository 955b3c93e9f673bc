-- Numbers of an input: past its end, and of two halves.
-- Assumes nothing.
use Rattle.std.proofs.Common.{◌≡◌, ℕ, zero, suc, ◌+◌, ◌*◌, ◌≤◌, List, [], ◌∷◌, length, get_or, refl, arith}
use Rattle.cases.specs.Bytes.{number_at}

pub byte_past : (s : List ℕ) (at : ℕ) → length s ≤ at → get_or s at 0 ≡ 0
byte_past [] at h = refl
byte_past (b ∷ s) zero h = absurd (omega arith)
byte_past (b ∷ s) (suc at) h = byte_past s at (omega arith)

pub number_past : (n : ℕ) (s : List ℕ) (at : ℕ) → length s ≤ at → number_at n s at ≡ 0
unfolding number_at
number_past zero s at h = refl
number_past (suc n) s at h = rw (byte_past s at h, number_past n s (at + 1) (omega arith))

pub two_bytes : (s : List ℕ) (at : ℕ) → number_at 2 s at ≡ get_or s at 0 + 256 * get_or s (at + 1) 0
unfolding number_at
two_bytes s at = omega arith

pub four_bytes : (s : List ℕ) (at : ℕ) → number_at 4 s at ≡ number_at 2 s at + 65536 * number_at 2 s (at + 2)
unfolding number_at
four_bytes s at =
    let a : at + 1 + 1 ≡ at + 2 = omega arith in
    rw a (omega arith)

pub eight_bytes : (s : List ℕ) (at : ℕ) → number_at 8 s at ≡ number_at 4 s at + 4294967296 * number_at 4 s (at + 4)
unfolding number_at
eight_bytes s at =
    let a : at + 1 + 1 + 1 + 1 ≡ at + 4 = omega arith in
    rw a (omega arith)
