-- The start codes of bytes that begin with a picture header, of none, and of bytes that begin with any code.
-- Assumes nothing.
use mathlib.Core.Path.{◌≡◌, refl}
use Prim.Native.Nat.{ℕ, ◌≤◌}
use mathlib.Core.List.{List, [], ◌∷◌}
use mathlib.Core.Bool.{false}
use mathlib.Core.Logic.{◌⊎◌, ⊎_elim}
use native.Mathlib.Omega.{arith}
use lib.ListN.{length, get_or, take, drop}
use Rattle.bits.specs.Bits.{pick}
use Rattle.bits.specs.StartCodes.{start_code, picture_start_code}
use Rattle.scan.specs.Codes.{starts, codes_from, codes}
use Rattle.scan.proofs.Prefix.{starts_four, starts_first, starts_second, starts-before}

-- the last byte of eight is not zero, or two zero bytes follow it
abbrev pub Clear : ℕ → List ℕ → Type 0
Clear d s = (d ≡ 0 → ⊥) ⊎ ((get_or s 0 1 ≡ 0) × (get_or s 1 1 ≡ 0))

starts_seventh : (c d : ℕ) (s : List ℕ) → Clear d s → starts (c ∷ d ∷ s) ≡ false
starts_seventh c d s k = ⊎_elim (starts_second c d s) (go s) k
  where
    go : (s : List ℕ) → (get_or s 0 1 ≡ 0) × (get_or s 1 1 ≡ 0) → starts (c ∷ d ∷ s) ≡ false
    go [] z = absurd (omega arith)
    go (x ∷ s) z = rw z.0 (starts-before c d s)

starts_eighth : (d : ℕ) (s : List ℕ) → Clear d s → starts (d ∷ s) ≡ false
starts_eighth d s k = ⊎_elim (starts_first d s) (go s) k
  where
    go : (s : List ℕ) → (get_or s 0 1 ≡ 0) × (get_or s 1 1 ≡ 0) → starts (d ∷ s) ≡ false
    go [] z = absurd (omega arith)
    go (x ∷ []) z = absurd (omega arith)
    go (x ∷ y ∷ s) z = rw z.1 (starts-before d x s)

-- after the picture's code the scan finds nothing before byte 8
pub codes_eight : (a b c d : ℕ) (s : List ℕ) → (b ≡ 0 → ⊥) → Clear d s
    → codes (0 ∷ 0 ∷ 1 ∷ 0 ∷ a ∷ b ∷ c ∷ d ∷ s) ≡ record { offset = 0; code = 0 } ∷ codes_from 8 0 s
unfolding codes codes_from pick
codes_eight a b c d s n k =
    rw (starts_four 0 0 1 0 (a ∷ b ∷ c ∷ d ∷ s), starts_second a b (c ∷ d ∷ s) n, starts_first b (c ∷ d ∷ s) n, starts_seventh c d s k, starts_eighth d s k)

-- a picture's code at byte 0, no zero in byte 5, and byte 7 not zero or two zeros after it
pub record PictureHead (s : List ℕ) : Type 0 where
  pub long : 10 ≤ length s
  pub code : take 4 s ≡ start_code picture_start_code
  pub fifth : get_or s 5 0 ≡ 0 → ⊥
  pub clear : (get_or s 7 0 ≡ 0 → ⊥) ⊎ ((get_or s 8 0 ≡ 0) × (get_or s 9 0 ≡ 0))

pub codes-picture : (s : List ℕ) → PictureHead s → codes s ≡ record { offset = 0; code = 0 } ∷ codes_from 8 0 (drop 8 s)
codes-picture [] h = absurd (omega (arith, h.long))
codes-picture (a ∷ []) h = absurd (omega (arith, h.long))
codes-picture (a ∷ b ∷ []) h = absurd (omega (arith, h.long))
codes-picture (a ∷ b ∷ c ∷ []) h = absurd (omega (arith, h.long))
codes-picture (a ∷ b ∷ c ∷ d ∷ []) h = absurd (omega (arith, h.long))
codes-picture (a ∷ b ∷ c ∷ d ∷ e ∷ []) h = absurd (omega (arith, h.long))
codes-picture (a ∷ b ∷ c ∷ d ∷ e ∷ f ∷ []) h = absurd (omega (arith, h.long))
codes-picture (a ∷ b ∷ c ∷ d ∷ e ∷ f ∷ g ∷ []) h = absurd (omega (arith, h.long))
codes-picture (a ∷ b ∷ c ∷ d ∷ e ∷ f ∷ g ∷ i ∷ []) h = absurd (omega (arith, h.long))
codes-picture (a ∷ b ∷ c ∷ d ∷ e ∷ f ∷ g ∷ i ∷ j ∷ []) h = absurd (omega (arith, h.long))
codes-picture (a ∷ b ∷ c ∷ d ∷ e ∷ f ∷ g ∷ i ∷ j ∷ k ∷ s) h =
    let q : a ∷ b ∷ c ∷ d ∷ [] ≡ start_code picture_start_code = h.code in
    let qa : a ≡ 0 = cc in
    let qb : b ≡ 0 = cc in
    let qc : c ≡ 1 = cc in
    let qd : d ≡ 0 = cc in
    rw (qa, qb, qc, qd) (codes_eight e f g i (j ∷ k ∷ s) h.fifth h.clear)

-- no bytes, and bytes that begin with a code
pub codes-none : codes [] ≡ []
unfolding codes codes_from
codes-none = refl

pub codes-opened : (f : ℕ) (s : List ℕ) → codes (0x00 ∷ 0x00 ∷ 0x01 ∷ f ∷ s) ≡ record { offset = 0; code = f } ∷ codes_from 4 0 s
unfolding codes codes_from pick
codes-opened f s = rw starts_four
