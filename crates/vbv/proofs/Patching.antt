-- The patch of a picture header: the three bytes that it changes, and the bits before, in and after the delay.
-- Assumes nothing.
use mathlib.Core.Path.{◌≡◌, refl, sym, ◌∙◌}
use mathlib.Core.Bool.{true, false}
use mathlib.Core.List.{List, [], ◌∷◌}
use Prim.Native.Nat.{ℕ, ◌+◌, ◌*◌, ◌/◌, ◌%◌, ◌≤◌, ◌<◌}
use native.Mathlib.Omega.{arith}
use native.Mathlib.Nat.{mod-eq_of_lt}
use lib.ListN.{length, get_or, set, take, drop}
use lib.Seq.{get_or-set_other, take-set-le, drop-set-lt}
use borrow.Author.Tests.{leb-true, le-leb, lt-leb}
use Rattle.bits.specs.Bits.{bits_at, digits, set_bits}
use Rattle.bits.specs.Fields.{same_bytes}
use Rattle.bits.proofs.Flags.{and_left, yes, no, held, failed}
use Rattle.bits.proofs.Laws.{bits_bound, bits_split, length_digits}
use Rattle.bits.proofs.Appending.{Below, below_take, below_drop, digit_bound}
use Rattle.bits.proofs.Patching.{byte_bits, set_length, set_below, set_before, set_after, set_digits, set_within}
use Rattle.bits.specs.Refusals.{value, refused}
use Rattle.bits.specs.StartCodes.{start_code, picture_start_code}
use Rattle.vbv.specs.Patch.{starts_picture, patch_picture, patched}

-- the test of a picture header
pub starts-short : (s : List ℕ) → length s < 8 → false ≡ starts_picture s
unfolding starts_picture
starts-short s h = rw (lt-leb _ _ h)

pub starts_picture_is : (s : List ℕ) → 8 ≤ length s → same_bytes (take 4 s) (start_code picture_start_code) ≡ starts_picture s
unfolding starts_picture
starts_picture_is s h = rw (le-leb _ _ h)

pub starts_picture_long : (s : List ℕ) → starts_picture s ≡ true → 8 ≤ length s
unfolding starts_picture
starts_picture_long s h = leb-true _ _ (and_left _ _ h)

-- a list of three by its elements
three_bytes : (s : List ℕ) {x y z : ℕ} → length s ≡ 3 → get_or s 0 0 ≡ x → get_or s 1 0 ≡ y → get_or s 2 0 ≡ z → s ≡ x ∷ y ∷ z ∷ []
three_bytes [] e p q r = absurd (omega arith)
three_bytes (a ∷ []) e p q r = absurd (omega arith)
three_bytes (a ∷ b ∷ []) e p q r = absurd (omega arith)
three_bytes (a ∷ b ∷ c ∷ []) e p q r = rw (p, q, r)
three_bytes (a ∷ b ∷ c ∷ w ∷ s) e p q r = absurd (omega arith)

-- the three bytes with the delay in bits 5 to 20 of them
middle : (x y z d : ℕ) → x < 256 → z < 256 → d < 65536
    → set_bits (x ∷ y ∷ z ∷ []) 5 (digits 16 d) ≡ (x / 8 * 8 + d / 8192) ∷ d / 32 % 256 ∷ (d % 32 * 8 + z % 8) ∷ []
middle x y z d h g l =
    let m : List ℕ = x ∷ y ∷ z ∷ [] in
    let s = set_bits m 5 (digits 16 d) in
    let n : length (digits 16 d) ≡ 16 = length_digits 16 d in
    let f : 5 + length (digits 16 d) ≤ 24 = omega arith in
    let b = digit_bound 16 d in
    let low = set_below m 5 (digits 16 d) f b in
    let delay : bits_at s 5 3 * 8192 + (bits_at s 8 8 * 32 + bits_at s 16 5) ≡ d =
    omega (arith, set_digits m 5 16 d (omega arith), bits_split s 5 3 13, bits_split s 8 8 5) in
    let front : x ≡ bits_at m 0 5 * 8 + bits_at m 5 3 = omega (arith, byte_bits m 0 h, bits_split m 0 5 3) in
    let back : z ≡ bits_at m 16 5 * 8 + bits_at m 21 3 = omega (arith, byte_bits m 2 g, bits_split m 16 5 3) in
    three_bytes s (set_length m 5 (digits 16 d) f)
    (omega (arith, byte_bits s 0 (low 0), bits_split s 0 5 3, set_before m 5 (digits 16 d) f b 0 5 (omega arith), bits_bound m 5 3, bits_bound s 8 8, bits_bound s 16 5))
    (omega (arith, byte_bits s 1 (low 1), bits_bound s 8 8, bits_bound s 16 5))
    (omega (arith, byte_bits s 2 (low 2), bits_split s 16 5 3, set_after m 5 (digits 16 d) f b 21 3 (omega arith), bits_bound m 21 3, bits_bound s 16 5))

-- the same as stores to bytes 5, 6 and 7
pub patch_stored : (s : List ℕ) (d : ℕ) → 8 ≤ length s → Below 256 s → d < 65536
    → set_bits s 45 (digits 16 d)
    ≡ set (set (set s 5 (get_or s 5 0 / 8 * 8 + d / 8192)) 6 (d / 32 % 256)) 7 (d % 32 * 8 + get_or s 7 0 % 8)
patch_stored [] d h b l = absurd (omega arith)
patch_stored (p ∷ []) d h b l = absurd (omega arith)
patch_stored (p ∷ q ∷ []) d h b l = absurd (omega arith)
patch_stored (p ∷ q ∷ r ∷ []) d h b l = absurd (omega arith)
patch_stored (p ∷ q ∷ r ∷ u ∷ []) d h b l = absurd (omega arith)
patch_stored (p ∷ q ∷ r ∷ u ∷ v ∷ []) d h b l = absurd (omega arith)
patch_stored (p ∷ q ∷ r ∷ u ∷ v ∷ x ∷ []) d h b l = absurd (omega arith)
patch_stored (p ∷ q ∷ r ∷ u ∷ v ∷ x ∷ y ∷ []) d h b l = absurd (omega arith)
patch_stored (p ∷ q ∷ r ∷ u ∷ v ∷ x ∷ y ∷ z ∷ t) d h b l =
    let f : 5 + length (digits 16 d) ≤ 24 = omega (arith, length_digits 16 d) in
    let s : List ℕ = p ∷ q ∷ r ∷ u ∷ v ∷ x ∷ y ∷ z ∷ t in
    set_within (p ∷ q ∷ r ∷ u ∷ v ∷ []) (x ∷ y ∷ z ∷ []) t 5 (digits 16 d) (below_take 256 5 s b) (below_drop 256 8 s b) (digit_bound 16 d) f
    ∙ rw (middle x y z d (b 5) (b 7) l)

-- the ways of `patch_vbv_delay`
module _ (s : List ℕ) (d : ℕ) where
  pub patched_is : starts_picture s ≡ true → patched s d ≡ set_bits s 45 (digits 16 d)
  unfolding patched
  patched_is h = sym (yes _ _ _ h refl)

  pub patch-none : starts_picture s ≡ false → (refused 20 0 0 0 ≡ patch_picture s) × (s ≡ patched s d)
  unfolding patch_picture patched
  patch-none h = (failed _ _ _ h refl, no _ _ _ h refl)

  module _ (h : starts_picture s ≡ true) (b : Below 256 s) (l : d < 65536) where
    pub patched_bytes :
        patched s d ≡ set (set (set s 5 (get_or s 5 0 / 8 * 8 + d / 8192)) 6 (d / 32 % 256)) 7 (d % 32 * 8 + get_or s 7 0 % 8)
    patched_bytes = patched_is h ∙ patch_stored s d (starts_picture_long s h) b l

    pub patch-done :
        (value tt ≡ patch_picture s)
        × (set
        (set (set s 5 (get_or s 5 0 / 8 * 8 + d / 8192)) 6 (d / 32 % 256))
        7
        (d % 32 * 8 + get_or (set (set s 5 (get_or s 5 0 / 8 * 8 + d / 8192)) 6 (d / 32 % 256)) 7 0 % 8)
        ≡ patched s d)
    unfolding patch_picture
    patch-done =
        let x = get_or s 5 0 / 8 * 8 + d / 8192 in
        let e : get_or (set (set s 5 x) 6 (d / 32 % 256)) 7 0 ≡ get_or s 7 0 =
        get_or-set_other (set s 5 x) 6 7 (d / 32 % 256) 0 (λ (z : 7 ≡ 6). omega arith)
        ∙ get_or-set_other s 5 7 x 0 (λ (z : 7 ≡ 5). omega arith) in
        (held _ _ _ h refl, rw e (sym patched_bytes))

    -- the other bytes stay
    pub patched-front : take 5 (patched s d) ≡ take 5 s
    patched-front = rw (patched_bytes, take-set-le 5 _ 7 _ (omega arith), take-set-le 5 _ 6 _ (omega arith), take-set-le 5 s 5 _ (omega arith))

    pub patched-rest : drop 8 (patched s d) ≡ drop 8 s
    patched-rest = rw (patched_bytes, drop-set-lt 8 _ 7 _ (omega arith), drop-set-lt 8 _ 6 _ (omega arith), drop-set-lt 8 s 5 _ (omega arith))

-- the patched header bit by bit
module _ (s : List ℕ) (d : ℕ) (h : starts_picture s ≡ true) where
  room : 45 + length (digits 16 d) ≤ 8 * length s
  room = omega (arith, length_digits 16 d, starts_picture_long s h)

  pub patched-length : length (patched s d) ≡ length s
  patched-length = rw (patched_is s d h) (set_length s 45 (digits 16 d) room)

  pub patched_below : Below 256 (patched s d)
  patched_below k = rw (patched_is s d h) (set_below s 45 (digits 16 d) room (digit_bound 16 d) k)

  pub patched-delay : d < 65536 → bits_at (patched s d) 45 16 ≡ d
  patched-delay l =
      rw (patched_is s d h) (set_digits s 45 16 d (omega (arith, starts_picture_long s h)) ∙ mod-eq_of_lt l)

  pub patched-before : (k n : ℕ) → k + n ≤ 45 → bits_at (patched s d) k n ≡ bits_at s k n
  patched-before k n l = rw (patched_is s d h) (set_before s 45 (digits 16 d) room (digit_bound 16 d) k n l)

  pub patched-after : (k n : ℕ) → 61 ≤ k → bits_at (patched s d) k n ≡ bits_at s k n
  patched-after k n l =
      rw (patched_is s d h) (set_after s 45 (digits 16 d) room (digit_bound 16 d) k n (omega (arith, length_digits 16 d)))
