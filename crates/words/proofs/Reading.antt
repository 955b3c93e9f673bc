-- A word read: whole, or cut by the place's end.
-- Assumes nothing.
use mathlib.Core.Path.{◌≡◌, refl, sym, ap, ◌∙◌}
use Prim.Native.Nat.{ℕ, zero, suc, ◌+◌, ◌-◌, ◌*◌, ◌/◌, ◌^◌, ◌≤◌, ◌<◌}
use mathlib.Core.List.{List, [], ◌∷◌, ◌++◌}
use native.Mathlib.Omega.{arith}
use native.Mathlib.Nat.{pow-suc, mul_assoc, mul_comm}
use lib.ListN.{length, get_or, take, drop, replicate, drop_of_length-le, length-append, length-drop}
use lib.Seq.{take-suc, take_all, drop-drop, length-take-le}
use Rattle.std.specs.Int.{w64, byte_worth, sum_through, from_le_bytes}
use Rattle.std.specs.Simd.{first_chunks}
use Rattle.words.specs.Words.{from_low, word_at}

-- one more byte at the end
worth_more : (k b : ℕ) → 256 * byte_worth k b ≡ byte_worth (suc k) b
worth_more zero b = omega arith
worth_more (suc k) b = rw (pow-suc 256 (suc k), ← mul_assoc b (256 ^ suc k) 256) (omega arith)

low_snoc : (bs : List ℕ) (b : ℕ) → from_low (bs ++ (b ∷ [])) ≡ from_low bs + byte_worth (length bs) b
unfolding from_low
low_snoc [] b = omega arith
low_snoc (a ∷ bs) b = rw (low_snoc bs b) (omega (arith, worth_more (length bs) b))

-- the library's number is the same
through : (bs : List ℕ) (n : ℕ) → n < length bs → sum_through (λ i. byte_worth i (get_or bs i 0)) n ≡ from_low (take (suc n) bs)
unfolding from_low
through bs zero h = rw (take-suc bs 0 0 h) (omega arith)
through bs (suc n) h =
    rw (through bs n (omega arith), take-suc bs (suc n) 0 h, low_snoc (take (suc n) bs), length-take-le (suc n) bs (omega arith))

low_le : (bs : List ℕ) → length bs ≡ 8 → from_le_bytes w64 bs ≡ from_low bs
low_le bs h = through bs 7 (omega arith) ∙ ap from_low (take_all 8 bs (omega arith))

-- a word that is whole
chunk_at : (s : List ℕ) (n k : ℕ) → k < n → get_or (first_chunks 8 n s) k [] ≡ take 8 (drop (8 * k) s)
chunk_at s zero k h = absurd (omega arith)
chunk_at s (suc n) zero h = refl
chunk_at s (suc n) (suc k) h =
    let e : 8 * suc k ≡ 8 + 8 * k = omega arith in
    chunk_at (drop 8 s) n k (omega arith) ∙ rw (e, drop-drop (8 * k) 8 s)

pub word_whole : (s : List ℕ) (k : ℕ) {ws : List (List ℕ)} {v : ℕ} → ws ≡ first_chunks 8 (length s / 8) s → k < length s / 8
    → v ≡ from_le_bytes w64 (get_or ws k []) → v ≡ word_at s k
unfolding word_at
word_whole s k e h f =
    let l = length-take-le 8 (drop (8 * k) s) (omega (arith, length-drop (8 * k) s)) in
    f ∙ rw (e, chunk_at s (length s / 8) k h) (low_le _ l)

-- a word that the place ends in
low_append : (bs cs : List ℕ) → from_low cs ≡ 0 → from_low (bs ++ cs) ≡ from_low bs
unfolding from_low
low_append [] cs e = e
low_append (b ∷ bs) cs e = rw (low_append bs cs e)

low_zeros : (j n : ℕ) → from_low (drop j (replicate n 0)) ≡ 0
unfolding from_low
low_zeros zero zero = refl
low_zeros zero (suc n) = rw (low_zeros zero n)
low_zeros (suc j) zero = refl
low_zeros (suc j) (suc n) = low_zeros j n

pub word_cut : (s : List ℕ) (k : ℕ) {rest first : List ℕ} {v : ℕ} → k ≡ length s / 8 → rest ≡ drop (length s / 8 * 8) s
    → first ≡ rest → v ≡ from_le_bytes w64 (first ++ drop (length rest) (replicate 8 0)) → v ≡ word_at s k
unfolding word_at
word_cut s k {rest} {first} e d b f =
    let a : 8 * k ≡ length s / 8 * 8 = omega arith in
    let l : length rest < 8 = rw d (omega (arith, length-drop (length s / 8 * 8) s)) in
    let n : length (rest ++ drop (length rest) (replicate 8 0)) ≡ 8 =
    omega (arith, length-append rest (drop (length rest) (replicate 8 0)), length-drop {A = ℕ} (length rest) (replicate 8 0)) in
    f ∙ rw (b, a, ← d, take_all 8 rest (omega arith)) (low_le _ n ∙ low_append rest _ (low_zeros (length rest) 8))

-- no byte of it is there
pub word_past : (s : List ℕ) (k : ℕ) → length s / 8 < k → 0 ≡ word_at s k
unfolding word_at from_low
word_past s k h = rw (drop_of_length-le s {i = 8 * k} (omega arith))
