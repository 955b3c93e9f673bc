-- Numbers and words as bytes, and read back.
-- Assumes nothing.
use mathlib.Core.Path.{◌≡◌, refl, ap}
use mathlib.Core.List.{List, [], ◌∷◌, ◌++◌, append_assoc}
use Prim.Native.Nat.{ℕ, zero, suc, ◌+◌, ◌*◌, ◌/◌, ◌%◌, ◌^◌, ◌≤◌, ◌<◌}
use native.Mathlib.Omega.{arith}
use native.Mathlib.Nat.{pow-suc, pow-zero, div-lt_iff_lt-mul, div-add-mod'}
use lib.ListN.{length, get_or, take, drop, length-append, length-drop}
use lib.Seq.{length-take-le, take_at, drop_at, take-add, drop-drop, get_or-take, get_or-drop}
use Rattle.words.specs.Words.{low_first, words_bytes, from_low, word_at}

-- ---- a number

pub length-low : (n v : ℕ) → length (low_first n v) ≡ n
unfolding low_first
length-low zero v = refl
length-low (suc n) v = ap suc (length-low n (v / 256))

from_low_lem : (n v : ℕ) → v < 256 ^ n → from_low (low_first n v) ≡ v
unfolding low_first from_low
from_low_lem zero v h = omega (arith, pow-zero 256)
from_low_lem (suc n) v h =
    let q : v / 256 < 256 ^ n = (div-lt_iff_lt-mul {k = 256} {x = v} {y = 256 ^ n} (omega arith)).1 (omega (arith, pow-suc 256 n)) in
    rw (from_low_lem n (v / 256) q) (omega (arith, div-add-mod' v 256))

low_from : (bs : List ℕ) → ((k : ℕ) → k < length bs → get_or bs k 0 < 256) → low_first (length bs) (from_low bs) ≡ bs
unfolding low_first from_low
low_from [] h = refl
low_from (b ∷ bs) h =
    let l = h 0 (omega arith) in
    let d : (b + 256 * from_low bs) / 256 ≡ from_low bs = omega arith in
    let m : (b + 256 * from_low bs) % 256 ≡ b = omega arith in
    rw (d, m, low_from bs (λ k g. h (suc k) (omega arith)))

-- ---- words

-- each has 64 bits at most
pub data AllWords : List ℕ → Type 0 where
  none : AllWords []
  some : {v : ℕ} {vs : List ℕ} → v < 2 ^ 64 → AllWords vs → AllWords (v ∷ vs)

pub each_small : (vs : List ℕ) → ((k : ℕ) → k < length vs → get_or vs k 0 < 2 ^ 64) → AllWords vs
each_small [] h = none
each_small (v ∷ vs) h = some (h 0 (omega arith)) (each_small vs (λ k g. h (suc k) (omega arith)))

pub small_append : {us vs : List ℕ} → AllWords us → AllWords vs → AllWords (us ++ vs)
small_append none b = b
small_append (some h a) b = some h (small_append a b)

pub length_words : (vs : List ℕ) → length (words_bytes vs) ≡ 8 * length vs
unfolding words_bytes
length_words [] = refl
length_words (v ∷ vs) = rw (length-append (low_first 8 v) (words_bytes vs), length-low 8 v, length_words vs) (omega arith)

-- a word read where words were put
pub word_put : {vs : List ℕ} → AllWords vs → (rest : List ℕ) (k : ℕ) → k < length vs → word_at (words_bytes vs ++ rest) k ≡ get_or vs k 0
unfolding words_bytes word_at
word_put none rest k h = absurd (omega arith)
word_put (some {v} {vs} b f) rest zero h =
    let t = words_bytes vs ++ rest in
    rw (append_assoc (low_first 8 v) (words_bytes vs) rest, take_at (low_first 8 v) t 8 (length-low 8 v)) (from_low_lem 8 v (omega arith))
word_put (some {v} {vs} b f) rest (suc k) h =
    let t = words_bytes vs ++ rest in
    let e : 8 * suc k ≡ 8 + 8 * k = omega arith in
    rw (append_assoc (low_first 8 v) (words_bytes vs) rest, e, ← drop-drop (8 * k) 8 (low_first 8 v ++ t), drop_at (low_first 8 v) t 8 (length-low 8 v))
    (word_put f rest k (omega arith))

-- n words from word k on
abbrev pub words_from : ℕ → ℕ → List ℕ → List ℕ
words_from k zero s = []
words_from k (suc n) s = word_at s k ∷ words_from (suc k) n s

-- a word put back where it was read
word_back : (s : List ℕ) (k : ℕ) → ((j : ℕ) → get_or s j 0 < 256) → 8 * suc k ≤ length s → low_first 8 (word_at s k) ≡ take 8 (drop (8 * k) s)
unfolding word_at
word_back s k b h =
    let d = drop (8 * k) s in
    let l : length (take 8 d) ≡ 8 = length-take-le 8 d (omega (arith, length-drop (8 * k) s)) in
    rw l at (low_from (take 8 d) (λ j p. rw (get_or-take 8 d j 0 (omega arith), get_or-drop (8 * k) s j 0) (b (8 * k + j))))

pub words_back : (s : List ℕ) (n k : ℕ) → ((j : ℕ) → get_or s j 0 < 256) → 8 * (k + n) ≤ length s
    → words_bytes (words_from k n s) ≡ take (8 * n) (drop (8 * k) s)
unfolding words_bytes
words_back s zero k b h = refl
words_back s (suc n) k b h =
    let d = drop (8 * k) s in
    let e : 8 * suc n ≡ 8 + 8 * n = omega arith in
    let f : 8 * k + 8 ≡ 8 * suc k = omega arith in
    rw (e, take-add 8 (8 * n) d, drop-drop 8 (8 * k) s, f, word_back s k b (omega arith), words_back s n (suc k) b (omega arith))
