-- The laws of bits, each for every width.
-- Assumes nothing.
use mathlib.Core.Path.{◌≡◌, refl, sym, ap, ◌∙◌}
use mathlib.Core.List.{List, [], ◌∷◌, ◌++◌, append_assoc}
use mathlib.Core.Bool.{Bool, true, false}
use Prim.Native.Nat.{ℕ, zero, suc, ◌+◌, ◌-◌, ◌*◌, ◌/◌, ◌%◌, ◌^◌, ◌≤◌, ◌<◌}
use native.Mathlib.Nat.{mod-lt, mod-eq_of_lt, pow-suc, add-zero, zero-add, add-suc, add_assoc, mul_assoc, suc-sub-suc, sub-zero, zero-div}
use native.Mathlib.Numerals.{add-one, one-add}
use native.Mathlib.Omega.{arith}
use lib.Dec.{lit<, ltb}
use lib.Pow.{mod-pow-add, high, low}
use lib.ListN.{length, get_or, drop, length-append, get_or-append}
use lib.Seq.{get_or-drop, get_or-append-add, drop-nil, drop-append-add}
use borrow.Author.Tests.{ltb-true, ltb-false}
use Rattle.bits.specs.Bits.{num, bit_at, bits_at, digits, bit_list}

pub bit_bound : (s : List ℕ) (i : ℕ) → bit_at s i < 2
unfolding bit_at
bit_bound s i = mod-lt _ (lit< tt)

-- n digits below 2 make a number below 2 ^ n
pub num_bound : (f : ℕ → ℕ) (i n : ℕ) → ((k : ℕ) → f k < 2) → num f i n < 2 ^ n
unfolding num
num_bound f i zero h = lit< tt
num_bound f i (suc n) h = rw pow-suc (omega (arith, num_bound f i n h, h (i + n)))

-- the same digits make the same number
pub num-same : (f g : ℕ → ℕ) (i j n : ℕ) → ((k : ℕ) → k < n → f (i + k) ≡ g (j + k)) → num f i n ≡ num g j n
unfolding num
num-same f g i j zero h = refl
num-same f g i j (suc n) h =
    omega (arith, num-same f g i j n (λ k l. h k (omega arith)), h n (omega arith))

-- m + n digits are m digits, and after them n
pub num_split : (f : ℕ → ℕ) (i m n : ℕ) → num f i (m + n) ≡ num f i m * 2 ^ n + num f (i + m) n
unfolding num
num_split f i m zero = rw (add-zero m) (omega arith)
num_split f i m (suc n) =
    rw (add-suc m n, pow-suc 2 n, ← mul_assoc (num f i m) (2 ^ n) 2, ← add_assoc i m n)
    (omega (arith, num_split f i m n))

-- the same, for bits of bytes
pub bits_bound : (s : List ℕ) (i n : ℕ) → bits_at s i n < 2 ^ n
unfolding bits_at
bits_bound s i n = num_bound (bit_at s) i n (bit_bound s)

pub bits_split : (s : List ℕ) (i m n : ℕ) → bits_at s i (m + n) ≡ bits_at s i m * 2 ^ n + bits_at s (i + m) n
unfolding bits_at
bits_split s i m n = num_split (bit_at s) i m n

-- no bits, and one bit more
pub bits_none : (s : List ℕ) (i : ℕ) → bits_at s i 0 ≡ 0
unfolding bits_at num
bits_none s i = refl

pub bits_more : (s : List ℕ) (i n : ℕ) → bits_at s i (n + 1) ≡ bits_at s i n * 2 + bit_at s (i + n)
unfolding bits_at num
bits_more s i n = rw (add-one n)

-- what stands after the bytes does not matter
pub bit_append : (s t : List ℕ) (i : ℕ) → i < 8 * length s → bit_at (s ++ t) i ≡ bit_at s i
unfolding bit_at
bit_append s t i h = rw (get_or-append s t 0 (i / 8) (omega arith))

pub bits_append : (s t : List ℕ) (i n : ℕ) → i + n ≤ 8 * length s → bits_at (s ++ t) i n ≡ bits_at s i n
unfolding bits_at
bits_append s t i n h = num-same (bit_at (s ++ t)) (bit_at s) i i n (λ k l. bit_append s t (i + k) (omega arith))

-- a part of the bytes reads as the part alone
pub bit_drop : (k : ℕ) (s : List ℕ) (i : ℕ) → bit_at (drop k s) i ≡ bit_at s (8 * k + i)
unfolding bit_at
bit_drop k s i =
    let d : (8 * k + i) / 8 ≡ k + i / 8 = omega arith in
    let m : (8 * k + i) % 8 ≡ i % 8 = omega arith in
    rw (d, m, get_or-drop k s (i / 8) 0)

pub bits_drop : (k : ℕ) (s : List ℕ) (i n : ℕ) → bits_at (drop k s) i n ≡ bits_at s (8 * k + i) n
unfolding bits_at
bits_drop k s i n =
    num-same (bit_at (drop k s)) (bit_at s) i (8 * k + i) n
    (λ j l. bit_drop k s (i + j) ∙ ap (bit_at s) (omega arith))

-- the digits of a number
pub length_digits : (w v : ℕ) → length (digits w v) ≡ w
unfolding digits
length_digits zero v = refl
length_digits (suc w) v = ap suc (length_digits w v)

-- digit k of w is the bit with w - (k + 1) bits after it
pub digit_at : (w v k : ℕ) → k < w → get_or (digits w v) k 0 ≡ v / 2 ^ (w - suc k) % 2
unfolding digits
digit_at zero v k h = omega arith
digit_at (suc w) v zero h = rw (suc-sub-suc w 0, sub-zero w)
digit_at (suc w) v (suc k) h = rw (suc-sub-suc w (suc k)) (digit_at w v k (omega arith))

-- w digits of v make v again, less what is above
pub digits-num : (w v : ℕ) → num (λ i. get_or (digits w v) i 0) 0 w ≡ v % 2 ^ w
unfolding digits num
digits-num zero v = omega arith
digits-num (suc w) v =
    let g : ℕ → ℕ = λ i. get_or (digits (suc w) v) i 0 in
    let e : num g 1 w ≡ v % 2 ^ w =
    num-same g (λ i. get_or (digits w v) i 0) 1 0 w (λ k h. rw (one-add k, zero-add k)) ∙ digits-num w v in
    let x : num g 0 1 * 2 ^ w + num g 1 w ≡ (v / 2 ^ w % 2 ^ 1) * 2 ^ w + v % 2 ^ w = rw (zero-add (v / 2 ^ w % 2), e) in
    ap (num g 0) (sym (one-add w)) ∙ num_split g 0 1 w ∙ x ∙ sym (mod-pow-add v 1 w) ∙ ap (λ (n : ℕ). v % 2 ^ n) (one-add w)

-- a bit of a byte is a digit of it
pub bit_digit : (s : List ℕ) (m k : ℕ) → k < 8 → bit_at s (8 * m + k) ≡ get_or (digits 8 (get_or s m 0)) k 0
unfolding bit_at
bit_digit s m k h =
    let d : (8 * m + k) / 8 ≡ m = omega arith in
    let r : 7 - (8 * m + k) % 8 ≡ 8 - suc k = omega arith in
    rw (d, r) (sym (digit_at 8 (get_or s m 0) k h))

-- a byte is the number in its eight bits
pub byte_num : (s : List ℕ) (m : ℕ) → get_or s m 0 < 256 → num (bit_at s) (8 * m) 8 ≡ get_or s m 0
byte_num s m b =
    num-same (bit_at s) (λ i. get_or (digits 8 (get_or s m 0)) i 0) (8 * m) 0 8 (λ k h. rw (zero-add k) (bit_digit s m k h))
    ∙ digits-num 8 (get_or s m 0) ∙ mod-eq_of_lt b

-- bytes as a number, one byte more; and the bits in the middle of it
pub bytes-number : (s : List ℕ) (a k : ℕ) → get_or s (a + k) 0 < 256
    → num (bit_at s) (8 * a) (8 * (k + 1)) ≡ num (bit_at s) (8 * a) (8 * k) * 256 + get_or s (a + k) 0
bytes-number s a k b =
    let e : 8 * (k + 1) ≡ 8 * k + 8 = omega arith in
    let d : 8 * a + 8 * k ≡ 8 * (a + k) = omega arith in
    ap (num (bit_at s) (8 * a)) e ∙ num_split (bit_at s) (8 * a) (8 * k) 8
    ∙ ap (λ (x : ℕ). num (bit_at s) (8 * a) (8 * k) * 256 + x) (ap (λ (x : ℕ). num (bit_at s) x 8) d ∙ byte_num s (a + k) b)

pub bits_middle : (s : List ℕ) (a o n t c : ℕ) → o + n + t ≡ 8 * c → num (bit_at s) (8 * a) (8 * c) / 2 ^ t % 2 ^ n ≡ bits_at s (8 * a + o) n
unfolding bits_at
bits_middle s a o n t c e =
    rw (
      ← e,
      num_split (bit_at s) (8 * a) (o + n) t,
      high (num (bit_at s) (8 * a) (o + n)) t (num_bound (bit_at s) (8 * a + (o + n)) t (bit_bound s)),
      num_split (bit_at s) (8 * a) o n,
    ) (low (num (bit_at s) (8 * a) o) n (num_bound (bit_at s) (8 * a + o) n (bit_bound s)))

-- the bits of bytes, as a list
pub bit_list-length : (s : List ℕ) → length (bit_list s) ≡ 8 * length s
unfolding bit_list
bit_list-length [] = refl
bit_list-length (b ∷ s) = omega (arith, length-append (digits 8 b) (bit_list s), length_digits 8 b, bit_list-length s)

pub bit_list-append : (s t : List ℕ) → bit_list (s ++ t) ≡ bit_list s ++ bit_list t
unfolding bit_list
bit_list-append [] t = refl
bit_list-append (b ∷ s) t = rw (bit_list-append s t, append_assoc (digits 8 b) (bit_list s) (bit_list t))

pub bit_list-drop : (k : ℕ) (s : List ℕ) → bit_list (drop k s) ≡ drop (8 * k) (bit_list s)
unfolding bit_list
bit_list-drop zero s = refl
bit_list-drop (suc k) [] = sym (drop-nil (8 * suc k))
bit_list-drop (suc k) (b ∷ s) =
    let e : 8 * suc k ≡ length (digits 8 b) + 8 * k = omega (arith, length_digits 8 b) in
    rw (e, drop-append-add (digits 8 b) (bit_list s) (8 * k)) (bit_list-drop k s)

pub bit_list-at : (s : List ℕ) (i : ℕ) → get_or (bit_list s) i 0 ≡ bit_at s i
unfolding bit_list bit_at
bit_list-at [] i = rw (zero-div (2 ^ (7 - i % 8)))
bit_list-at (b ∷ s) i = case (λ j. bit_list-at s j) (ltb i 8) refl
  where
    case : ((j : ℕ) → get_or (bit_list s) j 0 ≡ bit_at s j) → (t : Bool) → ltb i 8 ≡ t → get_or (digits 8 b ++ bit_list s) i 0 ≡ bit_at (b ∷ s) i
    case rest true e =
        let h : i < 8 = ltb-true i 8 e in
        get_or-append (digits 8 b) (bit_list s) 0 i (omega (arith, length_digits 8 b))
        ∙ sym (bit_digit (b ∷ s) 0 i h) ∙ ap (bit_at (b ∷ s)) (zero-add i)
    case rest false e =
        let j = i - 8 in
        let x : i ≡ length (digits 8 b) + j = omega (arith, length_digits 8 b, ltb-false i 8 e) in
        let y : 8 * 1 + j ≡ i = omega (arith, ltb-false i 8 e) in
        ap (λ (n : ℕ). get_or (digits 8 b ++ bit_list s) n 0) x ∙ get_or-append-add (digits 8 b) (bit_list s) j 0
        ∙ rest j ∙ bit_drop 1 (b ∷ s) j ∙ ap (bit_at (b ∷ s)) y
