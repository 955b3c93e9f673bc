-- Bits set in the middle of bytes: those are the new ones, and every other bit and byte is as it was.
-- Assumes nothing.
use mathlib.Core.Path.{◌≡◌, sym, ap, ◌∙◌}
use mathlib.Core.List.{List, [], ◌++◌, append_assoc, append-nil}
use mathlib.Core.Logic.{⊎_elim}
use Prim.Native.Nat.{ℕ, ◌+◌, ◌-◌, ◌*◌, ◌%◌, ◌^◌, ◌≤◌, ◌<◌}
use native.Mathlib.Nat.{zero-add, add_assoc}
use native.Mathlib.Omega.{arith}
use lib.ListN.{length, get_or, take, drop, length-append, length-drop, get_or-append, get_or-eq_default}
use lib.Seq.{get_or-append-add, get_or-drop, get_or-take, take_all, take-append-le, take-append-add, drop-append-le, drop-append-add}
use Rattle.bits.specs.Bits.{bit_at, bits_at, digits, bit_list, bytes_of, pack, set_bits}
use Rattle.bits.proofs.Laws.{num-same, byte_num, digits-num, length_digits, bit_list-length, bit_list-append, bit_list-at}
use Rattle.bits.proofs.Appending.{Below, lt_or_le, below_append, below_take, below_drop, digit_bound, bit_list_bound, length-pack, pack_bound, pack_bit, pack-bytes, pack-front, length_before}

-- the bits that set_bits packs
abbrev pub around : List ℕ → ℕ → List ℕ → List ℕ
around s i bs = take i (bit_list s) ++ (bs ++ drop (i + length bs) (bit_list s))

-- no bit past the end is set
bit_past : (s : List ℕ) (j : ℕ) → 8 * length s ≤ j → bit_at s j ≡ 0
bit_past s j h = sym (bit_list-at s j) ∙ get_or-eq_default (bit_list s) 0 (omega (arith, bit_list-length s))

module _ (s : List ℕ) (i : ℕ) (bs : List ℕ) (h : i + length bs ≤ 8 * length s) where
  length_around : length (around s i bs) ≡ 8 * length s
  length_around = simp (length-append, length_before s i bs h, length-drop, bit_list-length) (omega arith)

  pub set_length : length (set_bits s i bs) ≡ length s
  unfolding set_bits
  set_length = length-pack (around s i bs) ∙ omega (arith, length_around)

  module _ (b : Below 2 bs) where
    around_bound : Below 2 (around s i bs)
    around_bound =
        below_append 2 (take i (bit_list s)) _ (below_take 2 i (bit_list s) (bit_list_bound s))
        (below_append 2 bs _ b (below_drop 2 (i + length bs) (bit_list s) (bit_list_bound s)))

    pub set_below : Below 256 (set_bits s i bs)
    unfolding set_bits
    set_below = pack_bound (around s i bs) around_bound

    set_bit : (j : ℕ) → j < 8 * length s → bit_at (set_bits s i bs) j ≡ get_or (around s i bs) j 0
    unfolding set_bits
    set_bit j l = pack_bit (around s i bs) j around_bound (omega (arith, length_around))

    bit_before : (j : ℕ) → j < i → bit_at (set_bits s i bs) j ≡ bit_at s j
    bit_before j l =
        set_bit j (omega arith) ∙ get_or-append (take i (bit_list s)) _ 0 j (omega (arith, length_before s i bs h))
        ∙ get_or-take i (bit_list s) j 0 l ∙ bit_list-at s j

    bit_new : (k : ℕ) → k < length bs → bit_at (set_bits s i bs) (i + k) ≡ get_or bs k 0
    bit_new k l =
        set_bit (i + k) (omega arith) ∙ ap (λ (x : ℕ). get_or (around s i bs) (x + k) 0) (sym (length_before s i bs h))
        ∙ get_or-append-add (take i (bit_list s)) _ k 0 ∙ get_or-append bs _ 0 k l

    bit_after : (j : ℕ) → i + length bs ≤ j → bit_at (set_bits s i bs) j ≡ bit_at s j
    bit_after j l =
        ⊎_elim
        (λ (g : j < 8 * length s).
        let k = j - (i + length bs) in
        let e : j ≡ length (take i (bit_list s)) + (length bs + k) = omega (arith, length_before s i bs h) in
        let f : i + length bs + k ≡ j = omega arith in
        set_bit j g ∙ ap (λ (x : ℕ). get_or (around s i bs) x 0) e ∙ get_or-append-add (take i (bit_list s)) _ (length bs + k) 0
        ∙ get_or-append-add bs _ k 0 ∙ get_or-drop (i + length bs) (bit_list s) k 0 ∙ ap (λ (x : ℕ). get_or (bit_list s) x 0) f ∙ bit_list-at s j)
        (λ (g : 8 * length s ≤ j). bit_past (set_bits s i bs) j (omega (arith, set_length)) ∙ sym (bit_past s j g))
        (lt_or_le j (8 * length s))

    -- the bits before and after stay
    pub set_before : (k n : ℕ) → k + n ≤ i → bits_at (set_bits s i bs) k n ≡ bits_at s k n
    unfolding bits_at
    set_before k n l = num-same (bit_at (set_bits s i bs)) (bit_at s) k k n (λ j g. bit_before (k + j) (omega arith))

    pub set_after : (k n : ℕ) → i + length bs ≤ k → bits_at (set_bits s i bs) k n ≡ bits_at s k n
    unfolding bits_at
    set_after k n l = num-same (bit_at (set_bits s i bs)) (bit_at s) k k n (λ j g. bit_after (k + j) (omega arith))

-- a number set is read again, less what is above its bits
pub set_digits : (s : List ℕ) (i n v : ℕ) → i + n ≤ 8 * length s → bits_at (set_bits s i (digits n v)) i n ≡ v % 2 ^ n
unfolding bits_at
set_digits s i n v h =
    num-same (bit_at (set_bits s i (digits n v))) (λ k. get_or (digits n v) k 0) i 0 n
    (λ k g.
    let l : k < length (digits n v) = omega (arith, length_digits n v) in
    rw (zero-add k) (bit_new s i (digits n v) (omega (arith, length_digits n v)) (digit_bound n v) k l))
    ∙ digits-num n v

-- a byte is the number in its bits
pub byte_bits : (s : List ℕ) (m : ℕ) → get_or s m 0 < 256 → bits_at s (8 * m) 8 ≡ get_or s m 0
unfolding bits_at
byte_bits s m b = byte_num s m b

-- bits that fill bytes are packed by themselves
pack-whole : (xs bs : List ℕ) (k : ℕ) → Below 2 xs → length xs ≡ 8 * k → pack (xs ++ bs) ≡ pack xs ++ pack bs
pack-whole xs bs k b e =
    let f : bit_list (pack xs) ≡ xs =
    sym (take_all (length xs) (bit_list (pack xs)) (omega (arith, bit_list-length (pack xs), length-pack xs))) ∙ pack-front xs b in
    ap (λ (l : List ℕ). pack (l ++ bs)) (sym f) ∙ pack-bytes (pack xs) bs (pack_bound xs b)

pack-bit_list : (s : List ℕ) → Below 256 s → pack (bit_list s) ≡ s
unfolding pack bytes_of
pack-bit_list s b = ap pack (sym (append-nil (bit_list s))) ∙ pack-bytes s [] b ∙ append-nil s

-- bytes before and after stay as they are
pub set_within : (p m q : List ℕ) (o : ℕ) (bs : List ℕ) → Below 256 p → Below 256 q → Below 2 bs → o + length bs ≤ 8 * length m
    → set_bits (p ++ (m ++ q)) (8 * length p + o) bs ≡ p ++ (set_bits m o bs ++ q)
unfolding set_bits
set_within p m q o bs bp bq b h =
    let l : 8 * length p ≡ length (bit_list p) = sym (bit_list-length p) in
    let n : length (bit_list m) ≡ 8 * length m = bit_list-length m in
    rw (
      bit_list-append p (m ++ q),
      bit_list-append m q,
      add_assoc (8 * length p) o (length bs),
      l,
      take-append-add (bit_list p) (bit_list m ++ bit_list q) o,
      drop-append-add (bit_list p) (bit_list m ++ bit_list q) (o + length bs),
      take-append-le o (bit_list m) (bit_list q) (omega arith),
      drop-append-le (o + length bs) (bit_list m) (bit_list q) (omega arith),
      append_assoc (bit_list p) (take o (bit_list m)) _,
      pack-bytes p _ bp,
      ← append_assoc bs (drop (o + length bs) (bit_list m)) (bit_list q),
      ← append_assoc (take o (bit_list m)) _ (bit_list q),
      pack-whole (around m o bs) (bit_list q) (length m) (around_bound m o bs h b) (length_around m o bs h),
      pack-bit_list q bq,
    )
