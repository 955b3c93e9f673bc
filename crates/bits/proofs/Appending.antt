-- Bits laid into bytes: packing them, and going on at a bit.
-- Assumes nothing.
use mathlib.Core.Path.{◌≡◌, refl, sym, ap, ◌∙◌}
use mathlib.Core.List.{List, [], ◌∷◌, ◌++◌, append_assoc, append-nil}
use mathlib.Core.Bool.{Bool, true, false}
use mathlib.Core.Logic.{◌⊎◌, inl, inr}
use Prim.Native.Nat.{ℕ, zero, suc, ◌+◌, ◌-◌, ◌*◌, ◌/◌, ◌%◌, ◌^◌, ◌≤◌, ◌<◌}
use native.Mathlib.Nat.{add-zero, zero-add, add_assoc, mod-lt, mod-eq_of_lt}
use native.Mathlib.Omega.{arith}
use borrow.Author.Tests.{ltb-true, ltb-false}
use lib.Dec.{lit<, ltb}
use lib.Pow.{high}
use lib.ListN.{length, get_or, take, drop, length-append, length-drop, take-append-drop, get_or-append, get_or-eq_default}
use lib.Seq.{get_or-append-add, get_or-drop, get_or-take, ext_get_or, length-take-le, take-append-le, take-append-add, take_at, drop-drop, drop-append-add}
use Rattle.bits.specs.Bits.{num, bit_at, bits_at, digits, bit_list, bytes_of, pack, append_bits}
use Rattle.bits.specs.Answers.{over}
use Rattle.bits.proofs.Laws.{bit_bound, num_bound, num-same, num_split, bit_append, byte_num, length_digits, digit_at, digits-num, bit_list-length, bit_list-append, bit_list-at}

pub lt_or_le : (a b : ℕ) → (a < b) ⊎ (b ≤ a)
lt_or_le a b = case (ltb a b) refl
  where
    case : (t : Bool) → ltb a b ≡ t → (a < b) ⊎ (b ≤ a)
    case true e = inl (ltb-true a b e)
    case false e = inr (ltb-false a b e)

-- each element is below n: Below 2 are bits, Below 256 bytes
abbrev pub Below : ℕ → List ℕ → Type 0
Below n s = (k : ℕ) → get_or s k 0 < n

pub below_append : (n : ℕ) (s t : List ℕ) → Below n s → Below n t → Below n (s ++ t)
below_append n [] t p q k = q k
below_append n (x ∷ s) t p q zero = p 0
below_append n (x ∷ s) t p q (suc k) = below_append n s t (λ j. p (suc j)) q k

pub below_front : (n : ℕ) (s t : List ℕ) → Below n (s ++ t) → Below n s
below_front n [] t p k = omega (arith, p 0)
below_front n (x ∷ s) t p zero = p 0
below_front n (x ∷ s) t p (suc k) = below_front n s t (λ j. p (suc j)) k

pub below_take : (n m : ℕ) (s : List ℕ) → Below n s → Below n (take m s)
below_take n zero s p k = omega (arith, p k)
below_take n (suc m) [] p k = p k
below_take n (suc m) (x ∷ s) p zero = p 0
below_take n (suc m) (x ∷ s) p (suc k) = below_take n m s (λ j. p (suc j)) k

pub below_drop : (n m : ℕ) (s : List ℕ) → Below n s → Below n (drop m s)
below_drop n m s p k = rw (get_or-drop m s k 0) (p (m + k))

pub digit_bound : (w v : ℕ) → Below 2 (digits w v)
unfolding digits
digit_bound zero v k = lit< tt
digit_bound (suc w) v zero = mod-lt _ (lit< tt)
digit_bound (suc w) v (suc k) = digit_bound w v k

pub bit_list_bound : (s : List ℕ) → Below 2 (bit_list s)
unfolding bit_list
bit_list_bound [] k = lit< tt
bit_list_bound (b ∷ s) k = below_append 2 (digits 8 b) (bit_list s) (digit_bound 8 b) (bit_list_bound s) k

-- bit k of a number made of w bits
pub num_digit : (f : ℕ → ℕ) (i w k : ℕ) → ((j : ℕ) → f j < 2) → k < w → num f i w / 2 ^ (w - suc k) % 2 ≡ f (i + k)
unfolding num
num_digit f i w k b h =
    let m = w - suc k in
    let e : w ≡ suc k + m = omega arith in
    let d : num f i w / 2 ^ m ≡ num f i (suc k) =
    ap (λ (x : ℕ). num f i x / 2 ^ m) e ∙ ap (λ (x : ℕ). x / 2 ^ m) (num_split f i (suc k) m)
    ∙ high (num f i (suc k)) m (num_bound f (i + suc k) m b) in
    rw d (omega (arith, b (i + k)))

-- the digits of a number made of bits are the bits
pub digits_of : (f : ℕ → ℕ) (i w : ℕ) → ((k : ℕ) → f k < 2) → (k : ℕ) → k < w → get_or (digits w (num f i w)) k 0 ≡ f (i + k)
digits_of f i w b k h = digit_at w (num f i w) k h ∙ num_digit f i w k b h

-- zeros make 0
pub num-zero : (f : ℕ → ℕ) (i n : ℕ) → ((k : ℕ) → k < n → f (i + k) ≡ 0) → num f i n ≡ 0
unfolding num
num-zero f i zero h = refl
num-zero f i (suc n) h = omega (arith, num-zero f i n (λ k l. h k (omega arith)), h n (omega arith))

-- the bytes of bits
pub length-bytes : (f : ℕ → ℕ) (j n : ℕ) → length (bytes_of f j n) ≡ n
unfolding bytes_of
length-bytes f j zero = refl
length-bytes f j (suc n) = ap suc (length-bytes f (suc j) n)

pub byte_of : (f : ℕ → ℕ) (j n m : ℕ) → m < n → get_or (bytes_of f j n) m 0 ≡ num f (8 * (j + m)) 8
unfolding bytes_of
byte_of f j zero m h = omega arith
byte_of f j (suc n) zero h = rw (add-zero j)
byte_of f j (suc n) (suc m) h = byte_of f (suc j) n m (omega arith) ∙ ap (λ (x : ℕ). num f x 8) (omega arith)

pub bytes_same : (f g : ℕ → ℕ) (j k n : ℕ) → ((i : ℕ) → f (8 * j + i) ≡ g (8 * k + i)) → bytes_of f j n ≡ bytes_of g k n
unfolding bytes_of
bytes_same f g j k zero h = refl
bytes_same f g j k (suc n) h =
    rw (num-same f g (8 * j) (8 * k) 8 (λ i l. h i), bytes_same f g (suc j) (suc k) n next)
  where
    next : (i : ℕ) → f (8 * suc j + i) ≡ g (8 * suc k + i)
    next i = ap f (omega arith) ∙ h (8 + i) ∙ ap g (omega arith)

pub bytes_bit : (f : ℕ → ℕ) (n i : ℕ) → ((k : ℕ) → f k < 2) → i < 8 * n → bit_at (bytes_of f 0 n) i ≡ f i
unfolding bit_at
bytes_bit f n i b h =
    let e : 8 * (0 + i / 8) + i % 8 ≡ i = omega arith in
    let s : 7 - i % 8 ≡ 8 - suc (i % 8) = omega arith in
    rw (byte_of f 0 n (i / 8) (omega arith), s, num_digit f (8 * (0 + i / 8)) 8 (i % 8) b (omega arith), e)

pub bytes_bound : (f : ℕ → ℕ) (j n : ℕ) → ((k : ℕ) → f k < 2) → Below 256 (bytes_of f j n)
unfolding bytes_of
bytes_bound f j zero b k = lit< tt
bytes_bound f j (suc n) b zero = num_bound f (8 * j) 8 b
bytes_bound f j (suc n) b (suc k) = bytes_bound f (suc j) n b k

pub length-pack : (bs : List ℕ) → length (pack bs) ≡ (length bs + 7) / 8
unfolding pack
length-pack bs = length-bytes (λ i. get_or bs i 0) 0 ((length bs + 7) / 8)

pub pack_bound : (bs : List ℕ) → Below 2 bs → Below 256 (pack bs)
unfolding pack
pack_bound bs b = bytes_bound (λ i. get_or bs i 0) 0 ((length bs + 7) / 8) b

pub pack_bit : (bs : List ℕ) (j : ℕ) → Below 2 bs → j < 8 * ((length bs + 7) / 8) → bit_at (pack bs) j ≡ get_or bs j 0
unfolding pack
pack_bit bs j b h = bytes_bit (λ i. get_or bs i 0) ((length bs + 7) / 8) j b h

-- bits that stand in bytes, with zeros after them to a whole byte, pack to these bytes
pub pack_is : (bs s : List ℕ) → Below 256 s → (length bs + 7) / 8 ≤ length s
    → ((k : ℕ) → k < 8 * ((length bs + 7) / 8) → get_or bs k 0 ≡ bit_at s k) → pack bs ≡ take ((length bs + 7) / 8) s
unfolding pack
pack_is bs s b l h =
    let n = (length bs + 7) / 8 in
    let f : ℕ → ℕ = λ i. get_or bs i 0 in
    ext_get_or 0 (bytes_of f 0 n) (take n s) (length-bytes f 0 n ∙ sym (length-take-le n s l))
    (λ m g. each m (rw length-bytes at g))
  where
    each : (m : ℕ) → m < (length bs + 7) / 8
        → get_or (bytes_of (λ i. get_or bs i 0) 0 ((length bs + 7) / 8)) m 0 ≡ get_or (take ((length bs + 7) / 8) s) m 0
    each m g =
        byte_of (λ i. get_or bs i 0) 0 ((length bs + 7) / 8) m g
        ∙ num-same (λ i. get_or bs i 0) (bit_at s) (8 * (0 + m)) (8 * m) 8
        (λ k t. ap (λ (x : ℕ). get_or bs (8 * x + k) 0) (zero-add m) ∙ h (8 * m + k) (omega arith))
        ∙ byte_num s m (b m) ∙ sym (get_or-take ((length bs + 7) / 8) s m 0 g)

-- eight bits in front are a byte in front
pub pack_eight : (xs bs : List ℕ) → length xs ≡ 8 → pack (xs ++ bs) ≡ num (λ i. get_or xs i 0) 0 8 ∷ pack bs
unfolding pack bytes_of
pack_eight xs bs e =
    let n : (length (xs ++ bs) + 7) / 8 ≡ suc ((length bs + 7) / 8) = simp length-append (omega arith) in
    let b : num (λ i. get_or (xs ++ bs) i 0) 0 8 ≡ num (λ i. get_or xs i 0) 0 8 =
    num-same _ _ 0 0 8 (λ k h. get_or-append xs bs 0 (0 + k) (omega arith)) in
    rw (n, b) (ap (λ (l : List ℕ). num (λ i. get_or xs i 0) 0 8 ∷ l) (bytes_same _ _ 1 0 ((length bs + 7) / 8) follows))
  where
    follows : (i : ℕ) → get_or (xs ++ bs) (8 * 1 + i) 0 ≡ get_or bs (8 * 0 + i) 0
    follows i =
        let d : 8 * 1 + i ≡ length xs + i = omega arith in
        let z : 8 * 0 + i ≡ i = omega arith in
        rw (d, z) (get_or-append-add xs bs i 0)

-- whole bytes in front stay what they are
pub pack-bytes : (s bs : List ℕ) → Below 256 s → pack (bit_list s ++ bs) ≡ s ++ pack bs
unfolding bit_list
pack-bytes [] bs p = refl
pack-bytes (b ∷ s) bs p =
    let v : num (λ i. get_or (digits 8 b) i 0) 0 8 ≡ b = digits-num 8 b ∙ mod-eq_of_lt (p 0) in
    rw (append_assoc, pack_eight (digits 8 b) (bit_list s ++ bs) (length_digits 8 b), v, pack-bytes s bs (λ k. p (suc k)))

-- the first n bits of bytes pack to these bytes, where the other bits of the last one are zeros
pub pack-take : (s : List ℕ) (n : ℕ) → Below 256 s → n ≤ 8 * length s → ((k : ℕ) → n ≤ k → k < 8 * ((n + 7) / 8) → bit_at s k ≡ 0)
    → pack (take n (bit_list s)) ≡ take ((n + 7) / 8) s
pack-take s n b l z =
    let e : length (take n (bit_list s)) ≡ n = length-take-le n (bit_list s) (omega (arith, bit_list-length s)) in
    rw e at (pack_is (take n (bit_list s)) s b (omega arith) (λ k h. each e k (omega arith) (lt_or_le k n)))
  where
    each : length (take n (bit_list s)) ≡ n → (k : ℕ) → k < 8 * ((n + 7) / 8) → (k < n) ⊎ (n ≤ k) → get_or (take n (bit_list s)) k 0 ≡ bit_at s k
    each e k h (inl p) = get_or-take n (bit_list s) k 0 p ∙ bit_list-at s k
    each e k h (inr p) = get_or-eq_default (take n (bit_list s)) 0 (omega arith) ∙ sym (z k p h)

-- one byte more
pub bit_list-more : (s : List ℕ) (b : ℕ) → bit_list (s ++ (b ∷ [])) ≡ bit_list s ++ digits 8 b
unfolding bit_list
bit_list-more s b = bit_list-append s (b ∷ []) ∙ rw append-nil

-- the digits of a number read are the bits that stand there
pub digits_bits : (s : List ℕ) (i w : ℕ) → i + w ≤ 8 * length s → digits w (bits_at s i w) ≡ take w (drop i (bit_list s))
unfolding bits_at
digits_bits s i w h =
    ext_get_or 0 (digits w (num (bit_at s) i w)) (take w (drop i (bit_list s)))
    (length_digits w _ ∙ sym (length-take-le w (drop i (bit_list s)) (omega (arith, length-drop i (bit_list s), bit_list-length s))))
    (λ k l. each k (rw length_digits at l))
  where
    each : (k : ℕ) → k < w → get_or (digits w (num (bit_at s) i w)) k 0 ≡ get_or (take w (drop i (bit_list s))) k 0
    each k l =
        digits_of (bit_at s) i w (bit_bound s) k l
        ∙ sym (get_or-take w (drop i (bit_list s)) k 0 l ∙ get_or-drop i (bit_list s) k 0 ∙ bit_list-at s (i + k))

-- the bits packed are there again
pub pack-front : (bs : List ℕ) → Below 2 bs → take (length bs) (bit_list (pack bs)) ≡ bs
pack-front bs b =
    let l : length (take (length bs) (bit_list (pack bs))) ≡ length bs =
    length-take-le (length bs) (bit_list (pack bs)) (omega (arith, bit_list-length (pack bs), length-pack bs)) in
    ext_get_or 0 _ bs l
    (λ k h. get_or-take (length bs) (bit_list (pack bs)) k 0 (omega arith) ∙ bit_list-at (pack bs) k ∙ pack_bit bs k b (omega arith))

-- the bits that append_bits packs
abbrev pub front : List ℕ → ℕ → List ℕ → List ℕ
front s i bs = take i (bit_list s) ++ bs

module _ (s : List ℕ) (i : ℕ) (bs : List ℕ) where
  pub front_bound : Below 2 bs → Below 2 (front s i bs)
  front_bound b = below_append 2 (take i (bit_list s)) bs (below_take 2 i (bit_list s) (bit_list_bound s)) b

  module _ (h : i + length bs ≤ 8 * length s) where
    pub length_before : length (take i (bit_list s)) ≡ i
    length_before = length-take-le i (bit_list s) (omega (arith, bit_list-length s))

    pub length_front : length (front s i bs) ≡ i + length bs
    length_front = length-append (take i (bit_list s)) bs ∙ rw length_before

    pub length_packed : length (pack (front s i bs)) ≡ (i + length bs + 7) / 8
    length_packed = length-pack (front s i bs) ∙ rw length_front

    pub append-length : length (append_bits s i bs) ≡ length s
    unfolding append_bits
    append-length =
        simp (length-append, length-drop, length_packed) (omega arith)

    -- the bytes after stay
    pub append_past : (m : ℕ) → (i + length bs + 7) / 8 ≤ m → drop m (append_bits s i bs) ≡ drop m s
    unfolding append_bits
    append_past m l =
        let e : m ≡ length (pack (front s i bs)) + (m - (i + length bs + 7) / 8) = omega (arith, length_packed) in
        let d : (i + length bs + 7) / 8 + (m - (i + length bs + 7) / 8) ≡ m = omega arith in
        ap (λ (x : ℕ). drop x (append_bits s i bs)) e
        ∙ drop-append-add (pack (front s i bs)) _ (m - (i + length bs + 7) / 8)
        ∙ drop-drop (m - (i + length bs + 7) / 8) ((i + length bs + 7) / 8) s ∙ ap (λ (x : ℕ). drop x s) d

    -- the whole bytes before bit i stay
    pub append-before : (m : ℕ) → 8 * m ≤ i → Below 256 s → take m (append_bits s i bs) ≡ take m s
    unfolding append_bits
    append-before m l b =
        let n : length (take m s) ≡ m = length-take-le m s (omega arith) in
        let ys = take (i - 8 * m) (bit_list (drop m s)) in
        let k : i ≡ length (bit_list (take m s)) + (i - 8 * m) = omega (arith, bit_list-length (take m s)) in
        let e : take i (bit_list s) ≡ bit_list (take m s) ++ ys =
        ap (λ (l : List ℕ). take i (bit_list l)) (sym (take-append-drop m s)) ∙ ap (take i) (bit_list-append (take m s) (drop m s))
        ∙ ap (λ (x : ℕ). take x (bit_list (take m s) ++ bit_list (drop m s))) k
        ∙ take-append-add (bit_list (take m s)) (bit_list (drop m s)) (i - 8 * m) in
        rw (e, append_assoc, pack-bytes (take m s) (ys ++ bs) (below_take 256 m s b), append_assoc)
        (take_at (take m s) _ m n)

    -- the bits before bit i, the bits laid, and zeros to a whole byte
    pub append_bit : (j : ℕ) → Below 2 bs → j < 8 * ((i + length bs + 7) / 8) → bit_at (append_bits s i bs) j ≡ get_or (front s i bs) j 0
    unfolding append_bits
    append_bit j b l =
        bit_append (pack (front s i bs)) _ j (omega (arith, length_packed))
        ∙ pack_bit (front s i bs) j (front_bound b) (omega (arith, length_front))

    pub append_old : (j : ℕ) → Below 2 bs → j < i → bit_at (append_bits s i bs) j ≡ bit_at s j
    append_old j b l =
        append_bit j b (omega arith) ∙ get_or-append (take i (bit_list s)) bs 0 j (omega (arith, length_before))
        ∙ get_or-take i (bit_list s) j 0 l ∙ bit_list-at s j

    pub append-new : (k : ℕ) → Below 2 bs → k < length bs → bit_at (append_bits s i bs) (i + k) ≡ get_or bs k 0
    append-new k b l =
        append_bit (i + k) b (omega arith) ∙ ap (λ (x : ℕ). get_or (front s i bs) (x + k) 0) (sym length_before)
        ∙ get_or-append-add (take i (bit_list s)) bs k 0

    pub append_zeros : (j : ℕ) → Below 2 bs → i + length bs ≤ j → j < 8 * ((i + length bs + 7) / 8) → bit_at (append_bits s i bs) j ≡ 0
    append_zeros j b l r = append_bit j b r ∙ get_or-eq_default (front s i bs) 0 (omega (arith, length_front))

-- going on at the last bit
pub append-append : (s : List ℕ) (i : ℕ) (bs cs : List ℕ) → Below 2 bs → i + length bs + length cs ≤ 8 * length s
    → append_bits (append_bits s i bs) (i + length bs) cs ≡ append_bits s i (bs ++ cs)
unfolding append_bits
append-append s i bs cs b h =
    let xs = front s i bs in
    let l : length xs ≡ i + length bs = length_front s i bs (omega arith) in
    let e : take (i + length bs) (bit_list (append_bits s i bs)) ≡ xs =
    ap (take (i + length bs)) (bit_list-append (pack xs) _)
    ∙ take-append-le (i + length bs) (bit_list (pack xs)) _ (omega (arith, bit_list-length (pack xs), length-pack xs))
    ∙ ap (λ (n : ℕ). take n (bit_list (pack xs))) (sym l) ∙ pack-front xs (front_bound s i bs b) in
    rw (e, append_past s i bs (omega arith) ((i + length bs + length cs + 7) / 8) (omega arith), length-append bs cs, add_assoc i (length bs) (length cs), append_assoc)

pub append-zero : (s bs : List ℕ) → append_bits s 0 bs ≡ over (pack bs) s
unfolding append_bits over
append-zero s bs = rw (length-pack bs, zero-add (length bs))

pub append_below : (s : List ℕ) (i : ℕ) (bs : List ℕ) → Below 256 s → Below 2 bs → Below 256 (append_bits s i bs)
unfolding append_bits
append_below s i bs p b =
    below_append 256 (pack (front s i bs)) _ (pack_bound (front s i bs) (front_bound s i bs b))
    (below_drop 256 ((i + length bs + 7) / 8) s p)

-- nothing appended after whole bytes
pub append-none : (s : List ℕ) (m : ℕ) → m ≤ length s → Below 256 s → append_bits s (8 * m) [] ≡ s
append-none s m h b =
    let g : 8 * m + 0 ≤ 8 * length s = omega arith in
    sym (take-append-drop m (append_bits s (8 * m) []))
    ∙ rw (append-before s (8 * m) [] g m (omega arith) b, append_past s (8 * m) [] g m (omega arith)) (take-append-drop m s)
