-- What `append_bits` computes: the number of the bytes that it changes, and storing them from the last one on.
-- Assumes nothing.
use mathlib.Core.Path.{◌≡◌, refl, sym, ap, ◌∙◌}
use mathlib.Core.List.{List}
use mathlib.Core.Bool.{true, false}
use Prim.Native.Nat.{ℕ, zero, suc, ◌+◌, ◌-◌, ◌*◌, ◌/◌, ◌%◌, ◌^◌, ◌≤◌, ◌<◌}
use native.Mathlib.Nat.{add-zero, zero-add, sub_self, pow-suc, lt_of_lt_of_le}
use native.Mathlib.Omega.{arith}
use lib.Pow.{high, pow_mono, pow-add}
use lib.ListN.{length, get_or, take, drop, take-append-drop}
use lib.Seq.{drop-drop, drop-cons}
use borrow.Author.Tests.{le-leb, lt-leb}
use borrow.Rule.Slice.PartMut.{put_mid}
use Rattle.std.specs.Int.{byte_at, bytes_high_first}
use mathlib.Core.Logic.{◌⊎◌, inl, inr}
use Rattle.bits.specs.Bits.{pick, num, bit_at, bits_at, there, digits, append_bits}
use Rattle.bits.specs.Answers.{wrote_bits}
use Rattle.bits.proofs.Laws.{bits_none, bit_bound, num_bound, num-same, num_split, length_digits, digits-num, byte_num, bits_middle}
use Rattle.bits.proofs.Reading.{rest_is}
use Rattle.bits.proofs.Appending.{Below, digit_bound, num-zero, append-length, append_past, append-before, append_old, append-new, append_zeros, append_below, lt_or_le}

-- the first o bits of a byte
pub byte_high : (s : List ℕ) (m o : ℕ) → get_or s m 0 < 256 → o ≤ 8 → get_or s m 0 / 2 ^ (8 - o) ≡ bits_at s (8 * m) o
unfolding bits_at
byte_high s m o b h =
    let e : 8 ≡ o + (8 - o) = omega arith in
    ap (λ (x : ℕ). x / 2 ^ (8 - o)) (sym (byte_num s m b) ∙ ap (num (bit_at s) (8 * m)) e ∙ num_split (bit_at s) (8 * m) o (8 - o))
    ∙ high (num (bit_at s) (8 * m) o) (8 - o) (num_bound (bit_at s) (8 * m + o) (8 - o) (bit_bound s))

-- the bits before bit i in its byte
pub kept_none : (s : List ℕ) (i : ℕ) → i % 8 ≡ 0 → 0 ≡ bits_at s (8 * (i / 8)) (i % 8)
kept_none s i z = rw (z, bits_none)

-- n bits at bit i: the bytes that they touch, and the bits left over in the last of them
abbrev pub byte_count : ℕ → ℕ → ℕ
byte_count i n = (i % 8 + n + 7) / 8

abbrev pub bits_left : ℕ → ℕ → ℕ
bits_left i n = 8 * byte_count i n - i % 8 - n

-- byte k of a number, and the c lowest of its k bytes
power : (k : ℕ) → 256 ^ k ≡ 2 ^ (8 * k)
power zero = refl
power (suc k) =
    let e : 8 * suc k ≡ 8 * k + 8 = omega arith in
    rw (e, pow-suc, pow-add 2 (8 * k) 8, power k)

byte_shifted : (k n : ℕ) → byte_at k n ≡ n / 2 ^ (8 * k) % 2 ^ 8
byte_shifted zero n = omega arith
byte_shifted (suc k) n = rw (power (suc k))

high_last : (k c n : ℕ) → c ≤ k → drop (k - c) (bytes_high_first k n) ≡ bytes_high_first c n
high_last zero c n h = let e : c ≡ 0 = omega arith in rw e
high_last (suc k) c n h = case (lt_or_le k c) (λ l. high_last k c n l)
  where
    case : (k < c) ⊎ (c ≤ k) → (c ≤ k → drop (k - c) (bytes_high_first k n) ≡ bytes_high_first c n)
        → drop (suc k - c) (bytes_high_first (suc k) n) ≡ bytes_high_first c n
    case (inl l) r = let e : c ≡ suc k = omega arith in rw (e, sub_self (suc k))
    case (inr l) r = let e : suc k - c ≡ suc (k - c) = omega arith in rw e (r l)

byte_is : (t : List ℕ) (j : ℕ) → get_or t j 0 < 256 → bits_at t (8 * j) 8 ≡ get_or t j 0
unfolding bits_at
byte_is t j l = byte_num t j l

-- the last k of c bytes of t, by their number
number_bytes : (t : List ℕ) (a c n k j : ℕ) → j + k ≡ a + c → a ≤ j → a + c ≤ length t → Below 256 t → n ≡ num (bit_at t) (8 * a) (8 * c)
    → bytes_high_first k n ≡ take k (drop j t)
number_bytes t a c n zero j l h w b e = refl
number_bytes t a c n (suc k) j l h w b e =
    let d : 8 * (j - a) + 8 + 8 * k ≡ 8 * c = omega arith in
    let p : 8 * a + 8 * (j - a) ≡ 8 * j = omega arith in
    let x : byte_at k n ≡ get_or t j 0 =
    byte_shifted k n ∙ rw e (bits_middle t a (8 * (j - a)) 8 (8 * k) c d)
    ∙ ap (λ (x : ℕ). bits_at t x 8) p ∙ byte_is t j (b j) in
    rw (drop-cons t j 0 (omega arith), x, number_bytes t a c n k (suc j) (omega arith) (omega arith) w b e)

module _ (s : List ℕ) (i n v : ℕ) where
  abbrev pub result : List ℕ
  result = append_bits s i (digits n v)

  module _ (h : i + n ≤ 8 * length s) where
    room : i + length (digits n v) ≤ 8 * length s
    room = omega (arith, length_digits n v)

    old : num (bit_at result) (8 * (i / 8)) (i % 8) ≡ bits_at s (8 * (i / 8)) (i % 8)
    unfolding bits_at
    old =
        num-same (bit_at result) (bit_at s) _ _ (i % 8)
        (λ k l. append_old s i (digits n v) room (8 * (i / 8) + k) (digit_bound n v) (omega arith))

    new : num (bit_at result) (8 * (i / 8) + i % 8) n ≡ v % 2 ^ n
    new =
        num-same (bit_at result) (λ j. get_or (digits n v) j 0) (8 * (i / 8) + i % 8) 0 n each ∙ digits-num n v
      where
        each : (k : ℕ) → k < n → bit_at result (8 * (i / 8) + i % 8 + k) ≡ get_or (digits n v) (0 + k) 0
        each k l =
            let e : 8 * (i / 8) + i % 8 + k ≡ i + k = omega arith in
            rw (e, zero-add k) (append-new s i (digits n v) room k (digit_bound n v) (omega (arith, length_digits n v)))

    zeros : num (bit_at result) (8 * (i / 8) + (i % 8 + n)) (bits_left i n) ≡ 0
    zeros =
        num-zero (bit_at result) _ (bits_left i n)
        (λ k l. append_zeros s i (digits n v) room _ (digit_bound n v) (omega (arith, length_digits n v)) (omega (arith, length_digits n v)))

    front-number : bits_at s (8 * (i / 8)) (i % 8) * 2 ^ n + v % 2 ^ n ≡ num (bit_at result) (8 * (i / 8)) (i % 8 + n)
    front-number = sym (num_split (bit_at result) (8 * (i / 8)) (i % 8) n ∙ rw (old, new))

    -- the number of the bytes to store
    whole-number : (bits_at s (8 * (i / 8)) (i % 8) * 2 ^ n + v % 2 ^ n) * 2 ^ bits_left i n ≡ num (bit_at result) (8 * (i / 8)) (8 * byte_count i n)
    whole-number =
        let e : 8 * byte_count i n ≡ i % 8 + n + bits_left i n = omega arith in
        sym (ap (num (bit_at result) (8 * (i / 8))) e ∙ num_split (bit_at result) (8 * (i / 8)) (i % 8 + n) (bits_left i n)
        ∙ rw (zeros, ← front-number, add-zero))

    -- the same at the numbers that the code has
    module _ {o p u q : ℕ} (a : o ≡ bits_at s (8 * (i / 8)) (i % 8)) (b : p ≡ 2 ^ n) (c : u ≡ v) (d : q ≡ 2 ^ n) where
      pub front_small : n ≤ 32 → o * p + u % q < 2 ^ 39
      front_small w =
          rw (a, b, c, d, front-number) (lt_of_lt_of_le (num_bound _ _ _ (bit_bound result)) (pow_mono {j = 39} (omega arith)))

      module _ {r : ℕ} (e : r ≡ 2 ^ bits_left i n) where
        whole : (o * p + u % q) * r ≡ num (bit_at result) (8 * (i / 8)) (8 * byte_count i n)
        whole = rw (a, b, c, d, e) whole-number

        pub whole_small : n ≤ 32 → (o * p + u % q) * r < 2 ^ 40
        whole_small w = rw whole (lt_of_lt_of_le (num_bound _ _ _ (bit_bound result)) (pow_mono {j = 40} (omega arith)))

        pub stored : {ys : List ℕ} {m : ℕ} → n ≤ 32 → Below 256 s → m ≡ byte_count i n
            → ys ≡ take (8 - (8 - byte_count i n)) (drop (8 - byte_count i n) (bytes_high_first 8 ((o * p + u % q) * r)))
            → put_mid (i / 8) m s ys ≡ result
        stored {ys} w f z y =
            let a = i / 8 in
            let c = byte_count i n in
            let g = digit_bound n v in
            let N = (o * p + u % q) * r in
            let l : a + c ≤ length result = omega (arith, append-length s i (digits n v) room) in
            let x : ys ≡ take c (drop a result) = y ∙ rest_is (bytes_high_first 8 N) (8 - c) ∙ high_last 8 c N (omega arith)
            ∙ number_bytes result a c N c a refl (omega arith) l (append_below s i (digits n v) f g) whole in
            rw (
              x,
              z,
              ← append-before s i (digits n v) room a (omega arith) f,
              drop-drop c a s,
              ← append_past s i (digits n v) room (a + c) (omega (arith, length_digits n v)),
              ← drop-drop c a result,
              take-append-drop c (drop a result),
            ) (take-append-drop a result)

-- the ways of `append_bits`
module _ (s : List ℕ) (i n v : ℕ) where
  pub refuses_wide : 32 < n → (false ≡ there s i n) × (s ≡ wrote_bits s i n v)
  unfolding there wrote_bits pick
  refuses_wide h = (rw (lt-leb _ _ h), rw (lt-leb _ _ h))

  pub refuses_past : n ≤ 32 → 8 * length s < i + n → (false ≡ there s i n) × (s ≡ wrote_bits s i n v)
  unfolding there wrote_bits pick
  refuses_past w h = (rw (le-leb _ _ w, lt-leb _ _ h), rw (le-leb _ _ w, lt-leb _ _ h))

  pub writes : {out : List ℕ} → n ≤ 32 → i + n ≤ 8 * length s → out ≡ append_bits s i (digits n v)
      → (true ≡ there s i n) × (out ≡ wrote_bits s i n v)
  unfolding there wrote_bits pick
  writes w h e = (rw (le-leb _ _ w, le-leb _ _ h), rw (le-leb _ _ w, le-leb _ _ h) e)
