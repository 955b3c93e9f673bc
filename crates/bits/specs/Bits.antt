-- Bits of bytes, high bit first, and the number that stands in some of them (ISO/IEC 13818-2 4.6: bslbf, uimsbf).
-- Assumes nothing.
use Rattle.std.specs.Prelude.{ℕ, zero, suc, ◌+◌, ◌-◌, ◌*◌, ◌/◌, ◌%◌, ◌^◌, List, [], ◌∷◌, ◌++◌, Bool, true, false, ◌&&◌, leb, length, get_or, take, drop}

-- one of two by a test
unfoldable pub pick {ℓ} : {X : Type ℓ} → Bool → X → X → X
pick true a b = a
pick false a b = b

-- bit i of the bytes s: bit 0 is the high bit of the first byte; 0 past the end
unfoldable pub bit_at : List ℕ → ℕ → ℕ
bit_at s i = get_or s (i / 8) 0 / 2 ^ (7 - i % 8) % 2

-- the number whose n binary digits are f i, f (i + 1), .., high digit first
unfoldable pub num : (ℕ → ℕ) → ℕ → ℕ → ℕ
num f i zero = 0
num f i (suc n) = num f i n * 2 + f (i + n)

-- the number in the n bits from bit i
unfoldable pub bits_at : List ℕ → ℕ → ℕ → ℕ
bits_at s i n = num (bit_at s) i n

-- n bits can be read or written at bit i: they are 32 at most, and do not run past the end
unfoldable pub there : List ℕ → ℕ → ℕ → Bool
there s i n = leb n 32 && leb (i + n) (8 * length s)

-- the w low bits of v, high first
unfoldable pub digits : ℕ → ℕ → List ℕ
digits zero v = []
digits (suc w) v = v / 2 ^ w % 2 ∷ digits w v

-- the bits of bytes, end to end
unfoldable pub bit_list : List ℕ → List ℕ
bit_list [] = []
bit_list (b ∷ s) = digits 8 b ++ bit_list s

-- n bytes from byte j on, of the bits f
unfoldable pub bytes_of : (ℕ → ℕ) → ℕ → ℕ → List ℕ
bytes_of f j zero = []
bytes_of f j (suc n) = num f (8 * j) 8 ∷ bytes_of f (suc j) n

-- bits as bytes, with zeros after them to a whole byte (5.2.3: zero_bit)
unfoldable pub pack : List ℕ → List ℕ
pack bs = bytes_of (λ i. get_or bs i 0) 0 ((length bs + 7) / 8)

-- the bytes s with the bits bs at bit i and zeros after them to a whole byte; what is before bit i, and the bytes after, stay
unfoldable pub append_bits : List ℕ → ℕ → List ℕ → List ℕ
append_bits s i bs = pack (take i (bit_list s) ++ bs) ++ drop ((i + length bs + 7) / 8) s

-- the bytes s with the bits bs at bit i; every other bit stays
unfoldable pub set_bits : List ℕ → ℕ → List ℕ → List ℕ
set_bits s i bs = pack (take i (bit_list s) ++ (bs ++ drop (i + length bs) (bit_list s)))
