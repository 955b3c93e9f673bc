-- A header as a table of fields in stream order, and the one way to read a table and to write one (ISO/IEC 13818-2 6.2).
-- Assumes nothing.
use Rattle.std.specs.Prelude.{ℕ, ◌+◌, ◌-◌, ◌^◌, List, [], ◌∷◌, ◌++◌, Bool, true, false, not, ◌&&◌, leb, ltb, eqb, length, take}
use Rattle.bits.specs.Bits.{bits_at, there, digits, pack}
use Rattle.bits.specs.Refusals.{Answer, value, refuse, and_then}

-- a field is so many bits wide, and its value is low at least and high at most
pub record Field : Type 0 where
  pub width : ℕ
  pub low : ℕ
  pub high : ℕ

abbrev pub field : ℕ → ℕ → ℕ → Field
field w l h = record { width = w; low = l; high = h }

-- the rules: any value; not zero; exactly k
abbrev pub any_value : ℕ → Field
any_value w = field w 0 (2 ^ w - 1)

abbrev pub nonzero : ℕ → Field
nonzero w = field w 1 (2 ^ w - 1)

abbrev pub exactly : ℕ → ℕ → Field
exactly w k = field w k k

unfoldable pub obeys : Field → ℕ → Bool
obeys f v = leb f.low v && leb v f.high

-- reads the fields from bit i on: at each first that its bits are there, then its rule, then the next
unfoldable pub read_fields : List Field → List ℕ → ℕ → Answer (List ℕ)
read_fields [] s i = value []
read_fields (f ∷ fs) s i =
    refuse 1 (not (there s i f.width))
    (refuse 2 (not (obeys f (bits_at s i f.width)))
    (and_then (read_fields fs s (i + f.width)) (λ vs. value (bits_at s i f.width ∷ vs))))

-- the same bytes
unfoldable pub same_bytes : List ℕ → List ℕ → Bool
same_bytes [] [] = true
same_bytes [] (b ∷ t) = false
same_bytes (a ∷ s) [] = false
same_bytes (a ∷ s) (b ∷ t) = eqb a b && same_bytes s t

-- a header is a start code, four bytes read as one, and after it the fields (6.2.1)
unfoldable pub read_header : List ℕ → List Field → List ℕ → Answer (List ℕ)
read_header code fs s = refuse 1 (ltb (length s) 4) (refuse 2 (not (same_bytes (take 4 s) code)) (read_fields fs s 32))

-- the bits of the fields, end to end
unfoldable pub field_bits : List Field → List ℕ → List ℕ
field_bits [] vs = []
field_bits (f ∷ fs) [] = []
field_bits (f ∷ fs) (v ∷ vs) = digits f.width v ++ field_bits fs vs

-- the other way: the fields as bytes, with zeros to a whole byte; a header with its start code before them
unfoldable pub write_fields : List Field → List ℕ → List ℕ
write_fields fs vs = pack (field_bits fs vs)

unfoldable pub write_header : List ℕ → List Field → List ℕ → List ℕ
write_header code fs vs = code ++ write_fields fs vs

-- the value can be written in the field: its width, of 32 bits at most, and its rule
unfoldable pub fits_field : Field → ℕ → Bool
fits_field f v = leb f.width 32 && (ltb v (2 ^ f.width) && obeys f v)

-- the values are as many as the fields, and each fits its own
unfoldable pub fits_all : List Field → List ℕ → Bool
fits_all [] [] = true
fits_all [] (v ∷ vs) = false
fits_all (f ∷ fs) [] = false
fits_all (f ∷ fs) (v ∷ vs) = fits_field f v && fits_all fs vs

-- the bits of all fields
unfoldable pub total : List Field → ℕ
total [] = 0
total (f ∷ fs) = f.width + total fs
