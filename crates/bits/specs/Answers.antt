-- The code's side of the tables: a table as a byte string, and what the functions answer.
-- Assumes nothing.
use Rattle.std.specs.Prelude.{ℕ, zero, suc, ◌-◌, ◌^◌, List, [], ◌∷◌, ◌++◌, not, ltb, replicate, length, drop, Option, Some, None, Result, Ok, Err}
use Rattle.bits.specs.Bits.{pick, bits_at, there, digits, append_bits}
use Rattle.bits.specs.Refusals.{Answer, value, refused, refuse, and_then, or_else}
use Rattle.bits.specs.Fields.{Field, field, fits_all, total, write_header}
use Rattle.bits.specs.declared.FieldsError.{FieldsError}
use Rattle.bits.specs.declared.FieldsError.TheVariants.{Short, Bad}
use Rattle.bits.specs.declared.WriteError.{WriteError}
use Rattle.bits.specs.declared.WriteError.TheVariants.{Unfit, Full}

-- new ones laid over the first of the old ones
unfoldable pub over : {X : Type 0} → List X → List X → List X
over new old = new ++ drop (length new) old

-- the number in n bits: fewer remain, or n is above 32 (1)
unfoldable pub read_bits : List ℕ → ℕ → ℕ → Answer ℕ
read_bits s i n = refuse 1 (not (there s i n)) (value (bits_at s i n))

-- the number and the value of each case
abbrev pub bits_answer : Option ℕ → Answer ℕ
bits_answer (Some v) = value v
bits_answer None = refused 1 0 0 0

-- the bytes after writing n bits of v at bit i: as they were where the bits do not fit
unfoldable pub wrote_bits : List ℕ → ℕ → ℕ → ℕ → List ℕ
wrote_bits s i n v = pick (there s i n) (append_bits s i (digits n v)) s

-- the greatest value of a field of w bits: the given one, or what the width allows where that is 0
abbrev pub greatest : ℕ → ℕ → ℕ
greatest w zero = 2 ^ w - 1
greatest w (suc h) = suc h

-- the table in a byte string, three bytes a field: its width, its least value, its greatest (0: what the width allows); n fields at most
abbrev pub table_of : ℕ → List ℕ → List Field
table_of zero t = []
table_of (suc n) [] = []
table_of (suc n) (w ∷ []) = []
table_of (suc n) (w ∷ l ∷ []) = []
table_of (suc n) (w ∷ l ∷ h ∷ t) = field w l (greatest w h) ∷ table_of n t

-- values in 24 places, zeros after them
unfoldable pub places : List ℕ → List ℕ
places vs = vs ++ replicate (24 - length vs) 0

abbrev pub in_places : Answer (List ℕ) → Answer (List ℕ)
in_places a = and_then a (λ vs. value (places vs))

-- the number and the values of each case: a table that was read, bits that end in it (1), a rule broken (2)
abbrev pub fields_answer : Result (List ℕ) FieldsError → Answer (List ℕ)
fields_answer (Ok vs) = value vs
fields_answer (Err Short) = refused 1 0 0 0
fields_answer (Err Bad) = refused 2 0 0 0

-- how many bits a table has, where the values fit it (16)
unfoldable pub check_fields : List Field → List ℕ → Answer ℕ
check_fields fs vs = refuse 16 (not (fits_all fs vs)) (value (total fs))

-- the number and the value of each case
abbrev pub checked_answer : Option ℕ → Answer ℕ
checked_answer (Some n) = value n
checked_answer None = refused 16 0 0 0

-- writing a header: a value that does not fit (16), then too few bytes (19), else so many bytes
unfoldable pub write_answer : List ℕ → List Field → List ℕ → List ℕ → Answer ℕ
write_answer code fs vs out =
    refuse 16 (not (fits_all fs vs))
    (refuse 19 (ltb (length out) (length (write_header code fs vs)))
    (value (length (write_header code fs vs))))

-- the number and the value of each case
abbrev pub wrote_answer : Result ℕ WriteError → Answer ℕ
wrote_answer (Ok n) = value n
wrote_answer (Err Unfit) = refused 16 0 0 0
wrote_answer (Err Full) = refused 19 0 0 0

-- and what is there then: the header over the first bytes; all as it was on a refusal
unfoldable pub write_result : List ℕ → List Field → List ℕ → List ℕ → List ℕ
write_result code fs vs out = or_else out (and_then (write_answer code fs vs out) (λ n. value (over (write_header code fs vs) out)))
