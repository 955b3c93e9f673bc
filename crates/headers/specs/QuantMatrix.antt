-- A quantiser matrix of the sequence header with its load flag (ISO/IEC 13818-2 6.2.2.1, 6.3.11).
-- Assumes nothing.
use Rattle.std.specs.Prelude.{ℕ, ◌+◌, List, [], ◌∷◌, eqb, get_or, replicate, Option, Some, None}
use Rattle.bits.specs.Bits.{pick}
use Rattle.bits.specs.Refusals.{Answer, value, and_then}
use Rattle.bits.specs.Fields.{Field, any_value, read_fields}

-- the 64 bytes after a load flag of 1; any bytes (docs/DIFFERENCES.md)
unfoldable pub matrix_bytes : List Field
matrix_bytes = replicate 64 (any_value 8)

-- load_intra_quantiser_matrix or load_non_intra_quantiser_matrix, and where it is 1 the 64 bytes
unfoldable pub read_matrix : List ℕ → ℕ → Answer (Option (List ℕ))
read_matrix s i =
    and_then (read_fields (any_value 1 ∷ []) s i) (λ flag.
    pick (eqb (get_or flag 0 0) 0) (value None)
    (and_then (read_fields matrix_bytes s (i + 1)) (λ bytes. value (Some bytes))))

-- the other way: the flag and, where it is 1, the bytes
abbrev pub load_flag : Option (List ℕ) → ℕ
load_flag (Some bytes) = 1
load_flag None = 0

unfoldable pub matrix_fields : Option (List ℕ) → List Field
matrix_fields (Some bytes) = any_value 1 ∷ matrix_bytes
matrix_fields None = any_value 1 ∷ []

unfoldable pub matrix_values : Option (List ℕ) → List ℕ
matrix_values (Some bytes) = 1 ∷ bytes
matrix_values None = 0 ∷ []
