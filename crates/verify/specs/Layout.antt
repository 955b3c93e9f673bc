-- Records as bytes (docs/LAYOUT.md): five words each.
-- Assumes nothing.
use Rattle.std.specs.Prelude.{ℕ, List, [], ◌∷◌, ◌++◌}
use Rattle.words.specs.Words.{words_bytes}
use Rattle.verify.specs.declared.VbvPictureRecord.{VbvPictureRecord}

-- the bytes of a record
abbrev pub record_size : ℕ
record_size = 40

unfoldable pub record_bytes : VbvPictureRecord → List ℕ
record_bytes r = words_bytes (r.vbv_delay ∷ r.expected_delay ∷ r.data_bits ∷ r.occupancy_before_bits ∷ r.periods ∷ [])

unfoldable pub records_bytes : List VbvPictureRecord → List ℕ
records_bytes [] = []
records_bytes (r ∷ rs) = record_bytes r ++ records_bytes rs
