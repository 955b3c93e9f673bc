-- How cases are counted by their kinds.
-- Assumes nothing.
use Rattle.std.specs.Prelude.{ℕ, ◌+◌, ◌%◌, ◌^◌, ◌||◌, leb, eqb, List, cond, slice_index, slice_set}

-- the count at a place, if there is one, is one more; it wraps, as 2^64 cases would
abbrev pub one_more : List ℕ → ℕ → List ℕ
one_more counts at = slice_set counts at ((slice_index counts at + 1) % 2 ^ 64)

-- the kind that a case with n bytes of an answer counts as: 0, malformed, where there are none, or no such kind
abbrev pub counted_as : ℕ → ℕ → ℕ
counted_as kind n = cond (eqb n 0 || leb 28 kind) 0 kind
