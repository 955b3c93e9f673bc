-- Numbers of an input and bytes of an answer (oracle/FORMAT.md), the lowest byte first.
-- Assumes nothing.
use Rattle.std.specs.Prelude.{ℕ, zero, suc, ◌+◌, ◌*◌, List, slice_index}

-- n bytes of s from `at` on as a number; bytes past the end count for nothing
unfoldable pub number_at : ℕ → List ℕ → ℕ → ℕ
number_at zero s at = 0
number_at (suc n) s at = slice_index s at + 256 * number_at n s (at + 1)
