-- The block test of the search for the next start code.
-- Assumes nothing.
use Rattle.std.specs.Prelude.{ℕ, zero, suc, ◌+◌, List, Bool, false, ◌&&◌, ◌||◌, get_or, eqb}

-- at one of the first k places from `at` on, 00 01 stands as the second and third byte from there
unfoldable pub zero_one : List ℕ → ℕ → ℕ → Bool
zero_one s at zero = false
zero_one s at (suc k) = zero_one s at k || (eqb (get_or s (at + k + 1) 0) 0 && eqb (get_or s (at + k + 2) 0) 1)
