-- next_start_code() (ISO/IEC 13818-2 5.2.3), as the headers look for the extension after them.
-- Assumes nothing.
use Rattle.std.specs.Prelude.{ℕ, zero, suc, ◌+◌, ◌-◌, List, [], ◌∷◌, Bool, not, take, drop}
use Rattle.bits.specs.Refusals.{Answer, value, refuse}
use Rattle.bits.specs.Fields.{same_bytes}
use Rattle.bits.specs.StartCodes.{start_code_prefix}

-- how many zero bytes come first
unfoldable pub leading_zeros : List ℕ → ℕ
leading_zeros [] = 0
leading_zeros (zero ∷ s) = suc (leading_zeros s)
leading_zeros (suc b ∷ s) = 0

-- 00 00 01 stands at byte p
unfoldable pub prefix_at : List ℕ → ℕ → Bool
prefix_at s p = same_bytes (take 3 (drop p s)) start_code_prefix

-- the prefix that ends with the first byte, from byte k on, that is not zero; its two zeros may lie before byte k (docs/DIFFERENCES.md), and no byte need follow it
unfoldable pub next_start_code : List ℕ → ℕ → Answer ℕ
next_start_code s k = refuse 2 (not (prefix_at s (k + leading_zeros (drop k s) - 2))) (value (k + leading_zeros (drop k s) - 2))
