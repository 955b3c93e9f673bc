-- What the two searches answer, as words: 1 and the code's offset and fourth byte, or three times 0; after them how many places a scan looked at.
-- Assumes nothing.
use Rattle.std.specs.Prelude.{ℕ, List, [], ◌∷◌, ◌++◌, Option, Some, None}
use Rattle.scan.specs.declared.StartCode.{StartCode}
use Rattle.scan.specs.declared.Scanned.{Scanned}

unfoldable pub found_words : Option StartCode → List ℕ
found_words (Some c) = 1 ∷ c.offset ∷ c.code ∷ []
found_words None = 0 ∷ 0 ∷ 0 ∷ []

unfoldable pub scanned_words : Scanned → List ℕ
unfolding found_words
scanned_words r = found_words r.found ++ (r.looked ∷ [])
