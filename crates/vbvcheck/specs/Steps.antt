-- The promises of private functions: words of the records read from their bytes again. No definition of what is printed rests on these.
-- Assumes nothing.
use Rattle.std.specs.Prelude.{◌≡◌, ℕ, zero, suc, ◌≤◌, List, [], ◌∷◌, ◌++◌, length, take, drop}
use Rattle.words.specs.Words.{word_at}
use Rattle.verify.specs.Layout.{record_size}
use Rattle.vbvcheck.specs.Text.{line}

-- `&xs[..n]` is in bounds and has n bytes
abbrev pub IsPrefixLen : ℕ → List ℕ → Type 0
IsPrefixLen n xs = (n ≤ length xs) × (n ≡ length (take n xs))

-- the first five words, as a line
unfoldable pub line_of : List ℕ → List ℕ
line_of s = line (word_at s 0 ∷ word_at s 1 ∷ word_at s 2 ∷ word_at s 3 ∷ word_at s 4 ∷ [])

-- the lines of the first n places
unfoldable pub lines_of : ℕ → List ℕ → List ℕ
lines_of zero s = []
lines_of (suc n) s = line_of s ++ lines_of n (drop record_size s)
