-- Numbers as bytes (docs/LAYOUT.md): words of 64 bits, low byte first, the places that they are laid over, and words read.
-- Assumes nothing.
use Rattle.std.specs.Prelude.{ℕ, zero, suc, ◌+◌, ◌*◌, ◌/◌, ◌%◌, List, [], ◌∷◌, ◌++◌, leb, length, take, drop}
use Rattle.bits.specs.Bits.{pick}
use Rattle.bits.specs.Answers.{over}

-- n bytes of v, low byte first
unfoldable pub low_first : ℕ → ℕ → List ℕ
low_first zero v = []
low_first (suc n) v = v % 256 ∷ low_first n (v / 256)

unfoldable pub words_bytes : List ℕ → List ℕ
words_bytes [] = []
words_bytes (w ∷ ws) = low_first 8 w ++ words_bytes ws

-- over the first bytes of a place, the others staying; a place that is too short is left alone
unfoldable pub laid : List ℕ → List ℕ → List ℕ
laid bytes place = pick (leb (length bytes) (length place)) (over bytes place) place

-- the number that bytes are, the lowest first
unfoldable pub from_low : List ℕ → ℕ
from_low [] = 0
from_low (b ∷ bs) = b + 256 * from_low bs

-- word k, from 0, of a place; bytes past its end count for nothing
unfoldable pub word_at : List ℕ → ℕ → ℕ
word_at place k = from_low (take 8 (drop (8 * k) place))
