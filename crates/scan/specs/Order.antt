-- What is owed of the pictures: that the walk from picture to picture gives them, and that they lie in order.
-- Assumes nothing.
use Rattle.std.specs.Prelude.{ℕ, ◌+◌, ◌≤◌, ◌≡◌, Some, None, List, [], ◌∷◌, length}
use Rattle.scan.specs.Pictures.{Pic, pictures, next_picture}

-- the pictures that calls of `next_picture` give one by one from a place on, up to the last
pub data WalkGives (s : List ℕ) : ℕ → List Pic → Type 0 where
  done : {from : ℕ} → next_picture s from ≡ None → WalkGives s from []
  step : {from start end next : ℕ} {qs : List Pic} → next_picture s from ≡ Some (record { at = start; end = end; next = next }) → WalkGives s next qs
      → WalkGives s from (record { start = start; end = end } ∷ qs)

-- what is owed: from the first byte on they are the stream's
abbrev pub WalkGivesPictures : Type 0
WalkGivesPictures = (s : List ℕ) → WalkGives s 0 (pictures s)

-- one after another from `low` on, each with its start code, within `high` bytes
pub data InOrder (high : ℕ) : ℕ → List Pic → Type 0 where
  none : {low : ℕ} → InOrder high low []
  more : {low : ℕ} {q : Pic} {qs : List Pic} → low ≤ q.start → q.start + 4 ≤ q.end → q.end ≤ high → InOrder high q.end qs
      → InOrder high low (q ∷ qs)

-- what is owed: so are the stream's
abbrev pub PicturesInOrder : Type 0
PicturesInOrder = (s : List ℕ) → InOrder (length s) 0 (pictures s)
