-- Pieces laid end to end, each with one picture: what they are, and the pictures that a stream of them has, one piece at a time.
-- Assumes nothing.
use mathlib.Core.Path.{◌≡◌, refl}
use Prim.Native.Nat.{ℕ, ◌+◌}
use mathlib.Core.List.{List, [], ◌∷◌, ◌++◌}
use mathlib.Core.Bool.{true, false}
use lib.ListN.{length}
use lib.Dec.{eqb}
use Rattle.scan.specs.declared.StartCode.{StartCode}
use Rattle.scan.specs.Codes.{codes, every, ends_prefix}
use Rattle.scan.specs.Pictures.{Pic, is_slice, not_slice, not_picture}
use Rattle.bits.specs.StartCodes.{sequence_end_code}

-- the codes of a piece: headers, the picture's code at `at`, its extensions, its slices
pub record OnePicture (cs : List StartCode) (at : ℕ) : Type 0 where
  pub headers : List StartCode
  pub extensions : List StartCode
  pub slice : StartCode
  pub slices : List StartCode
  pub shape : cs ≡ headers ++ (record { offset = at; code = 0 } ∷ (extensions ++ (slice ∷ slices)))
  pub no_picture : every not_picture headers ≡ true
  pub no_slice : every not_slice extensions ≡ true
  pub a_slice : is_slice slice.code ≡ true
  pub all_slices : every is_slice slices ≡ true

-- a part that begins with a start code, which is neither a slice's nor the sequence's end, and does not end 00 00 01
pub record Opened (x : List ℕ) : Type 0 where
  pub first : ℕ
  pub rest : List ℕ
  pub opens : x ≡ 0 ∷ 0 ∷ 1 ∷ first ∷ rest
  pub opens_slice : is_slice first ≡ false
  pub opens_end : eqb first sequence_end_code ≡ false
  pub closed : ends_prefix x ≡ false

-- a piece: such a part with one picture, at `at`
pub record Piece (x : List ℕ) (at : ℕ) : Type 0 where
  pub opened : Opened x
  pub one : OnePicture (codes x) at

-- pieces, each with where its picture begins
pub data Pieces : Type 0 where
  none : Pieces
  more : (x : List ℕ) (at : ℕ) → Piece x at → Pieces → Pieces

-- pieces end to end, and what follows the last
unfoldable pub laid_pieces : Pieces → List ℕ → List ℕ
laid_pieces none t = t
laid_pieces (more x at p ps) t = x ++ laid_pieces ps t

-- their pictures, in a stream in which they begin at o: each begins where its piece says, and ends where the next piece begins
unfoldable pub laid_pics : ℕ → Pieces → ℕ → List Pic
laid_pics o none t = []
laid_pics o (more x at p none) t = record { start = o + at; end = o + (length x + t) } ∷ []
laid_pics o (more x at p (more y at₂ q ps)) t = record { start = o + at; end = o + length x } ∷ laid_pics (o + length x) (more y at₂ q ps) t

pub laid_none : (t : List ℕ) → laid_pieces none t ≡ t
unfolding laid_pieces
laid_none t = refl

pub pics_none : (o t : ℕ) → laid_pics o none t ≡ []
unfolding laid_pics
pics_none o t = refl

module _ (x : List ℕ) (at : ℕ) (p : Piece x at) where
  pub laid_more : (ps : Pieces) (t : List ℕ) → laid_pieces (more x at p ps) t ≡ x ++ laid_pieces ps t
  unfolding laid_pieces
  laid_more ps t = refl

  -- the last picture ends with what follows the pieces
  pub pics_last : (o t : ℕ) → laid_pics o (more x at p none) t ≡ record { start = o + at; end = o + (length x + t) } ∷ []
  unfolding laid_pics
  pics_last o t = refl

  -- any other where the next piece begins
  pub pics_more : (y : List ℕ) (at₂ : ℕ) (q : Piece y at₂) (ps : Pieces) (o t : ℕ)
      → laid_pics o (more x at p (more y at₂ q ps)) t ≡ record { start = o + at; end = o + length x } ∷ laid_pics (o + length x) (more y at₂ q ps) t
  unfolding laid_pics
  pics_more y at₂ q ps o t = refl
