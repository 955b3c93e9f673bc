-- Which refusals the picture headers have (paper 01, 'Headers read and written').
-- Assumes nothing.
use Rattle.std.specs.Prelude.{ℕ, List, [], ◌∷◌}
use Rattle.bits.specs.Numbers.{Numbered}
use Rattle.picture_header.specs.PictureHeader.{picture_header, header_length}
use Rattle.picture_header.specs.CodingExtension.{picture_coding_extension}
use Rattle.picture_header.specs.Picture.{picture}
use Rattle.picture_header.specs.Facts.{header_told, picture_told}

-- what is owed: 1 or 2
pub record PictureNumbers : Type 0 where
  pub picture_header_lem : (s : List ℕ) → Numbered (1 ∷ 2 ∷ []) [] [] (picture_header s)
  pub header_length_lem : (s : List ℕ) → Numbered (1 ∷ 2 ∷ []) [] [] (header_length s)
  pub coding_extension : (s : List ℕ) → Numbered (1 ∷ 2 ∷ []) [] [] (picture_coding_extension s)
  pub both : (s : List ℕ) → Numbered (1 ∷ 2 ∷ []) [] [] (picture s)
  pub header_told_lem : (s : List ℕ) → Numbered (1 ∷ 2 ∷ []) [] [] (header_told s)
  pub picture_told_lem : (s : List ℕ) → Numbered (1 ∷ 2 ∷ []) [] [] (picture_told s)
