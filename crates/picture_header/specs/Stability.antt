-- Bytes after a header do not matter: what parses from a list parses the same from a longer one.
-- Assumes nothing.
use Rattle.std.specs.Prelude.{◌≡◌, List, ◌++◌, ℕ}
use Rattle.bits.specs.Refusals.{value, refused}
use Rattle.picture_header.specs.PictureHeader.{picture_header}
use Rattle.picture_header.specs.CodingExtension.{picture_coding_extension}
use Rattle.picture_header.specs.Picture.{picture}
use Rattle.picture_header.specs.declared.Mpeg2PictureHeader.{Mpeg2PictureHeader}
use Rattle.picture_header.specs.declared.PictureCodingExtension.{PictureCodingExtension}

-- the answer stays, refused or not, but where the bytes end in the header (1)
abbrev pub PictureHeaderStays : Type 0
PictureHeaderStays = (s t : List ℕ) → (picture_header s ≡ refused 1 0 0 0 → ⊥) → picture_header (s ++ t) ≡ picture_header s

abbrev pub CodingStays : Type 0
CodingStays = (s t : List ℕ) → (picture_coding_extension s ≡ refused 1 0 0 0 → ⊥) → picture_coding_extension (s ++ t) ≡ picture_coding_extension s

-- and what is too short with more bytes after it (1) is too short without them
abbrev pub PictureHeaderCut : Type 0
PictureHeaderCut = (s t : List ℕ) → picture_header (s ++ t) ≡ refused 1 0 0 0 → picture_header s ≡ refused 1 0 0 0

abbrev pub CodingCut : Type 0
CodingCut = (s t : List ℕ) → picture_coding_extension (s ++ t) ≡ refused 1 0 0 0 → picture_coding_extension s ≡ refused 1 0 0 0

-- the pair stays where it parses: an extension that is missing (2) may come with more bytes
abbrev pub PictureStays : Type 0
PictureStays = (s t : List ℕ) (h : Mpeg2PictureHeader) (x : PictureCodingExtension) → picture s ≡ value (h, x) → picture (s ++ t) ≡ value (h, x)
