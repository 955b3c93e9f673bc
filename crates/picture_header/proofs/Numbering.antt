-- The numbers of the picture headers' refusals.
-- Assumes nothing.
use mathlib.Core.Path.{refl}
use mathlib.Core.List.{List, [], ◌∷◌}
use Prim.Native.Nat.{ℕ, zero, suc}
use lib.ListN.{drop}
use Rattle.bits.specs.Numbers.{a_value, by_number}
use Rattle.bits.proofs.Flags.{pick_elim}
use Rattle.bits.proofs.Numbering.{and_then_lem, Header, fields_numbered, header_numbered}
use Rattle.headers.proofs.Numbering.{next_numbered}
use Rattle.picture_header.specs.PictureHeader.{extra, after_delay, picture_header, header_length}
use Rattle.picture_header.specs.CodingExtension.{after_codes, picture_coding_extension}
use Rattle.picture_header.specs.Picture.{picture}
use Rattle.picture_header.specs.Facts.{header_told, picture_told}
use Rattle.picture_header.specs.Numbers.{PictureNumbers}

extra_numbered : (k : ℕ) (bs : List ℕ) → Header (extra k bs)
unfolding extra
extra_numbered k [] = by_number refl
extra_numbered (suc k) (b ∷ bs) = extra_numbered k bs
extra_numbered zero (zero ∷ bs) = a_value
extra_numbered zero (suc b ∷ bs) = and_then_lem _ (extra_numbered 8 bs) λ n. a_value

picture_header_numbered : (s : List ℕ) → Header (picture_header s)
unfolding picture_header after_delay
picture_header_numbered s =
    and_then_lem _ (header_numbered _ _ s) λ h.
    and_then_lem _ (fields_numbered _ s 61) λ m.
    and_then_lem _ (extra_numbered 0 _) λ n.
    a_value

length_numbered : (s : List ℕ) → Header (header_length s)
unfolding header_length
length_numbered s = and_then_lem _ (picture_header_numbered s) λ h. a_value

coding_numbered : (s : List ℕ) → Header (picture_coding_extension s)
unfolding picture_coding_extension after_codes
coding_numbered s =
    and_then_lem _ (header_numbered _ _ s) λ h.
    pick_elim Header _ (λ e. by_number refl) λ e.
    and_then_lem _ (fields_numbered _ s 52) λ vs.
    a_value

picture_numbered : (s : List ℕ) → Header (picture s)
unfolding picture
picture_numbered s =
    and_then_lem _ (picture_header_numbered s) λ h.
    pick_elim Header _ (λ e. by_number refl) λ e.
    and_then_lem _ (next_numbered s _) λ place.
    and_then_lem _ (coding_numbered (drop place s)) λ x.
    a_value

pub header_told_numbered : (s : List ℕ) → Header (header_told s)
unfolding header_told
header_told_numbered s = and_then_lem _ (picture_header_numbered s) λ h. a_value

pub picture_told_numbered : (s : List ℕ) → Header (picture_told s)
unfolding picture_told
picture_told_numbered s = and_then_lem _ (picture_numbered s) λ p. a_value

pub picture_numbers : PictureNumbers
picture_numbers = record {
  picture_header_lem = picture_header_numbered;
  header_length_lem = length_numbered;
  coding_extension = coding_numbered;
  both = picture_numbered;
  header_told_lem = header_told_numbered;
  picture_told_lem = picture_told_numbered;
}
