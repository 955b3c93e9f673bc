-- The pictures of a stream (ISO/IEC 13818-2 C.5, 11172-2 C.1.4; paper 01, 'The buffer report'): a picture begins at a code 00. Its end: skip codes up to the first slice (01 to AF),
-- skip the slices, then the offset of the next code, plus 4 bytes if that is B7; with no next code, the stream's end. The walk goes on from that next code. Assumes nothing.
use Rattle.std.specs.Prelude.{ℕ, zero, suc, ◌+◌, ◌<◌, ◌≡◌, Option, Some, None, List, [], ◌∷◌, Bool, not, ◌&&◌, length, eqb, leb}
use Rattle.bits.specs.Bits.{pick}
use Rattle.bits.specs.StartCodes.{picture_start_code, first_slice_code, last_slice_code, sequence_header_code, sequence_end_code}
use Rattle.scan.specs.declared.StartCode.{StartCode}
use Rattle.scan.specs.declared.PictureSpan.{PictureSpan}
use Rattle.scan.specs.Codes.{codes, codes_at}

unfoldable pub is_slice : ℕ → Bool
is_slice b = leb first_slice_code b && leb b last_slice_code

unfoldable pub not_slice : ℕ → Bool
unfolding is_slice
not_slice b = not (is_slice b)

unfoldable pub not_picture : ℕ → Bool
not_picture b = not (eqb b picture_start_code)

unfoldable pub not_sequence : ℕ → Bool
not_sequence b = not (eqb b sequence_header_code)

-- the codes from the first on whose fourth byte is not among those passed over
unfoldable pub skip : (ℕ → Bool) → List StartCode → List StartCode
unfolding pick
skip p [] = []
skip p (c ∷ cs) = pick (p c.code) (skip p cs) (c ∷ cs)

-- what a test gives of a code is what `p` says of it
abbrev pub Decides : (ℕ → Bool → Type 0) → (ℕ → Bool) → Type 0
Decides gives p = (code : ℕ) (answer : Bool) → code < 256 → gives code answer → answer ≡ p code

-- skip codes up to the first slice, skip the slices
unfoldable pub after_slices : List StartCode → List StartCode
unfolding skip is_slice not_slice
after_slices cs = skip is_slice (skip not_slice cs)

-- where a picture ends that the codes `cs` follow, in a stream of `e` bytes
unfoldable pub end_at : ℕ → List StartCode → ℕ
unfolding pick
end_at e [] = e
end_at e (c ∷ cs) = pick (eqb c.code sequence_end_code) (c.offset + 4) c.offset

pub record Pic : Type 0 where
  pub start : ℕ
  pub end : ℕ

-- the pictures that begin at the codes `cs`; n, their number at most, only counts the steps
unfoldable pub pictures_f : ℕ → ℕ → List StartCode → List Pic
unfolding pick after_slices end_at
pictures_f e zero cs = []
pictures_f e (suc n) [] = []
pictures_f e (suc n) (c ∷ cs) =
    pick (eqb c.code picture_start_code)
    (record { start = c.offset; end = end_at e (after_slices cs) } ∷ pictures_f e n (after_slices cs))
    (pictures_f e n cs)

unfoldable pub pictures_of : ℕ → List StartCode → List Pic
unfolding pictures_f
pictures_of e cs = pictures_f e (length cs) cs

unfoldable pub pictures : List ℕ → List Pic
unfolding pictures_of codes
pictures s = pictures_of (length s) (codes s)

-- where the walk goes on
unfoldable pub go_on : ℕ → List StartCode → ℕ
go_on e [] = e
go_on e (c ∷ cs) = c.offset

-- the picture at the first of the codes
unfoldable pub next_in : ℕ → List StartCode → Option PictureSpan
unfolding after_slices end_at go_on
next_in e [] = None
next_in e (c ∷ cs) = Some (record { at = c.offset; end = end_at e (after_slices cs); next = go_on e (after_slices cs) })

-- the first picture that begins at a code which a scan from `from` finds, with its end and where the walk goes on
unfoldable pub next_picture : List ℕ → ℕ → Option PictureSpan
unfolding next_in skip not_picture codes_at
next_picture s from = next_in (length s) (skip not_picture (codes_at s from))
