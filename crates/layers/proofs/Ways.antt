-- What the code's tests say: bytes at an index, the codes that a search finds, and the bits and bytes after a picture header.
-- Assumes nothing.
use mathlib.Core.Path.{◌≡◌, refl, sym, ◌∙◌}
use Prim.Native.Nat.{ℕ, ◌+◌, ◌-◌, ◌*◌, ◌/◌, ◌%◌, ◌<◌}
use mathlib.Core.List.{List, [], ◌∷◌}
use mathlib.Core.Bool.{Bool, true, false, not, ◌&&◌, ◌||◌, and_assoc}
use native.Mathlib.Omega.{arith}
use lib.Dec.{eqb, leb}
use lib.ListN.{length, take, drop}
use borrow.Author.Tests.{ne_eqb}
use Rattle.picture_header.specs.Facts.{is_field}
use Rattle.bits.specs.StartCodes.{sequence_header_code}
use Rattle.bits.specs.Bits.{there}
use Rattle.bits.specs.Answers.{read_bits, bits_answer}
use Rattle.bits.specs.Refusals.{Answer, value, refused}
use Rattle.bits.proofs.Laws.{bits_drop}
use Rattle.bits.proofs.Reading.{there_is, there-drop, bits_found as read_found, missed, rest_is}
use Rattle.headers.specs.StartCode.{leading_zeros, prefix_at}
use Rattle.picture_header.specs.Picture.{picture}
use Rattle.picture_header.specs.PictureHeader.{picture_header, picture_header_bits, picture_header_bytes}
use Rattle.picture_header.specs.declared.Mpeg2PictureHeader.{Mpeg2PictureHeader}
use Rattle.picture_header.specs.declared.PictureCodingExtension.{PictureCodingExtension}
use Rattle.picture_header.proofs.PictureHeader.{picture_header-parsed}
use Rattle.picture_header.proofs.Extent.{header_bits, header_bytes_lem}
use Rattle.vbv.specs.declared.RemovalInterval.{RemovalInterval}
use Rattle.std.specs.Prelude.{Option, Some, None}
use Rattle.std.specs.Option.{option_eq}
use Rattle.scan.specs.declared.StartCode.{StartCode}
use Rattle.scan.specs.Codes.{codes, codes_at, every, next_code, found}
use Rattle.scan.specs.Pictures.{is_slice, not_sequence, skip}
use Rattle.scan.proofs.Walk.{code_seen, unseen, sought, unsought}
use Rattle.scan.proofs.Search.{codes_from-zero}
use Rattle.layers.specs.Headers.{opens_headers, sequence_first}
use Rattle.layers.specs.declared.PictureKind.{PictureKind}
use Rattle.layers.specs.Layer.{same_kind, agrees, flag_clear, code_seven, headers_tell, header_fits, padding, slices, is_extension, layer_codes}

-- ---- 00 00 01

pub opens_test : (s : List ℕ) → (eqb (length s) 0 || prefix_at s 0) ≡ opens_headers s
unfolding opens_headers
opens_test [] = refl
opens_test (b ∷ s) = rw (ne_eqb (length (b ∷ s)) 0 (λ e. omega arith))

-- ---- codes

pub first-none : (s : List ℕ) → next_code s 0 ≡ None → false ≡ sequence_first (codes s)
unfolding sequence_first
first-none s e = rw (codes_from-zero s, unseen s 0 e)

pub first_some : (s : List ℕ) (c : StartCode) → next_code s 0 ≡ Some c
    → (eqb c.offset 0 && (eqb c.code sequence_header_code && every not_sequence (codes_at s (c.offset + 4)))) ≡ sequence_first (codes s)
unfolding sequence_first
first_some s c e = rw (codes_from-zero s, (code_seen s 0 c e).list)

pub layer-none : (s : List ℕ) → next_code s 0 ≡ None → false ≡ layer_codes (codes s)
unfolding layer_codes
layer-none s e = rw (codes_from-zero s, unseen s 0 e)

pub layer-some : (s : List ℕ) (c : StartCode) → next_code s 0 ≡ Some c
    → (eqb c.offset 0 && (eqb c.code 0 && slices (skip is_extension (codes_at s (c.offset + 4))))) ≡ layer_codes (codes s)
unfolding layer_codes
layer-some s c e = rw (codes_from-zero s, (code_seen s 0 c e).list)

pub slices-none : (s : List ℕ) (i : ℕ) → found (skip is_extension (codes_at s i)) ≡ None → false ≡ slices (skip is_extension (codes_at s i))
unfolding slices
slices-none s i e = rw (unsought (skip is_extension (codes_at s i)) e)

pub slices-some : (s : List ℕ) (i : ℕ) (c : StartCode) → found (skip is_extension (codes_at s i)) ≡ Some c
    → (is_slice c.code && every is_slice (codes_at s (c.offset + 4))) ≡ slices (skip is_extension (codes_at s i))
unfolding slices
slices-some s i c e = rw (sought is_extension s i c e).list

-- ---- after a picture header

module _ (s : List ℕ) (h : Mpeg2PictureHeader) (e : picture_header s ≡ value h) where
  abbrev n : ℕ
  n = h.extra_information_bytes

  -- where the header's last bit is, from byte n on
  abbrev last : ℕ
  last = h.extra_information_bit + n

  -- bytes of extra information lie in the layer, with bytes of the header after them
  pub extra-room : h.extra_information_bit + 9 * n < 8 * length s
  extra-room = (picture_header-parsed s h e).last_flag

  pub bytes_by : picture_header_bytes h ≡ n + (last + 8) / 8
  bytes_by = omega (arith, header_bytes_lem h, header_bits h)

  bits_by : 8 * n + (last + 1) ≡ picture_header_bits h
  bits_by = omega (arith, header_bits h)

  width_by : 7 - last % 8 ≡ 8 * picture_header_bytes h - picture_header_bits h
  width_by = omega (arith, header_bytes_lem h, header_bits h)

  -- the padding as it is read, of the slice from byte n on
  abbrev read : Answer ℕ
  read = read_bits (take (length s - n) (drop n s)) (last + 1) (7 - last % 8)

  padding_read : (v : ℕ) → value v ≡ read → eqb v 0 ≡ eqb (padding s h) 0
  unfolding padding
  padding_read v q = rw ((read_found (drop n s) (last + 1) (7 - last % 8) v (rw rest_is at (q))).1, bits_drop n s (last + 1) (7 - last % 8), bits_by, width_by)

  padding-there : there (drop n s) (last + 1) (7 - last % 8) ≡ true
  padding-there =
      rw (there-drop n s (last + 1) (7 - last % 8) (omega (arith, extra-room)))
      (there_is s (8 * n + (last + 1)) (7 - last % 8) (omega arith) (omega (arith, extra-room)))

  -- it lies in the header's last byte
  padding_missed : refused 1 0 0 0 ≡ read → false ≡ eqb (padding s h) 0
  padding_missed q =
      let m : there (drop n s) (last + 1) (7 - last % 8) ≡ false = missed (drop n s) (last + 1) (7 - last % 8) (rw rest_is at (q)) in
      let z : true ≡ false = sym padding-there ∙ m in
      cc

  pub padding_told : (r : Option ℕ) → bits_answer r ≡ read → option_eq eqb r (Some 0) ≡ eqb (padding s h) 0
  padding_told (Some v) q = padding_read v q
  padding_told None q = padding_missed q

-- headers that do not parse
pub tests_none : (film : Bool) (k : PictureKind) (i : RemovalInterval) (s : List ℕ) (n : ℕ) → refused n 0 0 0 ≡ picture s → false ≡ header_fits film k i s
unfolding header_fits
tests_none film k i s n e = rw (← e)

-- both headers' tests, the vectors' four in one
pub tests_are : (film : Bool) (k : PictureKind) (i : RemovalInterval) (s : List ℕ) (h : Mpeg2PictureHeader) (x : PictureCodingExtension) → value (h, x) ≡ picture s
    → (same_kind k h.picture_coding_type
    && (agrees i (is_field x.picture_structure)
    && ((film || not x.repeat_first_field)
    && ((flag_clear h.full_pel_forward_vector && (code_seven h.fwd_f_code && (flag_clear h.full_pel_backward_vector && code_seven h.bwd_f_code)))
    && (eqb (padding s h) 0 && leb 2 (leading_zeros (drop (picture_header_bytes h) s)))))))
    ≡ header_fits film k i s
unfolding header_fits headers_tell
tests_are film k i s h x e = rw (← e) (simp and_assoc)
