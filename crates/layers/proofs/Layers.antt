-- What a layer that fits is, one fact for each condition that the laws use.
-- Assumes nothing.
use mathlib.Core.Path.{◌≡◌, refl, sym, ◌∙◌}
use Prim.Native.Nat.{ℕ, zero, suc, ◌≤◌}
use mathlib.Core.List.{List, [], ◌∷◌}
use mathlib.Core.Bool.{Bool, true, false, not, ◌&&◌, ◌||◌}
use mathlib.Core.Logic.{◌⊎◌, ⊎_elim, inl, inr}
use native.Mathlib.Omega.{arith}
use lib.Dec.{eqb}
use lib.ListN.{length, take, drop}
use lib.Seq.{get_or-drop}
use borrow.Author.Tests.{not-true, leb-true, eqb-true}
use Rattle.picture_header.specs.Facts.{is_field, facts_of}
use Rattle.bits.specs.Bits.{bits_at}
use Rattle.bits.specs.Refusals.{Answer, value, refused, and_then, or_else}
use Rattle.bits.proofs.Laws.{bits_bound, bits_split}
use Rattle.bits.proofs.Flags.{both_true}
use Rattle.bits.proofs.Appending.{Below}
use Rattle.bits.proofs.Patching.{byte_bits}
use Rattle.headers.specs.StartCode.{leading_zeros}
use Rattle.picture_header.specs.PictureHeader.{picture_header, picture_header_bytes}
use Rattle.picture_header.specs.Picture.{picture}
use Rattle.picture_header.specs.declared.PictureCodingType.{PictureCodingType}
use Rattle.picture_header.specs.declared.PictureCodingType.TheVariants.{Intra, Predictive, Bidirectional, DcIntra}
use Rattle.std.specs.Prelude.{Option, Some, None}
use Rattle.picture_header.specs.declared.Mpeg2PictureHeader.{Mpeg2PictureHeader}
use Rattle.picture_header.specs.declared.PictureCodingExtension.{PictureCodingExtension}
use Rattle.headers.proofs.StartCode.{zeros_zero}
use Rattle.picture_header.proofs.PictureHeader.{PictureHeaderParsed, picture_header-parsed, header_least}
use Rattle.picture_header.proofs.Picture.{picture-parsed, extension_placed}
use Rattle.headers.proofs.StartCode.{next-found}
use Rattle.picture_header.proofs.Extent.{header_bytes_lem}
use Rattle.picture_header.proofs.OtherDelay.{with_delay, delayed_type, forward-code, extra_flag}
use Rattle.vbv.specs.declared.RemovalInterval.{RemovalInterval}
use Rattle.picture_header.proofs.FactLaws.{facts_are, told_parsed}
use Rattle.scan.specs.Codes.{codes, ends_prefix}
use Rattle.scan.proofs.PictureCodes.{PictureHead}
use Rattle.layers.specs.declared.PictureKind.{PictureKind}
use Rattle.layers.specs.Layer.{same_kind, agrees, flag_clear, code_seven, padding, headers_tell, header_fits, layer_codes, layer_fits, facts_in}

pub record LayerFits (s : List ℕ) : Type 0 where
  pub header : Mpeg2PictureHeader
  pub extension : PictureCodingExtension
  pub parsed : picture s ≡ value (header, extension)
  pub seven : code_seven header.fwd_f_code ≡ true
  pub zeros_after : 2 ≤ leading_zeros (drop (picture_header_bytes header) s)
  pub codes_fit_lem : layer_codes (codes s) ≡ true
  pub closed : ends_prefix s ≡ false

pub layer_fits_lem : (film : Bool) (k : PictureKind) (i : RemovalInterval) (s : List ℕ) → layer_fits film k i s ≡ true → LayerFits s
unfolding layer_fits header_fits headers_tell
layer_fits_lem film k i s f = case (picture s) refl a.0
  where
    a : (header_fits film k i s ≡ true) × ((layer_codes (codes s) && not (ends_prefix s)) ≡ true)
    a = both_true (header_fits film k i s) (layer_codes (codes s) && not (ends_prefix s)) f

    b : (layer_codes (codes s) ≡ true) × (not (ends_prefix s) ≡ true)
    b = both_true (layer_codes (codes s)) (not (ends_prefix s)) a.1

    case : (r : Answer (Mpeg2PictureHeader × PictureCodingExtension)) → picture s ≡ r
        → or_else false (and_then r (λ p. value (headers_tell film k i s p.0 p.1))) ≡ true → LayerFits s
    case (refused n c e x) p q = absurd (let z : ◌≡◌ {A = ℕ} 0 1 = cc in omega arith)
    case (value r) p q =
        let h = r.0 in
        let x = r.1 in
        let c1 = both_true (same_kind k h.picture_coding_type) _ q in
        let c2 = both_true (agrees i (is_field x.picture_structure)) _ c1.1 in
        let c3 = both_true (film || not x.repeat_first_field) _ c2.1 in
        let c4 = both_true (flag_clear h.full_pel_forward_vector) _ c3.1 in
        let c5 = both_true (code_seven h.fwd_f_code) _ c4.1 in
        let c6 = both_true (flag_clear h.full_pel_backward_vector) _ c5.1 in
        let c7 = both_true (code_seven h.bwd_f_code) _ c6.1 in
        let c8 = both_true (eqb (padding s h) 0) _ c7.1 in
        record {
          header = h;
          extension = x;
          parsed = p;
          seven = c5.0;
          zeros_after = leb-true _ _ c8.1;
          codes_fit_lem = b.0;
          closed = not-true (ends_prefix s) b.1;
        }

-- ---- what its headers show

facts_parsed : {s : List ℕ} (f : LayerFits s) → facts_in s ≡ facts_of f.header f.extension
unfolding facts_in
facts_parsed {s} f = rw (told_parsed s f.header f.extension f.parsed)

-- the delay is no fact
pub facts_delayed : {s : List ℕ} (f : LayerFits s) (d : ℕ) → facts_of (with_delay f.header d) f.extension ≡ facts_in s
facts_delayed f d =
    facts_are (with_delay f.header d) f.extension
    ∙ rw (delayed_type f.header d) (sym (facts_are f.header f.extension))
    ∙ sym (facts_parsed f)

-- ---- the bits after the delay

-- the low three bits of byte 7 are not all zero, or two zero bytes follow
abbrev pub LowBits : List ℕ → Type 0
LowBits s = (1 ≤ bits_at s 61 3) ⊎ (2 ≤ leading_zeros (drop 8 s))

seven_is : (c : Option ℕ) (v : ℕ) → c ≡ Some v → code_seven c ≡ true → v ≡ 7
unfolding code_seven
seven_is None v e q = cc
seven_is (Some w) v e q = let z : w ≡ v = cc in rw (← z) (eqb-true w 7 q)

low_bits : (s : List ℕ) (h : Mpeg2PictureHeader) → picture_header s ≡ value h → (h.picture_coding_type ≡ DcIntra → ⊥)
    → code_seven h.fwd_f_code ≡ true → 2 ≤ leading_zeros (drop (picture_header_bytes h) s) → LowBits s
low_bits s h e n q z = type h.picture_coding_type refl
  where
    p : PictureHeaderParsed s h
    p = picture_header-parsed s h e

    vector : (h.picture_coding_type ≡ Predictive) ⊎ (h.picture_coding_type ≡ Bidirectional) → LowBits s
    vector k =
        let v : bits_at s 62 3 ≡ 7 = seven_is h.fwd_f_code (bits_at s 62 3) (forward-code s h e k) q in
        inl (omega (arith, bits_split s 61 1 3, bits_split s 61 3 1, bits_bound s 64 1))

    extra : (m : ℕ) → h.extra_information_bytes ≡ m → h.extra_information_bit ≡ 61 → LowBits s
    extra zero a b =
        let c : picture_header_bytes h ≡ 8 = omega (arith, header_bytes_lem h) in
        inr (rw c at (z))
    extra (suc m) a b =
        let c : 1 ≤ bits_at s 61 1 = rw b at (extra_flag s h e (omega arith)) in
        inl (omega (arith, bits_split s 61 1 2))

    type : (t : PictureCodingType) → h.picture_coding_type ≡ t → LowBits s
    type Intra t = extra h.extra_information_bytes refl (rw t at p.first_flag)
    type Predictive t = vector (inl t)
    type Bidirectional t = vector (inr t)
    type DcIntra t = absurd (n t)

-- ---- the first bytes

-- the bytes of a list of bytes by their bits
pub picture_head : (t : List ℕ) → Below 256 t → 10 ≤ length t → take 4 t ≡ 0x00 ∷ 0x00 ∷ 0x01 ∷ 0x00 ∷ [] → 1 ≤ bits_at t 42 3 → LowBits t
    → PictureHead t
picture_head t b l c k w = record {
  long = l;
  code = c;
  fifth = λ z. omega (arith, byte_bits t 5 (b 5), bits_split t 40 2 6, bits_split t 42 3 3);
  clear =
      ⊎_elim
      (λ (v : 1 ≤ bits_at t 61 3). inl (λ z. omega (arith, byte_bits t 7 (b 7), bits_split t 56 5 3)))
      (λ (v : 2 ≤ leading_zeros (drop 8 t)). inr (
        sym (get_or-drop 8 t 0 0) ∙ zeros_zero (drop 8 t) 0 (omega arith),
        sym (get_or-drop 8 t 1 0) ∙ zeros_zero (drop 8 t) 1 (omega arith),
      ))
      w;
}

module _ {s : List ℕ} (f : LayerFits s) where
  pub layer_header : PictureHeaderParsed s f.header
  layer_header = picture_header-parsed s f.header (picture-parsed s f.header f.extension f.parsed).header

  -- the extension's code lies after the header's eight bytes
  pub layer_twelve : 12 ≤ length s
  layer_twelve =
      let r = picture-parsed s f.header f.extension f.parsed in
      omega (arith, (extension_placed r).room, (next-found s _ _ r.next).ends, header_least layer_header, f.zeros_after)

  pub layer-low : LowBits s
  layer-low =
      let r = picture-parsed s f.header f.extension f.parsed in
      low_bits s f.header r.header r.not_dc f.seven f.zeros_after
