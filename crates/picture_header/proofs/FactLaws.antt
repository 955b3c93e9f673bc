-- A picture's facts, one by one, and what parsed headers tell.
-- Assumes nothing.
use mathlib.Core.Path.{◌≡◌, refl, sym, ap}
use mathlib.Core.List.{List}
use mathlib.Core.Bool.{true, false, true≢false}
use mathlib.Core.Logic.{◌↔◌, ◌⊎◌, ⊎_elim, inl, inr}
use Prim.Native.Nat.{ℕ, ◌<◌}
use native.Mathlib.Omega.{arith}
use Rattle.bits.specs.Refusals.{value, refused}
use Rattle.bits.proofs.Following.{then_value}
use Rattle.picture_header.specs.PictureHeader.{picture_header}
use Rattle.picture_header.specs.Picture.{picture}
use Rattle.picture_header.specs.Facts.{is_anchor, is_field, facts_by, facts_of, header_told, picture_told}
use Rattle.picture_header.specs.declared.PictureFacts.{PictureFacts}
use Rattle.picture_header.specs.declared.PictureStructure.{PictureStructure}
use Rattle.picture_header.specs.declared.PictureStructure.TheVariants.{TopField, BottomField, Frame}
use Rattle.picture_header.specs.declared.PictureCodingType.{PictureCodingType}
use Rattle.picture_header.specs.declared.PictureCodingType.TheVariants.{Intra, Predictive, Bidirectional, DcIntra}
use Rattle.picture_header.proofs.PictureHeader.{picture_header-parsed, delay-high}
use Rattle.picture_header.proofs.Picture.{picture-parsed}
use Rattle.picture_header.specs.declared.Mpeg2PictureHeader.{Mpeg2PictureHeader}
use Rattle.picture_header.specs.declared.PictureCodingExtension.{PictureCodingExtension}

-- I and P are anchors, and a frame is no field
pub anchor_by : (t : PictureCodingType) → (is_anchor t ≡ true) ↔ ((t ≡ Intra) ⊎ (t ≡ Predictive))
unfolding is_anchor
anchor_by Intra = (λ e. inl refl, λ e. refl)
anchor_by Predictive = (λ e. inr refl, λ e. refl)
anchor_by Bidirectional = (λ e. absurd (true≢false (sym e)), λ e. ⊎_elim (λ z. cc) (λ z. cc) e)
anchor_by DcIntra = (λ e. absurd (true≢false (sym e)), λ e. ⊎_elim (λ z. cc) (λ z. cc) e)

pub other_by : is_anchor Bidirectional ≡ false
unfolding is_anchor
other_by = refl

pub frame_by : (t : PictureStructure) → (is_field t ≡ false) ↔ (t ≡ Frame)
unfolding is_field
frame_by TopField = (λ e. absurd (true≢false e), λ e. cc)
frame_by BottomField = (λ e. absurd (true≢false e), λ e. cc)
frame_by Frame = (λ e. refl, λ e. refl)

pub facts_are : (h : Mpeg2PictureHeader) (x : PictureCodingExtension)
    → facts_of h x
    ≡ record {
      anchor = is_anchor h.picture_coding_type;
      field = is_field x.picture_structure;
      repeat = x.repeat_first_field;
      top = x.top_field_first;
    }
unfolding facts_of facts_by
facts_are h x = refl

pub told_parsed : (s : List ℕ) (h : Mpeg2PictureHeader) (x : PictureCodingExtension) → picture s ≡ value (h, x)
    → picture_told s ≡ value (h.vbv_delay, facts_of h x)
unfolding picture_told
told_parsed s h x e = rw e

pub told_refused : (s : List ℕ) {n k c e : ℕ} → picture s ≡ refused n k c e → picture_told s ≡ refused n k c e
unfolding picture_told
told_refused s e = rw e

-- a picture that its header alone tells of is a frame
pub header_told_frame : (s : List ℕ) (t : ℕ × PictureFacts) → header_told s ≡ value t → t.1.field ≡ false
unfolding header_told facts_by is_field
header_told_frame s t e =
    let a = then_value (picture_header s) e in
    let x : ◌≡◌ {A = ℕ × PictureFacts} (a.0.vbv_delay, facts_by a.0.picture_coding_type Frame false false) t = cc in
    sym (ap (λ (y : ℕ × PictureFacts). y.1.field) x)

-- a coded delay is a number of 16 bits
module _ (s : List ℕ) (t : ℕ × PictureFacts) where
  pub header_told_small : header_told s ≡ value t → t.0 < 65536
  unfolding header_told
  header_told_small e =
      let a = then_value (picture_header s) e in
      let x : ◌≡◌ {A = ℕ × PictureFacts} (a.0.vbv_delay, facts_by a.0.picture_coding_type Frame false false) t = cc in
      omega (arith, ap (λ (y : ℕ × PictureFacts). y.0) x, delay-high (picture_header-parsed s a.0 a.1))

  pub picture_told_small : picture_told s ≡ value t → t.0 < 65536
  unfolding picture_told
  picture_told_small e =
      let a = then_value (picture s) e in
      let x : ◌≡◌ {A = ℕ × PictureFacts} (a.0.0.vbv_delay, facts_of a.0.0 a.0.1) t = cc in
      omega (arith, ap (λ (y : ℕ × PictureFacts). y.0) x, delay-high (picture_header-parsed s a.0.0 (picture-parsed s a.0.0 a.0.1 a.1).header))
