-- What a layer that fits tells is what the offer says; and only a film writer takes repeat_first_field.
-- Assumes nothing.
use mathlib.Core.Path.{◌≡◌, refl, sym}
use mathlib.Core.Bool.{Bool, true, false, not, ◌&&◌, true≢false}
use mathlib.Core.Logic.{inl, inr}
use mathlib.Core.List.{List}
use Prim.Native.Nat.{ℕ}
use Rattle.bits.specs.Refusals.{Answer, value, refused, and_then, or_else}
use Rattle.bits.proofs.Flags.{both_true}
use Rattle.vbv.specs.Model.{interval_of}
use Rattle.vbv.specs.declared.RemovalInterval.{RemovalInterval}
use Rattle.vbv.specs.declared.RemovalInterval.TheVariants.{Frame, Field, ThreeFields, TwoFrames, ThreeFrames}
use Rattle.vbv.proofs.Fitting.{of_field_lem, of_frame}
use Rattle.picture_header.specs.Facts.{is_anchor, is_field}
use Rattle.picture_header.specs.Picture.{picture}
use Rattle.picture_header.specs.declared.PictureCodingType.{PictureCodingType}
use Rattle.picture_header.specs.declared.PictureCodingType.TheVariants.{Intra, Predictive, Bidirectional, DcIntra}
use Rattle.picture_header.specs.declared.Mpeg2PictureHeader.{Mpeg2PictureHeader}
use Rattle.picture_header.specs.declared.PictureCodingExtension.{PictureCodingExtension}
use Rattle.picture_header.proofs.FactLaws.{facts_are, told_parsed, anchor_by, other_by}
use Rattle.layers.specs.declared.PictureKind.{PictureKind}
use Rattle.layers.specs.declared.PictureKind.TheVariants.{I, P, B}
use Rattle.scan.specs.Codes.{codes, ends_prefix}
use Rattle.layers.specs.Layer.{same_kind, agrees, headers_tell, header_fits, layer_codes, layer_fits, facts_in, of_anchor, of_field, offered_facts, cleared, LayerTells}

-- the two tests that speak of the offer
record Told (k : PictureKind) (i : RemovalInterval) (s : List ℕ) : Type 0 where
  header : Mpeg2PictureHeader
  extension : PictureCodingExtension
  parsed : picture s ≡ value (header, extension)
  kind_told : same_kind k header.picture_coding_type ≡ true
  agreed : agrees i (is_field extension.picture_structure) ≡ true

told : (film : Bool) (k : PictureKind) (i : RemovalInterval) (s : List ℕ) → layer_fits film k i s ≡ true → Told k i s
unfolding layer_fits header_fits headers_tell
told film k i s f = case (picture s) refl (both_true (header_fits film k i s) _ f).0
  where
    case : (r : Answer (Mpeg2PictureHeader × PictureCodingExtension)) → picture s ≡ r
        → or_else false (and_then r (λ p. value (headers_tell film k i s p.0 p.1))) ≡ true → Told k i s
    case (refused n c e x) p q = absurd (true≢false (sym q))
    case (value r) p q =
        let a = both_true (same_kind k r.0.picture_coding_type) _ q in
        let b = both_true (agrees i (is_field r.1.picture_structure)) _ a.1 in
        record { header = r.0; extension = r.1; parsed = p; kind_told = a.0; agreed = b.0 }

kind_anchor : (k : PictureKind) (t : PictureCodingType) → same_kind k t ≡ true → is_anchor t ≡ of_anchor k
unfolding same_kind of_anchor
kind_anchor I Intra e = (anchor_by Intra).1 (inl refl)
kind_anchor I Predictive e = cc
kind_anchor I Bidirectional e = cc
kind_anchor I DcIntra e = cc
kind_anchor P Intra e = cc
kind_anchor P Predictive e = (anchor_by Predictive).1 (inr refl)
kind_anchor P Bidirectional e = cc
kind_anchor P DcIntra e = cc
kind_anchor B Intra e = cc
kind_anchor B Predictive e = cc
kind_anchor B Bidirectional e = other_by
kind_anchor B DcIntra e = cc

agreed_field : (i : RemovalInterval) (f : Bool) → agrees i f ≡ true → f ≡ of_field i
unfolding agrees of_field
agreed_field Frame true e = cc
agreed_field Frame false e = refl
agreed_field Field true e = refl
agreed_field Field false e = cc
agreed_field ThreeFields f e = cc
agreed_field TwoFrames f e = cc
agreed_field ThreeFrames f e = cc

agreed_interval : (i : RemovalInterval) (f : Bool) → agrees i f ≡ true → i ≡ interval_of (of_field i)
unfolding agrees of_field
agreed_interval Frame f e = sym of_frame
agreed_interval Field f e = sym of_field_lem
agreed_interval ThreeFields f e = cc
agreed_interval TwoFrames f e = cc
agreed_interval ThreeFrames f e = cc

pub as_offered : (film : Bool) (k : PictureKind) (i : RemovalInterval) (s : List ℕ) → layer_fits film k i s ≡ true → facts_in s ≡ offered_facts k i s
unfolding facts_in
as_offered film k i s f =
    let t = told film k i s f in
    rw (
      told_parsed s t.header t.extension t.parsed,
      facts_are t.header t.extension,
      kind_anchor k t.header.picture_coding_type t.kind_told,
      agreed_field i (is_field t.extension.picture_structure) t.agreed,
    )

the_flags : (s : List ℕ) (h : Mpeg2PictureHeader) (x : PictureCodingExtension) → picture s ≡ value (h, x)
    → ((facts_in s).repeat ≡ x.repeat_first_field) × ((facts_in s).top ≡ x.top_field_first)
unfolding facts_in
the_flags s h x e = (rw (told_parsed s h x e, facts_are h x), rw (told_parsed s h x e, facts_are h x))

module _ (k : PictureKind) (i : RemovalInterval) (s : List ℕ) (h : Mpeg2PictureHeader) (x : PictureCodingExtension) (e : picture s ≡ value (h, x)) where
  past : (a b c : Bool) → (a && (b && (false && c))) ≡ false
  past true true c = refl
  past true false c = refl
  past false b c = refl

  only_film : x.repeat_first_field ≡ true → layer_fits false k i s ≡ false
  unfolding layer_fits header_fits headers_tell
  only_film r = rw (e, r, past (same_kind k h.picture_coding_type) (agrees i (is_field x.picture_structure)) _)

  film_takes : layer_fits true k i s ≡ (headers_tell false k i s h (cleared x) && (layer_codes (codes s) && not (ends_prefix s)))
  unfolding layer_fits header_fits headers_tell
  film_takes = rw e

  alike : x.repeat_first_field ≡ false → layer_fits true k i s ≡ layer_fits false k i s
  unfolding layer_fits header_fits headers_tell
  alike r = rw (e, r)

pub layer_tells : LayerTells
layer_tells = record {
  the_flags = the_flags;
  as_offered = as_offered;
  frame_or_field = λ film k i s f. agreed_interval i _ (told film k i s f).agreed;
  only_film = only_film;
  film_takes = film_takes;
  alike = alike;
}
