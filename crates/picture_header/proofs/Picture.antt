-- The laws of a picture header with its extension: the ways that reading them goes, where the extension stands, and that bytes after
-- them do not matter.
-- Assumes nothing.
use mathlib.Core.Path.{◌≡◌, refl, sym, ap, ◌∙◌}
use mathlib.Core.List.{List, [], ◌∷◌, ◌++◌}
use mathlib.Core.Bool.{true, false}
use Prim.Native.Nat.{ℕ, ◌+◌, ◌-◌, ◌≤◌, ◌<◌}
use native.Mathlib.Omega.{arith}
use lib.ListN.{length, get_or, take, drop, length-drop}
use lib.Seq.{get_or-drop, drop-append-le}
use Rattle.bits.specs.Bits.{pick}
use Rattle.bits.specs.Refusals.{Answer, value, refused, and_then}
use Rattle.bits.specs.StartCodes.{start_code_prefix, start_code, extension_start_code}
use Rattle.bits.proofs.Flags.{clash}
use Rattle.bits.proofs.Reading.{same_self, rest_is}
use Rattle.headers.specs.StartCode.{next_start_code}
use Rattle.picture_header.specs.PictureHeader.{picture_header, picture_header_bytes}
use Rattle.picture_header.specs.CodingExtension.{picture_coding_extension}
use Rattle.picture_header.specs.Picture.{is_dc, picture}
use Rattle.picture_header.specs.Stability.{PictureStays}
use Rattle.picture_header.specs.declared.PictureCodingType.{PictureCodingType}
use Rattle.picture_header.specs.declared.PictureCodingType.TheVariants.{Intra, Predictive, Bidirectional, DcIntra}
use Rattle.picture_header.specs.declared.Mpeg2PictureHeader.{Mpeg2PictureHeader}
use Rattle.picture_header.specs.declared.PictureCodingExtension.{PictureCodingExtension}
use Rattle.headers.proofs.StartCode.{zeros_zero, prefix_is, next_here, next-found, next-append}
use Rattle.bits.proofs.Following.{then_value}
use Rattle.picture_header.proofs.Following.{past_value}
use Rattle.picture_header.proofs.PictureHeader.{picture_header-append}
use Rattle.picture_header.proofs.CodingExtension.{coding_long, coding_code, coding_append}

-- D pictures are refused, others not
no_dc : (t : PictureCodingType) → (t ≡ DcIntra → ⊥) → is_dc t ≡ false
unfolding is_dc
no_dc Intra n = refl
no_dc Predictive n = refl
no_dc Bidirectional n = refl
no_dc DcIntra n = absurd (n refl)

was_no_dc : (t : PictureCodingType) → is_dc t ≡ false → t ≡ DcIntra → ⊥
unfolding is_dc
was_no_dc t e d = let z : true ≡ false = rw d at (e) in absurd (clash cc)

-- the rest of specs/Picture.antt after a header that is no D picture's
unfoldable pub after_header : List ℕ → Mpeg2PictureHeader → Answer (Mpeg2PictureHeader × PictureCodingExtension)
after_header s h =
    and_then (next_start_code s (picture_header_bytes h)) (λ place.
    and_then (picture_coding_extension (drop place s)) (λ x.
    value (h, x)))

-- the ways after a header, and of both
module _ (s : List ℕ) (h : Mpeg2PictureHeader) where
  pub after_missing : refused 2 0 0 0 ≡ next_start_code s (picture_header_bytes h) → refused 2 0 0 0 ≡ after_header s h
  unfolding after_header
  after_missing m = rw (← m)

  after-at : (k : ℕ) → next_start_code s (picture_header_bytes h) ≡ value k
      → and_then (picture_coding_extension (drop k s)) (λ (x : PictureCodingExtension). value (h, x)) ≡ after_header s h
  unfolding after_header
  after-at k m = rw m

  -- with the part from byte k on as the code has it
  pub after_part : (k : ℕ) → next_start_code s (picture_header_bytes h) ≡ value k
      → and_then (picture_coding_extension (take (length s - k) (drop k s))) (λ (x : PictureCodingExtension). value (h, x)) ≡ after_header s h
  after_part k m = rw (rest_is s k) (after-at k m)

  pub picture_past : picture_header s ≡ value h → is_dc h.picture_coding_type ≡ false → after_header s h ≡ picture s
  unfolding picture after_header pick
  picture_past p n = rw (p, n)

  pub picture-after : picture_header s ≡ value h → (h.picture_coding_type ≡ DcIntra → ⊥) → after_header s h ≡ picture s
  picture-after p n = picture_past p (no_dc _ n)

-- the extension begins at the byte at which the header ends
prefix_of : (s : List ℕ) (x : ℕ) → take 4 s ≡ start_code x → take 3 s ≡ start_code_prefix
prefix_of [] x e = absurd (clash cc)
prefix_of (a ∷ []) x e = absurd (clash cc)
prefix_of (a ∷ b ∷ []) x e = absurd (clash cc)
prefix_of (a ∷ b ∷ c ∷ s) x e =
    let p : a ≡ 0 = cc in
    let q : b ≡ 0 = cc in
    let r : c ≡ 1 = cc in
    rw (p, q, r)

pub picture-here : (s : List ℕ) (h : Mpeg2PictureHeader) (x : PictureCodingExtension) → picture_header s ≡ value h
    → (h.picture_coding_type ≡ DcIntra → ⊥) → picture_coding_extension (drop (picture_header_bytes h) s) ≡ value x → picture s ≡ value (h, x)
picture-here s h x p n c =
    let k = picture_header_bytes h in
    let q = prefix_of (drop k s) extension_start_code (coding_code (drop k s) x c) in
    sym (picture-after s h p n) ∙ sym (after-at s h k (next_here s k (prefix_is s k ∙ rw q (same_self start_code_prefix)))) ∙ rw c

-- what was read of a parsed one: the header, and the extension at the next start code
pub record PictureParsed (s : List ℕ) (h : Mpeg2PictureHeader) (x : PictureCodingExtension) : Type 0 where
  pub header : picture_header s ≡ value h
  pub not_dc : h.picture_coding_type ≡ DcIntra → ⊥
  pub place : ℕ
  pub next : next_start_code s (picture_header_bytes h) ≡ value place
  pub coded : picture_coding_extension (drop place s) ≡ value x

pub picture-parsed : (s : List ℕ) (h : Mpeg2PictureHeader) (x : PictureCodingExtension) → picture s ≡ value (h, x) → PictureParsed s h x
unfolding picture
picture-parsed s h x e =
    let a = then_value (picture_header s) e in
    let d = past_value 2 (is_dc a.0.picture_coding_type) a.2 in
    let n = then_value (next_start_code s (picture_header_bytes a.0)) d.1 in
    let c = then_value (picture_coding_extension (drop n.0 s)) n.2 in
    let p : ◌≡◌ {A = Mpeg2PictureHeader × PictureCodingExtension} (a.0, c.0) (h, x) = cc in
    let i : a.0 ≡ h = ap (λ (q : Mpeg2PictureHeader × PictureCodingExtension). q.0) p in
    let j : c.0 ≡ x = ap (λ (q : Mpeg2PictureHeader × PictureCodingExtension). q.1) p in
    record {
      header = a.1 ∙ ap value i;
      not_dc = λ z. was_no_dc _ d.0 (ap (λ (q : Mpeg2PictureHeader). q.picture_coding_type) i ∙ z);
      place = n.0;
      next = ap (λ (q : Mpeg2PictureHeader). next_start_code s (picture_header_bytes q)) (sym i) ∙ n.1;
      coded = c.1 ∙ ap value j;
    }

-- the extension's start code stands after the header, with nothing but zero bytes between; its own two zeros may be the header's last
pub record ExtensionPlaced (s : List ℕ) (h : Mpeg2PictureHeader) (p : ℕ) : Type 0 where
  pub code : take 4 (drop p s) ≡ start_code extension_start_code
  pub room : p + 4 ≤ length s
  pub follows : picture_header_bytes h ≤ p + 2
  pub zero_between : (k : ℕ) → picture_header_bytes h ≤ k → k < p + 2 → get_or s k 0 ≡ 0

pub extension_placed : {s : List ℕ} {h : Mpeg2PictureHeader} {x : PictureCodingExtension} (r : PictureParsed s h x) → ExtensionPlaced s h r.place
extension_placed {s} {h} {x} r =
    let b = picture_header_bytes h in
    let f = next-found s b r.place r.next in
    record {
      code = coding_code (drop r.place s) x r.coded;
      room = omega (arith, coding_long (drop r.place s) x r.coded, length-drop r.place s);
      follows = omega (arith, f.ends);
      zero_between = λ k l m. let e : b + (k - b) ≡ k = omega arith in
          sym (get_or-drop b s (k - b) 0 ∙ ap (λ (i : ℕ). get_or s i 0) e) ∙ zeros_zero (drop b s) (k - b) (omega (arith, f.ends));
    }

-- what stands after does not matter
pub picture-append : PictureStays
picture-append s t h x e =
    let r = picture-parsed s h x e in
    let p = r.place in
    let l : p + 4 ≤ length s = (extension_placed r).room in
    let a = r.header in
    let c = r.coded in
    let b : picture_header (s ++ t) ≡ value h =
    picture_header-append s t (λ z. clash cc) ∙ a in
    sym (picture-after (s ++ t) h b r.not_dc)
    ∙ sym (after-at (s ++ t) h p (next-append s t (picture_header_bytes h) p r.next))
    ∙ rw (drop-append-le p s t (omega arith), coding_append (drop p s) t (λ z. clash cc), c)
