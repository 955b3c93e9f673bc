-- What a parsed picture shows, and what a sequence header at byte 0 declares.
-- Assumes nothing.
use mathlib.Core.Path.{◌≡◌, refl, sym, ap, ◌∙◌}
use Prim.Native.Nat.{ℕ}
use mathlib.Core.List.{List, ◌∷◌, ◌++◌}
use Rattle.bits.specs.Refusals.{value}
use Rattle.bits.proofs.Following.{then_value, same_value}
use Rattle.picture_header.specs.Picture.{picture}
use Rattle.headers.specs.Sequence.{sequence}
use Rattle.picture_header.specs.declared.Mpeg2PictureHeader.{Mpeg2PictureHeader}
use Rattle.picture_header.specs.declared.PictureCodingExtension.{PictureCodingExtension}
use Rattle.headers.proofs.Sequence.{sequence-append}
use Rattle.headers.specs.declared.sequence_extension.Mpeg2Sequence.{Mpeg2Sequence}
use Rattle.vbv.specs.Answers.{frame_rate}
use Rattle.vbv.specs.Params.{params_of}
use Rattle.vbv.specs.declared.VbvParams.{VbvParams}
use Rattle.vbv.proofs.Params.{params_are}
use Rattle.bits.specs.StartCodes.{sequence_header_code}
use Rattle.std.specs.Prelude.{Some}
use Rattle.scan.specs.Codes.{codes, found}
use Rattle.scan.specs.Pictures.{skip, not_sequence}
use Rattle.scan.specs.declared.StartCode.{StartCode}
use Rattle.scan.proofs.Sorts.{sequence-code, skip_stops, found_first}
use Rattle.pictures.specs.Seen.{shown}
use Rattle.picture_header.specs.Facts.{facts_of}
use Rattle.picture_header.proofs.FactLaws.{facts_are, told_parsed, anchor_by, frame_by}
use Rattle.picture_header.specs.declared.PictureFacts.{PictureFacts}
use Rattle.pictures.specs.Sequence.{rated, declared_by, declared_at, declared}
use Rattle.pictures.specs.Due.{SequenceDeclares, PictureShows}
use Rattle.pictures.specs.declared.VbvStandard.TheVariants.{Mpeg2}

pub shown-parsed : (s : List ℕ) (h : Mpeg2PictureHeader) (x : PictureCodingExtension) → picture s ≡ value (h, x)
    → shown Mpeg2 s ≡ value (h.vbv_delay, facts_of h x)
unfolding shown
shown-parsed s h x e = told_parsed s h x e

facts_shown : (s : List ℕ) (h : Mpeg2PictureHeader) (x : PictureCodingExtension) (d : ℕ) (f : PictureFacts) → picture s ≡ value (h, x) → shown Mpeg2 s ≡ value (d, f) → facts_of h x ≡ f
facts_shown s h x d f e t = let z : ◌≡◌ {A = ℕ × PictureFacts} (h.vbv_delay, facts_of h x) (d, f) = same_value (sym (shown-parsed s h x e) ∙ t) in ap (λ (y : ℕ × PictureFacts). y.1) z

pub sequence_declares : SequenceDeclares
unfolding declared_by rated
sequence_declares = record {
  of_mpeg2 = λ s q f e r. rw (e, r, params_are q.bit_rate q.vbv_buffer_size f.0 f.1);
  of_mpeg1 = λ s h f e r. rw (e, r, params_are h.bit_rate h.vbv_buffer_size f.0 f.1);
}

-- and what declares something has been read
pub record DeclaredFrom (s : List ℕ) (p : VbvParams) : Type 0 where
  pub read : Mpeg2Sequence
  pub parsed : sequence s ≡ value read
  pub frames : ℕ × ℕ
  pub looked_up :
      frame_rate read.header.frame_rate_code read.extension.frame_rate_extension_n read.extension.frame_rate_extension_d ≡ value frames
  pub params_from : params_of read.bit_rate read.vbv_buffer_size frames ≡ p

pub declared_from : (s : List ℕ) (p : VbvParams) → declared_by Mpeg2 s ≡ value p → DeclaredFrom s p
unfolding declared_by rated
declared_from s p e =
    let a = then_value (sequence s) e in
    let b = then_value (frame_rate a.0.header.frame_rate_code a.0.extension.frame_rate_extension_n a.0.extension.frame_rate_extension_d) a.2 in
    record { read = a.0; parsed = a.1; frames = b.0; looked_up = b.1; params_from = same_value b.2 }

module _ (s : List ℕ) (cs : List StartCode) (c : codes s ≡ record { offset = 0; code = sequence_header_code } ∷ cs) where
  pub first-sequence : found (skip not_sequence (codes s)) ≡ Some (record { offset = 0; code = sequence_header_code })
  first-sequence = rw (c, skip_stops not_sequence (record { offset = 0; code = sequence_header_code }) cs sequence-code, found_first)

  -- a stream that begins with its sequence header declares what that one does
  pub declared-first : declared Mpeg2 s ≡ declared_by Mpeg2 s
  unfolding declared declared_at
  declared-first = rw first-sequence

-- what stands after headers that declare something does not matter
pub declared-append : (s t : List ℕ) (p : VbvParams) → declared_by Mpeg2 s ≡ value p → declared_by Mpeg2 (s ++ t) ≡ value p
unfolding declared_by
declared-append s t p e =
    let a = then_value (sequence s) e in
    rw (sequence-append s t a.0 a.1) a.2

-- field by field
pub picture_shows : PictureShows
picture_shows = record {
  an_anchor = λ s h x d f e t. rw (← facts_shown s h x d f e t, facts_are h x) (anchor_by h.picture_coding_type);
  a_frame = λ s h x d f e t. rw (← facts_shown s h x d f e t, facts_are h x) (frame_by x.picture_structure);
  the_flags = λ s h x d f e t. rw (← facts_shown s h x d f e t, facts_are h x) (refl, refl);
}
