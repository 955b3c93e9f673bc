-- Headers, patched layers and zeros laid end to end: the pictures that such a stream shows, what it declares, and the cadence that it opens.
-- Assumes nothing.
use mathlib.Core.Path.{◌≡◌, refl, sym, ap, ◌∙◌}
use Prim.Native.Nat.{ℕ, ◌+◌, ◌*◌}
use mathlib.Core.List.{List, [], ◌∷◌, ◌++◌, append_assoc}
use mathlib.Core.Bool.{Bool, true, false}
use native.Mathlib.Nat.{add-zero}
use lib.ListN.{length, replicate, drop, length-append}
use lib.Seq.{drop-append-add, drop-append_seam}
use Rattle.vbv.specs.Patch.{patched}
use Rattle.vbv.specs.declared.VbvParams.{VbvParams}
use Rattle.scan.specs.Pictures.{pictures}
use Rattle.scan.proofs.Laid.{Tail, laid-pictures}
use Rattle.scan.proofs.Laying.{Piece, Pieces, none, more, laid_pieces, laid_pics, laid_none, laid_more, pics_none, pics_last, pics_more}
use Rattle.scan.proofs.Pieces.{piece_zeros}
use Rattle.bits.specs.Refusals.{value}
use Rattle.pictures.specs.Seen.{shown, seen_each, seen_pictures}
use Rattle.pictures.specs.Sequence.{declared}
use Rattle.pictures.specs.Cadence.{cadence_by, cadence_of}
use Rattle.pictures.specs.declared.VbvStandard.TheVariants.{Mpeg2}
use Rattle.pictures.specs.declared.SeenPicture.{SeenPicture}
use Rattle.pictures.proofs.Seeing.{seen_none, seen_more, seen_all}
use Rattle.layers.specs.Headers.{headers_fit}
use Rattle.layers.specs.Layer.{facts_in}
use Rattle.layers.proofs.Laws.{Laid, headers_piece, first-declares, headers-declared, headers-cadence}

-- ---- parts

-- what is placed for one picture: headers, a layer to be patched with a delay, zero bytes
pub record Part : Type 0 where
  pub headers : List ℕ
  pub layer : List ℕ
  pub delay : ℕ
  pub zeros : ℕ

unfoldable pub bytes_of : Part → List ℕ
bytes_of x = x.headers ++ (patched x.layer x.delay ++ replicate x.zeros 0)

-- headers fit, and the layer is laid with its delay; `placed`: there is a picture before
pub record PartFits (p : VbvParams) (placed : Bool) (x : Part) : Type 0 where
  pub headers_fit_lem : headers_fit p placed x.headers ≡ true
  pub laid : Laid x.layer x.delay (facts_in x.layer)

-- every part but the first has a picture before it
pub data PartsFit (p : VbvParams) : Bool → List Part → Type 0 where
  no_parts : {placed : Bool} → PartsFit p placed []
  part : {placed : Bool} {x : Part} {xs : List Part} → PartFits p placed x → PartsFit p true xs → PartsFit p placed (x ∷ xs)

-- ---- the stream of them

-- the parts end to end, and what follows the last
unfoldable pub stream : List Part → List ℕ → List ℕ
stream [] t = t
stream (x ∷ xs) t = bytes_of x ++ stream xs t

-- a part's picture, n bytes before the part, where it ends with byte e
abbrev pub picture_of : ℕ → Part → ℕ → SeenPicture
picture_of n x e = record {
  pos_bits = 8 * (n + length x.headers + 4);
  end_bits = 8 * e;
  vbv_delay = x.delay;
  facts = facts_in x.layer;
}

-- the pictures of the parts, n bytes before the first and t after the last: each ends where the next part begins, the last with what follows it
unfoldable pub seen : ℕ → List Part → ℕ → List SeenPicture
unfolding bytes_of
seen n [] t = []
seen n (x ∷ []) t = picture_of n x (n + (length (bytes_of x) + t)) ∷ []
seen n (x ∷ y ∷ xs) t = picture_of n x (n + length (bytes_of x)) ∷ seen (n + length (bytes_of x)) (y ∷ xs) t

-- ---- one part at a time

pub part_then : (x : Part) (t : List ℕ) → x.headers ++ (patched x.layer x.delay ++ (replicate x.zeros 0 ++ t)) ≡ bytes_of x ++ t
unfolding bytes_of
part_then x t =
    let l : List ℕ = patched x.layer x.delay in
    rw (append_assoc x.headers (l ++ replicate x.zeros 0) t, append_assoc l (replicate x.zeros 0) t)

pub stream_none : (t : List ℕ) → stream [] t ≡ t
unfolding stream
stream_none t = refl

pub stream_more : (x : Part) (xs : List Part) (t : List ℕ) → stream (x ∷ xs) t ≡ bytes_of x ++ stream xs t
unfolding stream
stream_more x xs t = refl

pub parts_none : (n t : ℕ) → seen n [] t ≡ []
unfolding seen
parts_none n t = refl

pub parts_last : (n : ℕ) (x : Part) (t : ℕ) → seen n (x ∷ []) t ≡ picture_of n x (n + (length (bytes_of x) + t)) ∷ []
unfolding seen
parts_last n x t = refl

pub parts_more : (n : ℕ) (x y : Part) (xs : List Part) (t : ℕ)
    → seen n (x ∷ y ∷ xs) t ≡ picture_of n x (n + length (bytes_of x)) ∷ seen (n + length (bytes_of x)) (y ∷ xs) t
unfolding seen
parts_more n x y xs t = refl

-- ---- what the stream holds

-- a part is a piece, its picture after its headers
part_piece : {p : VbvParams} {placed : Bool} {x : Part} → PartFits p placed x → Piece (bytes_of x) (length x.headers)
unfolding bytes_of
part_piece {p} {placed} {x} f =
    rw add-zero at (headers_piece p placed x.headers f.headers_fit_lem _ 0 (piece_zeros _ 0 x.zeros f.laid.piece))

pieces : {p : VbvParams} {placed : Bool} {xs : List Part} → PartsFit p placed xs → Pieces
pieces no_parts = none
pieces (part {x} f fs) = more (bytes_of x) (length x.headers) (part_piece f) (pieces fs)

stream_laid : {p : VbvParams} {placed : Bool} {xs : List Part} (f : PartsFit p placed xs) (t : List ℕ) → stream xs t ≡ laid_pieces (pieces f) t
unfolding stream pieces
stream_laid no_parts t = sym (laid_none t)
stream_laid (part {x} f fs) t =
    ap (λ l. bytes_of x ++ l) (stream_laid fs t) ∙ sym (laid_more (bytes_of x) (length x.headers) (part_piece f) (pieces fs) t)

-- what a part's picture shows, wherever the part stands
part_shown : {p : VbvParams} {placed : Bool} {x : Part} → PartFits p placed x → (before t : List ℕ)
    → shown Mpeg2 (drop (length before + length x.headers) (before ++ (bytes_of x ++ t))) ≡ value (x.delay, facts_in x.layer)
part_shown {p} {placed} {x} f before t =
    rw (
      drop-append-add before (bytes_of x ++ t) (length x.headers),
      ← part_then x t,
      drop-append_seam x.headers (patched x.layer x.delay ++ (replicate x.zeros 0 ++ t)),
    )
    (f.laid.told_is (replicate x.zeros 0 ++ t))

-- forward: of the parts after any bytes
parts_seen : {p : VbvParams} {placed : Bool} {xs : List Part} (f : PartsFit p placed xs) (before t : List ℕ)
    → seen_each Mpeg2 (before ++ stream xs t) (laid_pics (length before) (pieces f) (length t)) ≡ value (seen (length before) xs (length t))
unfolding stream pieces seen
parts_seen no_parts before t = rw (pics_none (length before) (length t)) (seen_none Mpeg2 _)
parts_seen (part {x} f no_parts) before t =
    rw (pics_last (bytes_of x) (length x.headers) (part_piece f) (length before) (length t))
    (seen_more Mpeg2 _ _ _ x.delay (facts_in x.layer) [] [] (part_shown f before t) (seen_none Mpeg2 _))
parts_seen (part {x} f (part {x = y} {xs = ys} g gs)) before t =
    let s : List ℕ = stream (y ∷ ys) t in
    rw (pics_more (bytes_of x) (length x.headers) (part_piece f) (bytes_of y) (length y.headers) (part_piece g) (pieces gs) (length before) (length t))
    (seen_more Mpeg2 _ _ _ x.delay (facts_in x.layer) _ _ (part_shown f before s)
    (rw (append_assoc before (bytes_of x) s, length-append before (bytes_of x)) at (parts_seen (part g gs) (before ++ bytes_of x) t)))

pub stream_seen : {p : VbvParams} {placed : Bool} {xs : List Part} {t : List ℕ}
    → PartsFit p placed xs → Tail t → seen_pictures Mpeg2 (stream xs t) ≡ value (seen 0 xs (length t))
stream_seen {p} {placed} {xs} {t} f w =
    seen_all Mpeg2 (stream xs t) (ap pictures (stream_laid f t) ∙ laid-pictures (pieces f) t w) (parts_seen f [] t)

pub stream_declared : {p : VbvParams} {x : Part} (f : PartFits p false x) (xs : List Part) (t : List ℕ)
    → declared Mpeg2 (stream (x ∷ xs) t) ≡ value (first-declares p x.headers f.headers_fit_lem).params
stream_declared {p} {x} f xs t =
    rw (stream_more x xs t, ← part_then x (stream xs t)) (headers-declared p x.headers f.headers_fit_lem _)

pub stream_cadence : (film : Bool) {p : VbvParams} {x : Part} → PartFits p false x → (xs : List Part) (t : List ℕ)
    → cadence_of film (stream (x ∷ xs) t) ≡ cadence_by film x.headers
stream_cadence film {p} {x} f xs t =
    rw (stream_more x xs t, ← part_then x (stream xs t)) (headers-cadence film p x.headers f.headers_fit_lem _)
