-- Headers and layers that fit, laid in a stream: the patch keeps a layer's codes, a layer is a piece with one picture, headers before a piece are
-- of that piece, and what the stream's reader is shown is what was offered.
-- Assumes nothing.
use mathlib.Core.Path.{◌≡◌, refl, sym, ap, ◌∙◌}
use Prim.Native.Nat.{ℕ, ◌+◌, ◌≤◌, ◌<◌}
use mathlib.Core.List.{List, [], ◌∷◌, ◌++◌}
use mathlib.Core.Bool.{Bool, true, false, not, ◌&&◌, ◌||◌, true≢false}
use mathlib.Core.Logic.{⊎_elim, inl, inr}
use native.Mathlib.Omega.{arith}
use native.Mathlib.Nat.{zero-add}
use lib.Dec.{eqb, lit≤, lit<}
use lib.ListN.{length, take, drop, take-append-drop}
use lib.Seq.{take-take}
use borrow.Author.Tests.{not-true, eqb-true, ne_eqb}
use Rattle.vbv.specs.Params.{same_params}
use Rattle.bits.specs.StartCodes.{user_data_start_code, extension_start_code, sequence_end_code, last_slice_code, sequence_header_code, group_start_code}
use Rattle.bits.specs.Bits.{bits_at}
use Rattle.bits.proofs.Flags.{and_left, both_true}
use Rattle.bits.proofs.Reading.{same_self}
use Rattle.bits.proofs.Appending.{Below}
use Rattle.headers.specs.StartCode.{leading_zeros}
use Rattle.picture_header.specs.Picture.{picture}
use Rattle.picture_header.specs.declared.PictureFacts.{PictureFacts}
use Rattle.picture_header.proofs.Picture.{picture-append}
use Rattle.headers.proofs.StartCode.{prefix_true}
use Rattle.picture_header.proofs.OtherDelay.{OtherDelay, with_delay, delayed_delay, picture_delayed}
use Rattle.vbv.specs.Patch.{starts_picture, patched}
use Rattle.bits.specs.Refusals.{Answer, value, refused, and_then, or_else}
use Rattle.vbv.specs.declared.VbvParams.{VbvParams}
use Rattle.vbv.specs.declared.RemovalInterval.{RemovalInterval}
use Rattle.vbv.proofs.Patching.{starts_picture_is, patched-length, patched-front, patched-rest, patched_below, patched-delay, patched-before, patched-after}
use Rattle.scan.specs.declared.StartCode.{StartCode}
use Rattle.scan.specs.Codes.{codes, codes_from, every, ends_prefix}
use Rattle.scan.specs.Pictures.{is_slice, not_slice, not_picture, skip}
use Rattle.scan.proofs.Laying.{OnePicture, Opened, Piece}
use Rattle.scan.proofs.Pieces.{piece_after}
use Rattle.scan.proofs.PictureCodes.{PictureHead, codes-picture, codes-none, codes-opened}
use Rattle.scan.proofs.Prefix.{ends-drop, ends_prefix_lem}
use Rattle.scan.proofs.Search.{every_more}
use Rattle.scan.proofs.Sorts.{slice_zero, slice_above, not_slice_above, not_picture_lem, every_by, skip_split, every_empty}
use Rattle.pictures.specs.Seen.{shown}
use Rattle.pictures.specs.Sequence.{declared_by, declared}
use Rattle.pictures.specs.declared.VbvStandard.TheVariants.{Mpeg2}
use Rattle.pictures.proofs.Showing.{shown-parsed, declared-first, declared-append}
use Rattle.pictures.specs.Cadence.{cadence_by, cadence_of}
use Rattle.pictures.proofs.Cadences.{cadence-first, cadence-append}
use Rattle.layers.specs.declared.PictureKind.{PictureKind}
use Rattle.layers.specs.Layer.{slices, is_extension, layer_codes, layer_fits, facts_in}
use Rattle.layers.specs.Headers.{opens_headers, header_code, declares, sequence_first, sequence_fits, headers_fit}
use Rattle.layers.proofs.Layers.{LayerFits, layer_fits_lem, facts_delayed, LowBits, picture_head, layer_header, layer_twelve, layer-low}

-- the bytes that a list begins with, and those after them
begins : (n : ℕ) (s : List ℕ) {a : List ℕ} → take n s ≡ a → s ≡ a ++ drop n s
begins n s e = sym (take-append-drop n s) ∙ ap (λ (l : List ℕ). l ++ drop n s) e

-- ---- a layer

-- its codes are those of one picture
extension_no_slice : (c : ℕ) → is_extension c ≡ true → not_slice c ≡ true
unfolding is_extension
extension_no_slice c e = case (eqb c extension_start_code) (eqb c user_data_start_code) refl refl e
  where
    case : (a b : Bool) → eqb c extension_start_code ≡ a → eqb c user_data_start_code ≡ b → (a || b) ≡ true → not_slice c ≡ true
    case true b p q e = not_slice_above c (omega (arith, eqb-true c extension_start_code p))
    case false true p q e = not_slice_above c (omega (arith, eqb-true c user_data_start_code q))
    case false false p q e = cc

one_of : (cs : List StartCode) → layer_codes cs ≡ true → OnePicture cs 0
unfolding layer_codes slices
one_of [] e = absurd (let z : ◌≡◌ {A = ℕ} 0 1 = cc in omega arith)
one_of (c ∷ cs) e = case (skip is_extension cs) refl b.1
  where
    a : (eqb c.offset 0 ≡ true) × ((eqb c.code 0 && slices (skip is_extension cs)) ≡ true)
    a = both_true (eqb c.offset 0) _ e

    b : (eqb c.code 0 ≡ true) × (slices (skip is_extension cs) ≡ true)
    b = both_true (eqb c.code 0) _ a.1

    first : c ≡ record { offset = 0; code = 0 }
    first = rw (eqb-true c.offset 0 a.0, eqb-true c.code 0 b.0)

    case : (ds : List StartCode) → skip is_extension cs ≡ ds → slices ds ≡ true → OnePicture (c ∷ cs) 0
    case [] q z = absurd (let z : ◌≡◌ {A = ℕ} 0 1 = cc in omega arith)
    case (d ∷ ds) q z =
        let p = skip_split is_extension cs in
        let t = both_true (is_slice d.code) (every is_slice ds) z in
        record {
          headers = [];
          extensions = p.front;
          slice = d;
          slices = ds;
          shape = rw first (ap (λ (l : List StartCode). record { offset = 0; code = 0 } ∷ l) (p.split ∙ ap (λ (l : List StartCode). p.front ++ l) q));
          no_picture = every_empty not_picture;
          no_slice = every_by is_extension not_slice extension_no_slice p.front p.all;
          a_slice = t.0;
          all_slices = t.1;
        }

-- a layer that is patched with a delay and laid in a stream, and the facts that its headers tell
pub record Laid (s : List ℕ) (d : ℕ) (x : PictureFacts) : Type 0 where
  pub long : 8 ≤ length s
  pub starts : starts_picture s ≡ true
  pub same_length : length (patched s d) ≡ length s
  -- it is a piece, its picture at byte 0
  pub piece : Piece (patched s d) 0
  -- and shows the delay that was put in, and the facts, whatever follows
  pub told_is : (t : List ℕ) → shown Mpeg2 (patched s d ++ t) ≡ value (d, x)

module _ (film : Bool) (k : PictureKind) (i : RemovalInterval) (s : List ℕ) (fits : layer_fits film k i s ≡ true) where
  f : LayerFits s
  f = layer_fits_lem film k i s fits

  pub layer_long : 8 ≤ length s
  layer_long = omega (arith, layer_twelve f)

  pub layer-starts : starts_picture s ≡ true
  layer-starts = sym (starts_picture_is s layer_long) ∙ rw (layer_header f).code_first (same_self (0x00 ∷ 0x00 ∷ 0x01 ∷ 0x00 ∷ []))

  pub layer-length : (d : ℕ) → length (patched s d) ≡ length s
  layer-length d = patched-length s d layer-starts

  module _ (bytes : Below 256 s) (d : ℕ) (small : d < 65536) where
    other : OtherDelay s (patched s d)
    other =
        let e : take 5 (patched s d) ≡ take 5 s = patched-front s d layer-starts bytes small in
        record {
          same_length = layer-length d;
          same_code = sym (take-take 4 5 (patched s d) (lit≤ tt)) ∙ ap (take 4) e ∙ take-take 4 5 s (lit≤ tt);
          same_before = patched-before s d layer-starts;
          same_after = patched-after s d layer-starts;
          same_rest = patched-rest s d layer-starts bytes small;
        }

    head : PictureHead s
    head = picture_head s bytes (omega (arith, layer_twelve f)) (layer_header f).code_first (layer_header f).type_low (layer-low f)

    patched-code : take 4 (patched s d) ≡ 0x00 ∷ 0x00 ∷ 0x01 ∷ 0x00 ∷ []
    patched-code = other.same_code ∙ (layer_header f).code_first

    patched-low : LowBits (patched s d)
    patched-low =
        ⊎_elim
        (λ (v : 1 ≤ bits_at s 61 3). inl (rw (other.same_after 61 3 (lit≤ tt)) v))
        (λ (v : 2 ≤ leading_zeros (drop 8 s)). inr (rw other.same_rest v))
        (layer-low f)

    patched_head : PictureHead (patched s d)
    patched_head =
        picture_head (patched s d) (patched_below s d layer-starts) (omega (arith, layer_twelve f, layer-length d)) patched-code
        (rw (other.same_before 42 3 (lit≤ tt)) (layer_header f).type_low) patched-low

    -- the patch neither makes nor breaks a code
    patched-codes : codes (patched s d) ≡ codes s
    patched-codes =
        codes-picture (patched s d) patched_head
        ∙ ap (λ (l : List ℕ). record { offset = 0; code = 0 } ∷ codes_from 8 0 l) other.same_rest
        ∙ sym (codes-picture s head)

    patched-closed : ends_prefix (patched s d) ≡ false
    patched-closed =
        ends-drop 8 (patched s d) (omega (arith, layer_twelve f, layer-length d))
        ∙ ap ends_prefix other.same_rest
        ∙ sym (ends-drop 8 s (omega (arith, layer_twelve f)))
        ∙ f.closed

    layer_piece : Piece (patched s d) 0
    layer_piece = record {
      opened = record {
        first = 0;
        rest = drop 4 (patched s d);
        opens = begins 4 (patched s d) patched-code;
        opens_slice = slice_zero;
        opens_end = refl;
        closed = patched-closed;
      };
      one = rw patched-codes (one_of (codes s) f.codes_fit_lem);
    }

    layer-shown : (t : List ℕ) → shown Mpeg2 (patched s d ++ t) ≡ value (d, facts_in s)
    layer-shown t =
        let h = with_delay f.header (bits_at (patched s d) 45 16) in
        let p : picture (patched s d ++ t) ≡ value (h, f.extension) =
        picture-append (patched s d) t h f.extension (picture_delayed s (patched s d) other f.header f.extension f.parsed f.zeros_after) in
        shown-parsed (patched s d ++ t) h f.extension p
        ∙ rw (facts_delayed f (bits_at (patched s d) 45 16), delayed_delay f.header (bits_at (patched s d) 45 16), patched-delay s d layer-starts small)

    pub laid : Laid s d (facts_in s)
    laid = record { long = layer_long; starts = layer-starts; same_length = layer-length d; piece = layer_piece; told_is = layer-shown }

-- ---- headers

header_above : (c : ℕ) → header_code c ≡ true → (last_slice_code < c) × (c ≡ sequence_end_code → ⊥)
unfolding header_code
header_above c e = case (eqb c user_data_start_code) (eqb c sequence_header_code) (eqb c extension_start_code) (eqb c group_start_code) refl refl refl refl e
  where
    by : (n : ℕ) → eqb c n ≡ true → last_slice_code < n → (n ≡ sequence_end_code → ⊥) → (last_slice_code < c) × (c ≡ sequence_end_code → ⊥)
    by n q l m = rw (eqb-true c n q) (l, m)

    case : (p q r t : Bool) → eqb c user_data_start_code ≡ p → eqb c sequence_header_code ≡ q → eqb c extension_start_code ≡ r → eqb c group_start_code ≡ t → (p || (q || (r || t))) ≡ true
        → (last_slice_code < c) × (c ≡ sequence_end_code → ⊥)
    case true q r t a b d g e = by user_data_start_code a (lit< tt) (λ z. omega arith)
    case false true r t a b d g e = by sequence_header_code b (lit< tt) (λ z. omega arith)
    case false false true t a b d g e = by extension_start_code d (lit< tt) (λ z. omega arith)
    case false false false true a b d g e = by group_start_code g (lit< tt) (λ z. omega arith)
    case false false false false a b d g e = absurd (let z : ◌≡◌ {A = ℕ} 0 1 = cc in omega arith)

header_no_picture : (c : ℕ) → header_code c ≡ true → not_picture c ≡ true
header_no_picture c e = not_picture_lem c (λ z. omega (arith, (header_above c e).0))

-- headers that fit and are not empty
record HeadersFit (h : List ℕ) : Type 0 where
  first : ℕ
  rest : List ℕ
  opens : h ≡ 0 ∷ 0 ∷ 1 ∷ first ∷ rest
  first_code : header_code first ≡ true
  all_codes : every header_code (codes h) ≡ true
  closed : ends_prefix h ≡ false

headers_fit_lem : (b : ℕ) (s : List ℕ) → opens_headers (b ∷ s) ≡ true → every header_code (codes (b ∷ s)) ≡ true → ends_prefix (b ∷ s) ≡ false
    → HeadersFit (b ∷ s)
unfolding opens_headers
headers_fit_lem b s o c n = case (drop 3 (b ∷ s)) (begins 3 (b ∷ s) (prefix_true (b ∷ s) 0 o).is)
  where
    case : (r : List ℕ) → b ∷ s ≡ 0 ∷ 0 ∷ 1 ∷ r → HeadersFit (b ∷ s)
    case [] e = absurd (let z : false ≡ true = sym n ∙ ap ends_prefix e ∙ ends_prefix_lem in let y : ◌≡◌ {A = ℕ} 0 1 = cc in omega arith)
    case (f ∷ r) e =
        let a : every header_code (record { offset = 0; code = f } ∷ codes_from 4 0 r) ≡ true = sym (ap (every header_code) (ap codes e ∙ codes-opened f r)) ∙ c in
        record { first = f; rest = r; opens = e; first_code = and_left (header_code f) _ (sym (every_more header_code _ _) ∙ a); all_codes = c; closed = n }

headers_open : {h : List ℕ} → HeadersFit h → Opened h
headers_open f = record {
  first = f.first;
  rest = f.rest;
  opens = f.opens;
  opens_slice = slice_above f.first (header_above f.first f.first_code).0;
  opens_end = ne_eqb f.first sequence_end_code (header_above f.first f.first_code).1;
  closed = f.closed;
}

module _ (p : VbvParams) (placed : Bool) where
  -- the four conditions
  conditions : (h : List ℕ) → headers_fit p placed h ≡ true
      → (opens_headers h ≡ true) × (every header_code (codes h) ≡ true) × (ends_prefix h ≡ false) × (sequence_fits p placed h ≡ true)
  unfolding headers_fit
  conditions h e =
      let a = both_true (opens_headers h) _ e in
      let b = both_true (every header_code (codes h)) _ a.1 in
      let c = both_true (not (ends_prefix h)) _ b.1 in
      (a.0, b.0, not-true (ends_prefix h) c.0, c.1)

  fit_of : (b : ℕ) (s : List ℕ) → headers_fit p placed (b ∷ s) ≡ true → HeadersFit (b ∷ s)
  fit_of b s e =
      let c = conditions (b ∷ s) e in
      headers_fit_lem b s c.0 c.1 c.2

  -- headers before a piece make a piece with them
  pub headers_piece : (h : List ℕ) → headers_fit p placed h ≡ true → (x : List ℕ) (at : ℕ) → Piece x at → Piece (h ++ x) (length h + at)
  headers_piece [] e x at q = rw zero-add q
  headers_piece (b ∷ s) e x at q =
      let f = fit_of b s e in
      piece_after (b ∷ s) x at (headers_open f) (every_by header_code not_picture header_no_picture (codes (b ∷ s)) f.all_codes) q

-- the first headers declare the parameters, but for numerator and denominator of the frame rate
pub record DeclaresSame (p : VbvParams) (h : List ℕ) : Type 0 where
  pub params : VbvParams
  pub by_headers : declared_by Mpeg2 h ≡ value params
  pub same : same_params p params ≡ true

pub declares-same : (p : VbvParams) (h : List ℕ) → declares p h ≡ true → DeclaresSame p h
unfolding declares
declares-same p h e = case (declared_by Mpeg2 h) refl e
  where
    case : (r : Answer VbvParams) → declared_by Mpeg2 h ≡ r → or_else false (and_then r (λ q. value (same_params p q))) ≡ true → DeclaresSame p h
    case (value q) s z = record { params = q; by_headers = s; same = z }
    case (refused n k c x) s z = absurd (true≢false (sym z))

pub first-declares : (p : VbvParams) (h : List ℕ) → headers_fit p false h ≡ true → DeclaresSame p h
unfolding sequence_fits
first-declares p h e = declares-same p h (both_true (sequence_first (codes h)) _ (conditions p false h e).3).1

sequence_first_lem : (c : StartCode) (cs : List StartCode) → sequence_first (c ∷ cs) ≡ true → c.code ≡ sequence_header_code
unfolding sequence_first
sequence_first_lem c cs e =
    let a = both_true (eqb c.offset 0) _ e in
    let b = both_true (eqb c.code sequence_header_code) _ a.1 in
    eqb-true c.code sequence_header_code b.0

-- headers that fit before the first picture, and whatever follows them: the first code is B3 at byte 0
record Begins (s : List ℕ) : Type 0 where
  others : List StartCode
  codes_are : codes s ≡ record { offset = 0; code = sequence_header_code } ∷ others

headers_begin : (p : VbvParams) (h : List ℕ) → headers_fit p false h ≡ true → (x : List ℕ) → Begins (h ++ x)
unfolding sequence_fits sequence_first
headers_begin p [] e x =
    let c = (conditions p false [] e).3 in
    let d : sequence_first [] ≡ true = rw codes-none at (both_true (sequence_first (codes [])) _ c).0 in
    absurd (let z : ◌≡◌ {A = ℕ} 0 1 = cc in omega arith)
headers_begin p (b ∷ s) e x =
    let f = fit_of p false b s e in
    let c = both_true (sequence_first (codes (b ∷ s))) _ (conditions p false (b ∷ s) e).3 in
    let o = ap codes f.opens ∙ codes-opened f.first f.rest in
    let y : f.first ≡ sequence_header_code = sequence_first_lem (record { offset = 0; code = f.first }) (codes_from 4 0 f.rest) (rw o at c.0) in
    record {
      others = codes_from 4 0 (f.rest ++ x);
      codes_are = ap (λ (l : List ℕ). codes (l ++ x)) f.opens ∙ codes-opened f.first (f.rest ++ x) ∙ rw y;
    }

-- the stream declares what they do
pub headers-declared : (p : VbvParams) (h : List ℕ) (e : headers_fit p false h ≡ true) (x : List ℕ) → declared Mpeg2 (h ++ x) ≡ value (first-declares p h e).params
headers-declared p h e x =
    let b = headers_begin p h e x in
    let q = first-declares p h e in
    declared-first (h ++ x) b.others b.codes_are ∙ declared-append h x q.params q.by_headers

-- and its cadence is the one that they open
pub headers-cadence : (film : Bool) (p : VbvParams) (h : List ℕ) → headers_fit p false h ≡ true → (x : List ℕ) → cadence_of film (h ++ x) ≡ cadence_by film h
headers-cadence film p h e x =
    let b = headers_begin p h e x in
    let q = first-declares p h e in
    cadence-first film (h ++ x) b.others b.codes_are ∙ cadence-append film h x q.params q.by_headers
