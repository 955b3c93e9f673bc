-- The laws of the picture header: the ways that reading it goes, what a parsed one says of the bytes, and that bytes after it change
-- nothing.
-- Assumes nothing.
use mathlib.Core.Path.{◌≡◌, refl, ap}
use mathlib.Core.List.{List, [], ◌∷◌, ◌++◌}
use mathlib.Core.Bool.{Bool, true, false}
use Prim.Native.Nat.{ℕ, ◌+◌, ◌*◌, ◌≤◌, ◌<◌}
use native.Mathlib.Omega.{arith}
use lib.Dec.{eqb, lit≤}
use lib.ListN.{length, get_or, take}
use borrow.Author.Tests.{eqb-true}
use Rattle.bits.specs.Bits.{pick, bits_at}
use Rattle.bits.specs.Refusals.{Answer, value, refused, and_then}
use Rattle.bits.specs.Fields.{Field, field, any_value, read_fields, read_header}
use Rattle.bits.specs.Answers.{in_places, fields_answer}
use Rattle.bits.specs.declared.FieldsError.{FieldsError}
use Rattle.std.specs.Prelude.{Result, Ok}
use Rattle.bits.specs.StartCodes.{start_code, picture_start_code}
use Rattle.bits.proofs.Laws.{bits_bound}
use Rattle.bits.proofs.Reading.{ParseOutcome, whole, then_seen, Read, fields_seen, header_seen, read_field, obeys_true, read_append, fields-done, header_done, header_got, header_append}
use Rattle.picture_header.specs.PictureHeader.{picture_fields, forward, backward, vector_fields, motion_fields, coding_type, extra_at, extra_bit, picture_of, after_delay, picture_header, picture_header_bytes}
use Rattle.picture_header.specs.Stability.{PictureHeaderStays, PictureHeaderCut}
use Rattle.picture_header.proofs.ExtraInformation.{extra_inside, extra_seen, extra-append}
use Rattle.bits.proofs.Following.{then_value, then_stays, short_cut}
use Rattle.picture_header.specs.declared.PictureCodingType.{PictureCodingType}
use Rattle.picture_header.specs.declared.PictureCodingType.TheVariants.{Intra, Predictive, Bidirectional, DcIntra}
use Rattle.picture_header.specs.declared.Mpeg2PictureHeader.{Mpeg2PictureHeader}

-- a vector's fields have three bits at most, whatever the type
abbrev small_at : List Field → ℕ → Type 0
small_at fs k = (get_or fs k (field 0 0 0)).high ≤ 7

motion_small : (t : ℕ) → let fs = motion_fields t in small_at fs 0 × small_at fs 1 × small_at fs 2 × small_at fs 3
unfolding motion_fields vector_fields
motion_small t = case (forward t) (backward t)
  where
    case : (f b : Bool) → let fs = vector_fields f ++ vector_fields b in small_at fs 0 × small_at fs 1 × small_at fs 2 × small_at fs 3
    case true true = (lit≤ tt, lit≤ tt, lit≤ tt, lit≤ tt)
    case true false = (lit≤ tt, lit≤ tt, lit≤ tt, lit≤ tt)
    case false true = (lit≤ tt, lit≤ tt, lit≤ tt, lit≤ tt)
    case false false = (lit≤ tt, lit≤ tt, lit≤ tt, lit≤ tt)

-- the first flag's bit by the type
abbrev pub flag_bit : PictureCodingType → ℕ
flag_bit Intra = 61
flag_bit Predictive = 65
flag_bit Bidirectional = 69
flag_bit DcIntra = 61

pub extra_bit_type : (t : ℕ) → extra_bit t ≡ flag_bit (coding_type t)
unfolding extra_bit forward backward coding_type pick
extra_bit_type t = case (eqb t 1) (eqb t 2) (eqb t 3) refl refl refl
  where
    case : (a b d : Bool) → eqb t 1 ≡ a → eqb t 2 ≡ b → eqb t 3 ≡ d → extra_bit t ≡ flag_bit (coding_type t)
    case true b d x y z = rw (eqb-true t 1 x)
    case false true d x y z = rw (eqb-true t 2 y)
    case false false true x y z = rw (eqb-true t 3 z)
    case false false false x y z = rw (x, y, z)

pub flag_bit_range : (k : PictureCodingType) → (61 ≤ flag_bit k) × (flag_bit k ≤ 69)
flag_bit_range Intra = (lit≤ tt, lit≤ tt)
flag_bit_range Predictive = (lit≤ tt, lit≤ tt)
flag_bit_range Bidirectional = (lit≤ tt, lit≤ tt)
flag_bit_range DcIntra = (lit≤ tt, lit≤ tt)

-- the same values make the same header
after_delay-same : (s h k : List ℕ) → ((i : ℕ) → get_or h i 0 ≡ get_or k i 0) → after_delay s h ≡ after_delay s k
unfolding after_delay picture_of
after_delay-same s h k e = rw (e 0, e 1, e 2)

motion_same : (h m k : List ℕ) (n : ℕ) → ((i : ℕ) → get_or m i 0 ≡ get_or k i 0) → picture_of h m n ≡ picture_of h k n
unfolding picture_of
motion_same h m k n e = rw (e 0, e 1, e 2, e 3)

-- after a read of the first fields: what was found stands for the values
pub header_after : (r : Result (List ℕ) FieldsError) (s : List ℕ) {h : List ℕ} → fields_answer r ≡ in_places (read_header (start_code picture_start_code) picture_fields s) → r ≡ Ok h
    → after_delay s h ≡ picture_header s
unfolding picture_header
header_after r s {h} e o =
    let d = header_done r (start_code picture_start_code) picture_fields s e o in
    rw d.parsed (after_delay-same s h d.vs d.same)

-- and after one of the motion vectors' fields
module _ (r : Result (List ℕ) FieldsError) (s h : List ℕ) {m : List ℕ} (e : fields_answer r ≡ in_places (read_fields (motion_fields (get_or h 1 0)) s 61)) (o : r ≡ Ok m) where
  done : Read (motion_fields (get_or h 1 0)) (read_fields (motion_fields (get_or h 1 0)) s 61) m
  done = fields-done r (motion_fields (get_or h 1 0)) s 61 e o

  pub motion_codes : (get_or m 0 0 ≤ 7) × (get_or m 1 0 ≤ 7) × (get_or m 2 0 ≤ 7) × (get_or m 3 0 ≤ 7)
  motion_codes =
      let b = motion_small (get_or h 1 0) in
      (omega (arith, done.high 0, b.0), omega (arith, done.high 1, b.1), omega (arith, done.high 2, b.2), omega (arith, done.high 3, b.3))

  pub motion_done : and_then (extra_at s (extra_bit (get_or h 1 0))) (λ n. value (picture_of h m n)) ≡ after_delay s h
  unfolding after_delay
  motion_done = rw done.parsed (case (extra_at s (extra_bit (get_or h 1 0))))
    where
      case : (a : Answer ℕ) → and_then a (λ n. value (picture_of h m n)) ≡ and_then a (λ n. value (picture_of h done.vs n))
      case (value n) = ap value (motion_same h m done.vs n done.same)
      case (refused n p c x) = refl

-- what a parsed header comes from
pub record From (s : List ℕ) (h : Mpeg2PictureHeader) : Type 0 where
  pub vs : List ℕ
  pub m : List ℕ
  pub n : ℕ
  pub header_is : read_header (start_code picture_start_code) picture_fields s ≡ value vs
  pub motion_is : read_fields (motion_fields (get_or vs 1 0)) s 61 ≡ value m
  pub extra_is : extra_at s (extra_bit (get_or vs 1 0)) ≡ value n
  pub made : h ≡ picture_of vs m n

pub from : (s : List ℕ) (h : Mpeg2PictureHeader) → picture_header s ≡ value h → From s h
unfolding picture_header after_delay
from s h e =
    let a = then_value (read_header (start_code picture_start_code) picture_fields s) e in
    let b = then_value (read_fields (motion_fields (get_or a.0 1 0)) s 61) a.2 in
    let d = then_value (extra_at s (extra_bit (get_or a.0 1 0))) b.2 in
    record { vs = a.0; m = b.0; n = d.0; header_is = a.1; motion_is = b.1; extra_is = d.1; made = cc }

-- the three fields before the motion vectors, and the type's range
pub fields_are : (s vs : List ℕ) → read_fields picture_fields s 32 ≡ value vs
    → (get_or vs 0 0 ≡ bits_at s 32 10) × (get_or vs 1 0 ≡ bits_at s 42 3) × (get_or vs 2 0 ≡ bits_at s 45 16) × (1 ≤ bits_at s 42 3) × (bits_at s 42 3 ≤ 4)
fields_are s vs e =
    let a = read_field (any_value 10) (field 3 1 4 ∷ any_value 16 ∷ []) s 32 vs e in
    let b = read_field (field 3 1 4) (any_value 16 ∷ []) s 42 a.rest a.then in
    let d = read_field (any_value 16) [] s 45 b.rest b.then in
    let o = obeys_true (field 3 1 4) (bits_at s 42 3) b.obeyed in
    (rw a.all, rw (a.all, b.all), rw (a.all, b.all, d.all), o.0, o.1)

-- what a parsed header says of the bytes, and that it lies in them
pub record PictureHeaderParsed (s : List ℕ) (h : Mpeg2PictureHeader) : Type 0 where
  pub code_first : take 4 s ≡ start_code picture_start_code
  pub reference : h.temporal_reference ≡ bits_at s 32 10
  pub type : h.picture_coding_type ≡ coding_type (bits_at s 42 3)
  pub type_low : 1 ≤ bits_at s 42 3
  pub type_high : bits_at s 42 3 ≤ 4
  pub delay : h.vbv_delay ≡ bits_at s 45 16
  pub first_flag : h.extra_information_bit ≡ flag_bit h.picture_coding_type
  pub last_flag : h.extra_information_bit + 9 * h.extra_information_bytes < 8 * length s

pub picture_header-parsed : (s : List ℕ) (h : Mpeg2PictureHeader) → picture_header s ≡ value h → PictureHeaderParsed s h
unfolding picture_of
picture_header-parsed s h e =
    let w = from s h e in
    let g = header_got (start_code picture_start_code) picture_fields s w.vs w.header_is in
    let f = fields_are s w.vs g.fields_read in
    record {
      code_first = g.code_first;
      reference = rw w.made f.0;
      type = rw (w.made, f.1);
      type_low = f.3;
      type_high = f.4;
      delay = rw w.made f.2;
      first_flag = rw w.made (extra_bit_type (get_or w.vs 1 0));
      last_flag = rw w.made (omega (arith, extra_inside s (extra_bit (get_or w.vs 1 0)) w.n w.extra_is));
    }

-- its bounds
module _ {s : List ℕ} {h : Mpeg2PictureHeader} (p : PictureHeaderParsed s h) where
  pub delay-high : h.vbv_delay ≤ 65535
  delay-high = omega (arith, p.delay, bits_bound s 45 16)

  pub header_least : 8 ≤ picture_header_bytes h
  unfolding picture_header_bytes
  header_least = omega (arith, p.first_flag, flag_bit_range h.picture_coding_type)

  pub header_inside : picture_header_bytes h ≤ length s
  unfolding picture_header_bytes
  header_inside = omega (arith, p.last_flag)

-- bytes after a header do not matter, unless it is too short
pub picture_header-append : PictureHeaderStays
unfolding picture_header after_delay
picture_header-append s t =
    then_stays (read_header (start_code picture_start_code) picture_fields s) _ _ _ (header_append (start_code picture_start_code) picture_fields s t) (λ h.
    then_stays (read_fields (motion_fields (get_or h 1 0)) s 61) _ _ _ (read_append (motion_fields (get_or h 1 0)) s t 61) (λ m.
    then_stays (extra_at s (extra_bit (get_or h 1 0))) _ _ _ (extra-append s t (extra_bit (get_or h 1 0))) (λ n g. refl)))

pub picture_header_seen : (s : List ℕ) → ParseOutcome (picture_header s)
unfolding picture_header after_delay
picture_header_seen s =
    then_seen (header_seen (start_code picture_start_code) picture_fields s) (λ h.
    then_seen (fields_seen (motion_fields (get_or h 1 0)) s 61) (λ m.
    then_seen (extra_seen s (extra_bit (get_or h 1 0))) (λ n. whole _)))

-- so what is too short with more after it is too short
pub picture_header-short : PictureHeaderCut
picture_header-short s t = short_cut (picture_header_seen s) (picture_header-append s t)
