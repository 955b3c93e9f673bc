-- A picture header whose delay alone is another is read the same but for that; and what a parsed one says of the bits after the delay.
-- Assumes nothing.
use mathlib.Core.Path.{◌≡◌, refl, sym, ap, ◌∙◌}
use mathlib.Core.List.{List, [], ◌∷◌}
use mathlib.Core.Bool.{Bool, true, false, ◌||◌}
use mathlib.Core.Logic.{◌⊎◌, ⊎_elim}
use Prim.Native.Nat.{ℕ, zero, suc, ◌+◌, ◌-◌, ◌*◌, ◌≤◌}
use native.Mathlib.Omega.{arith}
use native.Mathlib.Nat.{add-zero}
use lib.Dec.{eqb, lit≤}
use lib.ListN.{length, get_or, take, drop}
use lib.Seq.{get_or-drop, drop-drop}
use Rattle.bits.specs.Bits.{pick, bit_at, bits_at, bit_list}
use Rattle.bits.specs.Refusals.{value}
use Rattle.bits.specs.Fields.{Field, field, any_value, read_fields, read_header}
use Rattle.bits.specs.StartCodes.{start_code, picture_start_code}
use Rattle.bits.proofs.Laws.{bits_bound, bit_list-at}
use Rattle.bits.proofs.Reading.{read_field, there_is, obeys_is, read_none, read_more, header_got, header_of_lem}
use Rattle.bits.proofs.Same.{bits_one, read_same, bit_list-same}
use Rattle.bits.proofs.Flags.{clash}
use Rattle.headers.specs.StartCode.{leading_zeros}
use Rattle.picture_header.specs.PictureHeader.{picture_fields, forward, backward, vector_fields, motion_fields, coding_type, code_if, extra, extra_at, extra_bit, picture_of, after_delay, picture_header, picture_header_bits, picture_header_bytes}
use Rattle.picture_header.specs.Picture.{picture}
use Rattle.picture_header.specs.declared.PictureCodingType.{PictureCodingType}
use Rattle.picture_header.specs.declared.PictureCodingType.TheVariants.{Intra, Predictive, Bidirectional, DcIntra}
use Rattle.std.specs.Prelude.{Some}
use Rattle.picture_header.specs.declared.Mpeg2PictureHeader.{Mpeg2PictureHeader}
use Rattle.picture_header.specs.declared.PictureCodingExtension.{PictureCodingExtension}
use Rattle.headers.proofs.StartCode.{next-found, next-same}
use Rattle.picture_header.proofs.PictureHeader.{picture_header-parsed, header_least, header_inside, extra_bit_type, flag_bit_range, from, fields_are}
use Rattle.picture_header.proofs.Picture.{after_header, picture-parsed, picture-after}

-- t is s with another delay: bits 45 to 60
pub record OtherDelay (s t : List ℕ) : Type 0 where
  pub same_length : length t ≡ length s
  pub same_code : take 4 t ≡ take 4 s
  pub same_before : (k n : ℕ) → k + n ≤ 45 → bits_at t k n ≡ bits_at s k n
  pub same_after : (k n : ℕ) → 61 ≤ k → bits_at t k n ≡ bits_at s k n
  pub same_rest : drop 8 t ≡ drop 8 s

-- the header with the delay d
unfoldable pub with_delay : Mpeg2PictureHeader → ℕ → Mpeg2PictureHeader
with_delay h d = record {
  temporal_reference = h.temporal_reference;
  picture_coding_type = h.picture_coding_type;
  vbv_delay = d;
  full_pel_forward_vector = h.full_pel_forward_vector;
  fwd_f_code = h.fwd_f_code;
  full_pel_backward_vector = h.full_pel_backward_vector;
  bwd_f_code = h.bwd_f_code;
  extra_information_bytes = h.extra_information_bytes;
  extra_information_bit = h.extra_information_bit;
}

pub delayed_bytes : (h : Mpeg2PictureHeader) (d : ℕ) → picture_header_bytes (with_delay h d) ≡ picture_header_bytes h
unfolding picture_header_bytes picture_header_bits with_delay
delayed_bytes h d = refl

pub delayed_delay : (h : Mpeg2PictureHeader) (d : ℕ) → (with_delay h d).vbv_delay ≡ d
unfolding with_delay
delayed_delay h d = refl

pub delayed_type : (h : Mpeg2PictureHeader) (d : ℕ) → (with_delay h d).picture_coding_type ≡ h.picture_coding_type
unfolding with_delay
delayed_type h d = refl

-- a field that is read
field_read : (f : Field) (fs : List Field) (t : List ℕ) (i : ℕ) (vs : List ℕ) → f.width ≤ 32 → i + f.width ≤ 8 * length t
    → f.low ≤ bits_at t i f.width → bits_at t i f.width ≤ f.high → read_fields fs t (i + f.width) ≡ value vs
    → read_fields (f ∷ fs) t i ≡ value (bits_at t i f.width ∷ vs)
field_read f fs t i vs w r l h e =
    read_more f fs t i (there_is t i f.width w r) (obeys_is f _ l h) ∙ rw e

-- the three fields up to the delay
three_read : (t : List ℕ) → 8 ≤ length t → 1 ≤ bits_at t 42 3 → bits_at t 42 3 ≤ 4
    → read_fields picture_fields t 32 ≡ value (bits_at t 32 10 ∷ bits_at t 42 3 ∷ bits_at t 45 16 ∷ [])
three_read t l a b =
    field_read (any_value 10) (field 3 1 4 ∷ any_value 16 ∷ []) t 32 _ (lit≤ tt) (omega arith) (omega arith) (omega (arith, bits_bound t 32 10))
    (field_read (field 3 1 4) (any_value 16 ∷ []) t 42 _ (lit≤ tt) (omega arith) a b
    (field_read (any_value 16) [] t 45 [] (lit≤ tt) (omega arith) (omega arith) (omega (arith, bits_bound t 45 16)) (read_none t 61)))

module _ (s t : List ℕ) (o : OtherDelay s t) (h : Mpeg2PictureHeader) where
  pub header_delayed : picture_header s ≡ value h → picture_header t ≡ value (with_delay h (bits_at t 45 16))
  unfolding picture_header after_delay picture_of with_delay
  header_delayed e =
      let w = from s h e in
      let p = picture_header-parsed s h e in
      let g = header_got (start_code picture_start_code) picture_fields s w.vs w.header_is in
      let f = fields_are s w.vs g.fields_read in
      let l : 8 ≤ length t = omega (arith, header_least p, header_inside p, o.same_length) in
      let a : bits_at t 32 10 ≡ get_or w.vs 0 0 = o.same_before 32 10 (lit≤ tt) ∙ sym f.0 in
      let b : bits_at t 42 3 ≡ get_or w.vs 1 0 = o.same_before 42 3 (lit≤ tt) ∙ sym f.1 in
      let r : read_header (start_code picture_start_code) picture_fields t ≡ value (bits_at t 32 10 ∷ bits_at t 42 3 ∷ bits_at t 45 16 ∷ []) =
      header_of_lem (record {
        long = omega arith;
        code_first = o.same_code ∙ g.code_first;
        fields_read = three_read t l (omega (arith, f)) (omega (arith, f));
      }) in
      let k = extra_bit (get_or w.vs 1 0) in
      let low : 61 ≤ k = rw (extra_bit_type (get_or w.vs 1 0)) (flag_bit_range (coding_type (get_or w.vs 1 0))).0 in
      let m : read_fields (motion_fields (get_or w.vs 1 0)) t 61 ≡ value w.m = read_same s t o.same_length _ 61 o.same_after ∙ w.motion_is in
      let x : extra_at t k ≡ value w.n =
      ap (extra 0) (bit_list-same s t o.same_length k (λ i n q. o.same_after i n (omega arith))) ∙ w.extra_is in
      rw (r, b, m, x, a) (ap (λ (g : Mpeg2PictureHeader). value (with_delay g (bits_at t 45 16))) (sym w.made))

  -- the bytes from byte 8 on are the same
  drop-same : (k : ℕ) → 8 ≤ k → drop k t ≡ drop k s
  drop-same k l =
      let e : 8 + (k - 8) ≡ k = omega arith in
      ap (λ (n : ℕ). drop n t) (sym e) ∙ sym (drop-drop (k - 8) 8 t) ∙ ap (drop (k - 8)) o.same_rest ∙ drop-drop (k - 8) 8 s
      ∙ ap (λ (n : ℕ). drop n s) e

  -- with its extension, where that stands after the eight bytes
  pub picture_delayed : (x : PictureCodingExtension) → picture s ≡ value (h, x) → 2 ≤ leading_zeros (drop (picture_header_bytes h) s)
      → picture t ≡ value (with_delay h (bits_at t 45 16), x)
  unfolding after_header
  picture_delayed x e z =
      let r = picture-parsed s h x e in
      let g = header_delayed r.header in
      let b : 8 ≤ picture_header_bytes h = header_least (picture_header-parsed s h r.header) in
      let f = next-found s (picture_header_bytes h) r.place r.next in
      let l : 8 ≤ r.place = omega (arith, f.ends) in
      sym (picture-after t (with_delay h (bits_at t 45 16)) g (rw delayed_type r.not_dc))
      ∙ rw (delayed_bytes h (bits_at t 45 16), next-same s t (picture_header_bytes h) r.place (drop-same (picture_header_bytes h) b) (drop-same r.place l) r.next, drop-same r.place l, r.coded)

-- ---- the bits after the delay

-- a type with a forward vector has its code in bits 62 to 64
vector_code : (t : ℕ) (s m : List ℕ) → forward t ≡ true → read_fields (motion_fields t) s 61 ≡ value m → get_or m 1 0 ≡ bits_at s 62 3
unfolding motion_fields vector_fields
vector_code t s m f e = go (motion_fields t) (rw f) e
  where
    go : (fs : List Field) → fs ≡ any_value 1 ∷ any_value 3 ∷ vector_fields (backward t) → read_fields fs s 61 ≡ value m → get_or m 1 0 ≡ bits_at s 62 3
    go fs q e =
        let a = read_field (any_value 1) (any_value 3 ∷ vector_fields (backward t)) s 61 m (rw q at (e)) in
        let b = read_field (any_value 3) (vector_fields (backward t)) s 62 a.rest a.then in
        rw (a.all, b.all)

forward_type : (t : ℕ) → (coding_type t ≡ Predictive) ⊎ (coding_type t ≡ Bidirectional) → forward t ≡ true
unfolding coding_type forward pick
forward_type t k = case (eqb t 1) (eqb t 2) (eqb t 3) refl refl refl k
  where
    never : {A : Type 0} → {k : PictureCodingType} → k ≡ Intra → (k ≡ Predictive) ⊎ (k ≡ Bidirectional) → A
    never q u = absurd (⊎_elim (λ v. clash cc) (λ v. clash cc) u)

    case : (a b d : Bool) → eqb t 1 ≡ a → eqb t 2 ≡ b → eqb t 3 ≡ d
        → (pick a Intra (pick b Predictive (pick d Bidirectional DcIntra)) ≡ Predictive) ⊎ (pick a Intra (pick b Predictive (pick d Bidirectional DcIntra)) ≡ Bidirectional)
        → (b || d) ≡ true
    case true b d x y z u = never refl u
    case false true d x y z u = refl
    case false false true x y z u = refl
    case false false false x y z u = absurd (⊎_elim (λ v. clash cc) (λ v. clash cc) u)

-- a flag that extra information follows is set
flag_set : (bs : List ℕ) (n : ℕ) → extra 0 bs ≡ value n → 1 ≤ n → 1 ≤ get_or bs 0 0
unfolding extra
flag_set [] n e l = absurd (clash cc)
flag_set (zero ∷ bs) n e l = absurd (let z : 0 ≡ n = cc in omega arith)
flag_set (suc b ∷ bs) n e l = omega arith

module _ (s : List ℕ) (h : Mpeg2PictureHeader) (e : picture_header s ≡ value h) where
  pub forward-code : (h.picture_coding_type ≡ Predictive) ⊎ (h.picture_coding_type ≡ Bidirectional) → h.fwd_f_code ≡ Some (bits_at s 62 3)
  unfolding picture_of code_if pick
  forward-code k =
      let w = from s h e in
      let f : forward (get_or w.vs 1 0) ≡ true = forward_type (get_or w.vs 1 0) (rw w.made at (k)) in
      rw (w.made, f, vector_code (get_or w.vs 1 0) s w.m f w.motion_is)

  pub extra_flag : 1 ≤ h.extra_information_bytes → 1 ≤ bits_at s h.extra_information_bit 1
  unfolding picture_of
  extra_flag l =
      let w = from s h e in
      let k = extra_bit (get_or w.vs 1 0) in
      let b : h.extra_information_bit ≡ k = ap (λ (g : Mpeg2PictureHeader). g.extra_information_bit) w.made in
      let n : h.extra_information_bytes ≡ w.n = ap (λ (g : Mpeg2PictureHeader). g.extra_information_bytes) w.made in
      let g : 1 ≤ get_or (drop k (bit_list s)) 0 0 = flag_set (drop k (bit_list s)) w.n w.extra_is (omega arith) in
      let q : get_or (drop k (bit_list s)) 0 0 ≡ bits_at s k 1 = get_or-drop k (bit_list s) 0 0 ∙ bit_list-at s (k + 0) ∙ ap (bit_at s) (add-zero k) ∙ sym (bits_one s k) in
      rw b (omega arith)
