-- A picture header and a picture coding extension whose first four bytes are the number n and whose 40 bits after them are the number w:
-- what they are, and what they tell, where the code's one test of n and w holds.
-- Assumes nothing.
use mathlib.Core.Path.{◌≡◌, refl, sym, ap, ◌∙◌}
use mathlib.Core.List.{List, [], ◌∷◌, ◌++◌}
use mathlib.Core.Bool.{Bool, true, false, ◌&&◌, ◌||◌}
use Prim.Native.Nat.{ℕ, ◌+◌, ◌-◌, ◌*◌, ◌/◌, ◌%◌, ◌^◌, ◌≤◌, ◌<◌}
use native.Mathlib.Omega.{arith}
use lib.Dec.{eqb, leb, lit<}
use lib.ListN.{length, get_or, take, drop, length-drop}
use lib.Seq.{get_or-drop}
use borrow.Author.Tests.{eqb-true, eqb-false, leb-true, eq-eqb, le-leb}
use Rattle.bits.specs.Bits.{pick, bit_at, bits_at}
use Rattle.bits.specs.Refusals.{value}
use Rattle.bits.specs.Fields.{Field, any_value, read_fields, read_header, total}
use Rattle.bits.specs.StartCodes.{start_code, picture_start_code, extension_start_code}
use Rattle.bits.proofs.Flags.{both_true, clash}
use Rattle.bits.proofs.Laws.{bits_bound, bits_drop}
use Rattle.bits.proofs.Reading.{total-none, total-more, read_range, four, header_got, header_of_lem}
use Rattle.bits.proofs.Writing.{read_room}
use Rattle.bits.proofs.Same.{bits_one}
use Rattle.bits.proofs.Inside.{bits_inside, bits_four, fields_in, ObeyedIn, read_inside, inside_read}
use Rattle.picture_header.specs.CodingExtension.{motion_code_fields, motion_codes_fit, coding_fields, picture_structure, coding_extension_of, after_codes, picture_coding_extension}
use Rattle.picture_header.specs.Steps.{usual_header, usual_coding}
use Rattle.picture_header.specs.declared.PictureCodingExtension.{PictureCodingExtension}
use Rattle.picture_header.specs.PictureHeader.{picture_fields, forward, backward, vector_fields, motion_fields, coding_type, extra_at, extra_bit, flag_if, code_if, picture_of, after_delay, picture_header, picture_header_bits, picture_header_bytes}
use Rattle.picture_header.specs.Facts.{facts_by, facts_of, header_told, picture_told}
use Rattle.picture_header.specs.declared.PictureCodingType.TheVariants.{Intra, Predictive, Bidirectional, DcIntra}
use Rattle.picture_header.specs.declared.PictureStructure.TheVariants.{Frame}
use Rattle.picture_header.proofs.CodingExtension.{coding_parsed}
use Rattle.picture_header.proofs.ExtraInformation.{extra-none}
use Rattle.picture_header.proofs.PictureHeader.{extra_bit_type, flag_bit_range}
use Rattle.picture_header.proofs.Picture.{picture-here}

-- a start code by the number in its four bytes
code_inside : (s : List ℕ) (x : ℕ) → 4 ≤ length s → ((k : ℕ) → get_or s k 0 < 256) → x < 256 → bits_at s 0 32 ≡ 256 + x
    → take 4 s ≡ start_code x
code_inside s x l b h e =
    let n = bits_four s 0 (b 0) (b 1) (b 2) (b 3) in
    let p : get_or s 0 0 ≡ 0 = omega (arith, b 0, b 1, b 2, b 3) in
    let q : get_or s 1 0 ≡ 0 = omega (arith, b 0, b 1, b 2, b 3) in
    let r : get_or s 2 0 ≡ 1 = omega (arith, b 0, b 1, b 2, b 3) in
    let t : get_or s 3 0 ≡ x = omega (arith, b 0, b 1, b 2, b 3) in
    four s l ∙ rw (p, q, r, t)

-- the first flag of the extra information is one of the last 11 of them
pub first_range : (t k : ℕ) → k ≡ extra_bit t → (61 ≤ k) × (k ≤ 69)
first_range t k e = rw (e, extra_bit_type t) (flag_bit_range (coding_type t))

-- the motion vectors' fields that a type has obey their rules, and those that it has not do not matter
motion_obeyed : (t w : ℕ) → ObeyedIn (motion_fields t) w 11
unfolding motion_fields vector_fields
motion_obeyed t w = case (forward t) (backward t)
  where
    case : (a b : Bool) → ObeyedIn (vector_fields a ++ vector_fields b) w 11
    case true true = omega arith
    case true false = omega arith
    case false true = omega arith
    case false false = omega arith

abbrev vectors : List Field
vectors = any_value 1 ∷ any_value 3 ∷ any_value 1 ∷ any_value 3 ∷ []

motion_same : (h : List ℕ) (w n : ℕ) → picture_of h (fields_in (motion_fields (get_or h 1 0)) w 11) n ≡ picture_of h (fields_in vectors w 11) n
unfolding picture_of motion_fields vector_fields forward backward flag_if code_if pick
motion_same h w n = let q = case (eqb (get_or h 1 0) 2) (eqb (get_or h 1 0) 3) in rw (q.0, q.1, q.2, q.3)
  where
    case : (a b : Bool) → let m = fields_in (vector_fields (a || b) ++ vector_fields b) w 11 in
        (flag_if (a || b) (get_or m 0 0) ≡ flag_if (a || b) (w / 2 ^ 10 % 2))
        × (code_if (a || b) (get_or m 1 0) ≡ code_if (a || b) (w / 2 ^ 7 % 8))
        × (flag_if b (get_or m 2 0) ≡ flag_if b (w / 2 ^ 6 % 2))
        × (code_if b (get_or m 3 0) ≡ code_if b (w / 2 ^ 3 % 8))
    case true true = (refl, refl, refl, refl)
    case true false = (refl, refl, refl, refl)
    case false true = (refl, refl, refl, refl)
    case false false = (refl, refl, refl, refl)

-- the bits of the extension's two tables
motion_code_bits : total motion_code_fields ≡ 20
motion_code_bits = simp (total-more, total-none)

coding_bits : total coding_fields ≡ 14
coding_bits = simp (total-more, total-none)

module _ (s : List ℕ) (long : 9 ≤ length s) (byte : (k : ℕ) → get_or s k 0 < 256) (n w : ℕ) (d : n ≡ bits_at s 0 32) (e : w ≡ bits_at s 32 40) where
  pub header_straight : usual_header n w ≡ true → value (picture_of (fields_in picture_fields w 40) (fields_in vectors w 11) 0) ≡ picture_header s
  unfolding usual_header picture_header after_delay
  header_straight told =
      let t = w / 2 ^ 27 % 8 in
      let k = extra_bit t in
      let p = both_true (eqb n 0x100) _ told in
      let q = both_true (leb 1 t) _ p.1 in
      let r = both_true (leb t 4) _ q.1 in
      let g = first_range t k refl in
      let a : ObeyedIn picture_fields w 40 = omega (arith, leb-true 1 t q.0, leb-true t 4 r.0) in
      let h : read_header (start_code picture_start_code) picture_fields s ≡ value (fields_in picture_fields w 40) = header_of_lem (record {
        long = omega arith;
        code_first = code_inside s picture_start_code (omega arith) byte (lit< tt) (sym d ∙ eqb-true _ _ p.0);
        fields_read = read_inside picture_fields s 32 40 40 w e (omega arith) (omega arith) a;
      }) in
      let m : read_fields (motion_fields t) s 61 ≡ value (fields_in (motion_fields t) w 11) =
      read_inside (motion_fields t) s 32 40 11 w e (omega arith) (omega arith) (motion_obeyed t w) in
      let b : bit_at s k ≡ 0 =
      sym (bits_one s k) ∙ ap (λ (j : ℕ). bits_at s j 1) (omega arith) ∙ sym (bits_inside s 32 (k - 32) 1 (71 - k) 40 (omega arith))
      ∙ ap (λ (x : ℕ). x / 2 ^ (71 - k) % 2) (sym e) ∙ eqb-true _ _ r.1 in
      let x : extra_at s k ≡ value 0 = extra-none s k (omega arith) b in
      sym (rw (h, m, x) (ap value (motion_same (fields_in picture_fields w 40) w 0)))

  pub coding_straight : usual_coding n w ≡ true
      → value (coding_extension_of (fields_in motion_code_fields w 40) (fields_in coding_fields w 20)) ≡ picture_coding_extension s
  unfolding usual_coding picture_coding_extension motion_codes_fit after_codes pick
  coding_straight told =
      let p = both_true (eqb n 0x1B5 && eqb (w / 2 ^ 36) 8) _ told in
      let q = both_true (eqb n 0x1B5) _ p.0 in
      let r = both_true (motion_codes_fit (fields_in motion_code_fields w 40)) _ p.1 in
      let a : ObeyedIn motion_code_fields w 40 = omega (arith, eqb-true (w / 2 ^ 36) 8 q.1) in
      let b : ObeyedIn coding_fields w 20 = omega (arith, leb-true 1 (w / 2 ^ 16 % 4) r.1) in
      let h : read_header (start_code extension_start_code) motion_code_fields s ≡ value (fields_in motion_code_fields w 40) = header_of_lem (record {
        long = omega arith;
        code_first = code_inside s extension_start_code (omega arith) byte (lit< tt) (sym d ∙ eqb-true _ _ q.0);
        fields_read = read_inside motion_code_fields s 32 40 40 w e (omega arith) (omega arith) a;
      }) in
      let v : read_fields coding_fields s 52 ≡ value (fields_in coding_fields w 20) =
      read_inside coding_fields s 32 40 20 w e (omega arith) (omega arith) b in
      sym (rw (h, r.0, v))

  -- and the test holds of each extension that is accepted
  pub coding_only : (x : PictureCodingExtension) → picture_coding_extension s ≡ value x → usual_coding n w ≡ true
  unfolding usual_coding motion_codes_fit
  coding_only x a =
      let p = coding_parsed s x a in
      let g = header_got (start_code extension_start_code) motion_code_fields s p.h p.codes in
      let h : p.h ≡ fields_in motion_code_fields w 40 = inside_read motion_code_fields s 32 40 40 w p.h e (omega arith) (omega (arith, motion_code_bits)) g.fields_read in
      let v : p.vs ≡ fields_in coding_fields w 20 = inside_read coding_fields s 32 40 20 w p.vs e (omega arith) (omega (arith, coding_bits)) p.rest in
      let i : 8 ≤ w / 2 ^ 36 % 16 = rw h at (read_range motion_code_fields s 32 p.h g.fields_read 0).0 in
      let j : w / 2 ^ 36 % 16 ≤ 8 = rw h at (read_range motion_code_fields s 32 p.h g.fields_read 0).1 in
      let k : 1 ≤ w / 2 ^ 16 % 4 = rw v at (read_range coding_fields s 52 p.vs p.rest 1).0 in
      let f : motion_codes_fit (fields_in motion_code_fields w 40) ≡ true = rw h at p.fit in
      let c : get_or s 0 0 ∷ get_or s 1 0 ∷ get_or s 2 0 ∷ get_or s 3 0 ∷ [] ≡ start_code extension_start_code = sym (four s (omega arith)) ∙ g.code_first in
      let y : get_or s 0 0 ≡ 0 = cc in
      let z : get_or s 1 0 ≡ 0 = cc in
      let q : get_or s 2 0 ≡ 1 = cc in
      let r : get_or s 3 0 ≡ extension_start_code = cc in
      let o : n ≡ 0x1B5 = omega (arith, bits_four s 0 (byte 0) (byte 1) (byte 2) (byte 3)) in
      let u : w / 2 ^ 36 ≡ 8 = omega (arith, bits_bound s 32 40) in
      rw (eq-eqb n 0x1B5 o, eq-eqb (w / 2 ^ 36) 8 u, f, le-leb 1 (w / 2 ^ 16 % 4) k)

-- which has nine bytes
pub coding_nine : (s : List ℕ) (x : PictureCodingExtension) → picture_coding_extension s ≡ value x → 9 ≤ length s
coding_nine s x a =
    let p = coding_parsed s x a in
    let g = header_got (start_code extension_start_code) motion_code_fields s p.h p.codes in
    let l = read_room motion_code_fields s 32 p.h (omega (arith, g.long)) g.fields_read in
    omega (arith, read_room coding_fields s 52 p.vs (omega (arith, l, motion_code_bits)) p.rest, coding_bits)

-- types 1 to 3 are not D pictures'
not_dc : (t : ℕ) → 1 ≤ t → t ≤ 3 → coding_type t ≡ DcIntra → ⊥
unfolding coding_type pick
not_dc t l h e = case (eqb t 1) (eqb t 2) (eqb t 3) refl refl refl
  where
    case : (a b d : Bool) → eqb t 1 ≡ a → eqb t 2 ≡ b → eqb t 3 ≡ d → ⊥
    case true b d x y z = let q : Intra ≡ DcIntra = rw x at (e) in clash cc
    case false true d x y z = let q : Predictive ≡ DcIntra = rw (x, y) at (e) in clash cc
    case false false true x y z = let q : Bidirectional ≡ DcIntra = rw (x, y, z) at (e) in clash cc
    case false false false x y z = omega (arith, eqb-false t 1 x, eqb-false t 2 y, eqb-false t 3 z)

-- what such a header tells
module _ (s : List ℕ) (byte : (k : ℕ) → get_or s k 0 < 256) (n w : ℕ) (d : n ≡ bits_at s 0 32) (e : w ≡ bits_at s 32 40) where
  pub told_straight : 9 ≤ length s → usual_header n w ≡ true → value (w / 2 ^ 11 % 65536, facts_by (coding_type (w / 2 ^ 27 % 8)) Frame false false) ≡ header_told s
  unfolding header_told picture_of
  told_straight long usual = rw (← header_straight s long byte n w d e usual)

  -- and with its extension, which begins at the byte k at which the header ends
  pub both_straight : 18 ≤ length s → usual_header n w && leb (w / 2 ^ 27 % 8) 3 ≡ true → (k : ℕ) → k ≡ (extra_bit (w / 2 ^ 27 % 8) + 8) / 8
      → (m x : ℕ) → m ≡ bits_at s (8 * k) 32 → x ≡ bits_at s (8 * (k + 4)) 40 → usual_coding m x ≡ true
      → value (
        w / 2 ^ 11 % 65536,
        facts_by (coding_type (w / 2 ^ 27 % 8)) (picture_structure (x / 2 ^ 16 % 4)) (eqb (x / 2 ^ 9 % 2) 1) (eqb (x / 2 ^ 15 % 2) 1),
      )
      ≡ picture_told s
  unfolding usual_header picture_told facts_of picture_of coding_extension_of picture_header_bytes picture_header_bits
  both_straight long usual k i m x f g told =
      let t = w / 2 ^ 27 % 8 in
      let p = both_true (usual_header n w) (leb t 3) usual in
      let u = first_range t (extra_bit t) refl in
      let a = (both_true (leb 1 t) _ (both_true (eqb n 0x100) _ p.0).1).0 in
      let h = header_straight s (omega arith) byte n w d e p.0 in
      let c =
      coding_straight (drop k s) (omega (arith, length-drop k s)) (λ j. rw (get_or-drop k s j 0) (byte (k + j))) m x
      (f ∙ ap (λ (j : ℕ). bits_at s j 32) (omega arith) ∙ sym (bits_drop k s 0 32))
      (g ∙ ap (λ (j : ℕ). bits_at s j 40) (omega arith) ∙ sym (bits_drop k s 32 40)) told in
      let q = picture_of (fields_in picture_fields w 40) (fields_in vectors w 11) 0 in
      let y = coding_extension_of (fields_in motion_code_fields x 40) (fields_in coding_fields x 20) in
      let b : picture_header_bytes q ≡ k = omega arith in
      rw (picture-here s q y (sym h) (not_dc t (leb-true 1 t a) (leb-true t 3 p.1)) (rw b (sym c)))
