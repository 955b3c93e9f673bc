-- The laws of picture_coding_extension(): the ways that reading it goes, what a parsed one has, and that bytes after it do not matter.
-- Assumes nothing.
use mathlib.Core.Path.{◌≡◌, refl, ap}
use mathlib.Core.List.{List}
use mathlib.Core.Bool.{true, false, not}
use Prim.Native.Nat.{ℕ, ◌≤◌}
use lib.ListN.{length, get_or, take}
use borrow.Author.Tests.{not-false}
use Rattle.bits.specs.Bits.{pick}
use Rattle.bits.specs.Refusals.{value, refused}
use Rattle.bits.specs.Fields.{read_fields, read_header}
use Rattle.bits.specs.Answers.{in_places, fields_answer}
use Rattle.bits.specs.declared.FieldsError.{FieldsError}
use Rattle.std.specs.Prelude.{Result, Ok}
use Rattle.bits.specs.StartCodes.{start_code, extension_start_code}
use Rattle.bits.proofs.Flags.{pick_elim}
use Rattle.bits.proofs.Reading.{ParseOutcome, broken, whole, then_seen, fields_seen, header_seen, read_append, header_got, header_append, fields-done, header_done}
use Rattle.picture_header.specs.CodingExtension.{
  motion_code_fields,
  motion_codes_fit,
  coding_fields,
  coding_extension_of,
  after_codes,
  picture_coding_extension,
}
use Rattle.picture_header.specs.Stability.{CodingStays, CodingCut}
use Rattle.picture_header.specs.declared.PictureCodingExtension.{PictureCodingExtension}
use Rattle.bits.proofs.Following.{then_value, then_stays, short_cut}
use Rattle.picture_header.proofs.Following.{past_value, past_stays}

-- the same values make the same extension
coding_same : (h k vs ws : List ℕ) → ((i : ℕ) → get_or h i 0 ≡ get_or k i 0) → ((i : ℕ) → get_or vs i 0 ≡ get_or ws i 0)
    → coding_extension_of h vs ≡ coding_extension_of k ws
unfolding coding_extension_of
coding_same h k vs ws e f = simp (e, f)

codes_same : (h k : List ℕ) → ((i : ℕ) → get_or h i 0 ≡ get_or k i 0) → motion_codes_fit h ≡ motion_codes_fit k
unfolding motion_codes_fit
codes_same h k e = simp e

after_codes-same : (s h k : List ℕ) → ((i : ℕ) → get_or h i 0 ≡ get_or k i 0) → after_codes s h ≡ after_codes s k
unfolding after_codes coding_extension_of
after_codes-same s h k e = rw (e 1, e 2, e 3, e 4)

-- after a read of the f_codes: what was found stands for the values
module _ (r : Result (List ℕ) FieldsError) (s : List ℕ) {h : List ℕ} (e : fields_answer r ≡ in_places (read_header (start_code extension_start_code) motion_code_fields s)) (o : r ≡ Ok h) where
  pub coding_unfit : motion_codes_fit h ≡ false → refused 2 0 0 0 ≡ picture_coding_extension s
  unfolding picture_coding_extension pick
  coding_unfit f =
      let d = header_done r (start_code extension_start_code) motion_code_fields s e o in
      rw (d.parsed, ← codes_same h d.vs d.same, f)

  pub coding_fit : motion_codes_fit h ≡ true → after_codes s h ≡ picture_coding_extension s
  unfolding picture_coding_extension pick
  coding_fit f =
      let d = header_done r (start_code extension_start_code) motion_code_fields s e o in
      rw (d.parsed, ← codes_same h d.vs d.same, f) (after_codes-same s h d.vs d.same)

-- and after one of the rest
pub after-done : (r : Result (List ℕ) FieldsError) (s h : List ℕ) {vs : List ℕ} → fields_answer r ≡ in_places (read_fields coding_fields s 52) → r ≡ Ok vs
    → value (coding_extension_of h vs) ≡ after_codes s h
unfolding after_codes
after-done r s h {vs} e o =
    let d = fields-done r coding_fields s 52 e o in
    rw d.parsed (ap value (coding_same h h vs d.vs (λ i. refl) d.same))

-- what was read of a parsed one
pub record CodingParsed (s : List ℕ) (x : PictureCodingExtension) : Type 0 where
  pub h : List ℕ
  pub vs : List ℕ
  pub codes : read_header (start_code extension_start_code) motion_code_fields s ≡ value h
  pub fit : motion_codes_fit h ≡ true
  pub rest : read_fields coding_fields s 52 ≡ value vs
  pub made : x ≡ coding_extension_of h vs

pub coding_parsed : (s : List ℕ) (x : PictureCodingExtension) → picture_coding_extension s ≡ value x → CodingParsed s x
unfolding picture_coding_extension after_codes
coding_parsed s x e =
    let a = then_value (read_header (start_code extension_start_code) motion_code_fields s) e in
    let f = past_value 2 (not (motion_codes_fit a.0)) a.2 in
    let b = then_value (read_fields coding_fields s 52) f.1 in
    record { h = a.0; vs = b.0; codes = a.1; fit = not-false _ f.0; rest = b.1; made = cc }

-- it begins with its start code
pub coding_long : (s : List ℕ) (x : PictureCodingExtension) → picture_coding_extension s ≡ value x → 4 ≤ length s
coding_long s x e =
    let p = coding_parsed s x e in
    (header_got (start_code extension_start_code) motion_code_fields s p.h p.codes).long

pub coding_code : (s : List ℕ) (x : PictureCodingExtension) → picture_coding_extension s ≡ value x → take 4 s ≡ start_code extension_start_code
coding_code s x e =
    let p = coding_parsed s x e in
    (header_got (start_code extension_start_code) motion_code_fields s p.h p.codes).code_first

-- what stands after the bytes does not matter, unless they are too short
pub coding_append : CodingStays
unfolding picture_coding_extension after_codes
coding_append s t =
    then_stays (read_header (start_code extension_start_code) motion_code_fields s) _ _ _ (header_append (start_code extension_start_code) motion_code_fields s t) (λ h.
    past_stays 2 (not (motion_codes_fit h))
    (then_stays (read_fields coding_fields s 52) _ _ _ (read_append coding_fields s t 52) (λ vs n. refl)))

pub coding_seen : (s : List ℕ) → ParseOutcome (picture_coding_extension s)
unfolding picture_coding_extension after_codes
coding_seen s =
    then_seen (header_seen (start_code extension_start_code) motion_code_fields s) (λ h.
    pick_elim ParseOutcome (not (motion_codes_fit h)) (λ f. broken) (λ f.
    then_seen (fields_seen coding_fields s 52) (λ vs. whole _)))

-- so what is too short with more after it is too short
pub coding_short_cut : CodingCut
coding_short_cut s t = short_cut (coding_seen s) (coding_append s t)
