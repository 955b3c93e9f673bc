-- The sequence header: the ways that parsing goes, and what its definition says of a parsed one.
-- Assumes nothing.
use mathlib.Core.Path.{◌≡◌, refl}
use mathlib.Core.List.{List}
use Prim.Native.Nat.{ℕ, ◌+◌, ◌*◌, ◌≤◌}
use lib.ListN.{get_or}
use Rattle.std.specs.Prelude.{Option, Ok}
use Rattle.bits.specs.Refusals.{Answer, value, refused}
use Rattle.bits.specs.Fields.{read_header}
use Rattle.bits.specs.Answers.{in_places, fields_answer}
use Rattle.bits.specs.StartCodes.{start_code, sequence_header_code}
use Rattle.bits.proofs.Reading.{Read, header_done, ParseOutcome, whole, then_seen, header_seen, read_range, header_got, header_append}
use Rattle.bits.proofs.Following.{then_value, then_stays, short_cut}
use Rattle.headers.specs.QuantMatrix.{read_matrix, load_flag}
use Rattle.headers.specs.SequenceHeader.{sequence_header_fields, header_of, sequence_header}
use Rattle.headers.specs.RoundTrips.{SequenceHeaderStays, SequenceHeaderCut}
use Rattle.headers.specs.declared.sequence_header.Mpeg2SequenceHeader.{Mpeg2SequenceHeader}
use Rattle.headers.proofs.QuantMatrix.{matrix_found, matrix_stays}

-- the fields before the matrices
abbrev pub fixed_fields : List ℕ → Answer (List ℕ)
fixed_fields s = read_header (start_code sequence_header_code) sequence_header_fields s

-- what the code reads
pub header_read : (s : List ℕ) {found : List ℕ} → fields_answer (Ok found) ≡ in_places (fixed_fields s) → Read sequence_header_fields (fixed_fields s) found
header_read s e = header_done (Ok _) (start_code sequence_header_code) sequence_header_fields _ e refl

pub record HeaderFound (found : List ℕ) : Type 0 where
  pub width : get_or found 0 0 ≤ 4095
  pub height : get_or found 1 0 ≤ 4095
  pub aspect : get_or found 2 0 ≤ 15
  pub code : get_or found 3 0 ≤ 15
  pub buffer : get_or found 6 0 ≤ 1023

pub header_found : (s : List ℕ) {found : List ℕ} → fields_answer (Ok found) ≡ in_places (fixed_fields s) → HeaderFound found
header_found s e =
    let r = header_read s e in
    record { width = r.high 0; height = r.high 1; aspect = r.high 2; code = r.high 3; buffer = r.high 6 }

-- the ways that parsing goes
module _ (s : List ℕ) where
  pub fields-refused : {n p c x : ℕ} → fixed_fields s ≡ refused n p c x → sequence_header s ≡ refused n p c x
  unfolding sequence_header
  fields-refused e = rw e

  module _ (h : List ℕ) (e : fixed_fields s ≡ value h) where
    pub intra_refused : {n p c x : ℕ} → read_matrix s 94 ≡ refused n p c x → sequence_header s ≡ refused n p c x
    unfolding sequence_header
    intra_refused f = rw (e, f)

    module _ (intra : Option (List ℕ)) (f : read_matrix s 94 ≡ value intra) where
      pub non_intra_refused : {n p c x : ℕ} → read_matrix s (95 + 512 * load_flag intra) ≡ refused n p c x → sequence_header s ≡ refused n p c x
      unfolding sequence_header
      non_intra_refused g = rw (e, f, g)

      pub header_parsed : (non_intra : Option (List ℕ)) → read_matrix s (95 + 512 * load_flag intra) ≡ value non_intra
          → sequence_header s ≡ value (header_of h intra non_intra)
      unfolding sequence_header
      header_parsed non_intra g = rw (e, f, g)

-- what a parsed header is
pub record Parts (s : List ℕ) (h : Mpeg2SequenceHeader) : Type 0 where
  pub fields : List ℕ
  pub intra : Option (List ℕ)
  pub non_intra : Option (List ℕ)
  pub fields_read : fixed_fields s ≡ value fields
  pub intra_read : read_matrix s 94 ≡ value intra
  pub non_intra_read : read_matrix s (95 + 512 * load_flag intra) ≡ value non_intra
  pub header_is : h ≡ header_of fields intra non_intra

pub header_parts : (s : List ℕ) (h : Mpeg2SequenceHeader) → sequence_header s ≡ value h → Parts s h
unfolding sequence_header
header_parts s h e =
    let a = then_value (fixed_fields s) e in
    let b = then_value (read_matrix s 94) a.2 in
    let c = then_value (read_matrix s (95 + 512 * load_flag b.0)) b.2 in
    record {
      fields = a.0;
      intra = b.0;
      non_intra = c.0;
      fields_read = a.1;
      intra_read = b.1;
      non_intra_read = c.1;
      header_is = cc;
    }

-- the bounds of its fields
pub record HeaderBounds (h : Mpeg2SequenceHeader) : Type 0 where
  pub width_low : 1 ≤ h.width
  pub width_high : h.width ≤ 4095
  pub height_low : 1 ≤ h.height
  pub height_high : h.height ≤ 4095
  pub code_low : 1 ≤ h.frame_rate_code
  pub code_high : h.frame_rate_code ≤ 15
  pub rate_low : 1 ≤ h.bit_rate
  pub rate_high : h.bit_rate ≤ 262143
  pub buffer_high : h.vbv_buffer_size ≤ 1023

pub sequence_header_bounds : (s : List ℕ) (h : Mpeg2SequenceHeader) → sequence_header s ≡ value h → HeaderBounds h
unfolding header_of
sequence_header_bounds s h a =
    let p = header_parts s h a in
    let r = read_range sequence_header_fields s 32 p.fields (header_got (start_code sequence_header_code) sequence_header_fields s p.fields p.fields_read).fields_read in
    rw p.header_is (record {
      width_low = (r 0).0;
      width_high = (r 0).1;
      height_low = (r 1).0;
      height_high = (r 1).1;
      code_low = (r 3).0;
      code_high = (r 3).1;
      rate_low = (r 4).0;
      rate_high = (r 4).1;
      buffer_high = (r 6).1;
    })

-- it is a header, or refused with 1 or 2
pub sequence_header_seen : (s : List ℕ) → ParseOutcome (sequence_header s)
unfolding sequence_header
sequence_header_seen s =
    then_seen (header_seen (start_code sequence_header_code) sequence_header_fields s) (λ h.
    then_seen (matrix_found s 94) (λ intra.
    then_seen (matrix_found s (95 + 512 * load_flag intra)) (λ non_intra.
    whole _)))

-- what stands after the bytes does not matter, unless they are too short
pub sequence_header-append : SequenceHeaderStays
unfolding sequence_header
sequence_header-append s t =
    then_stays (fixed_fields s) _ _ _ (header_append (start_code sequence_header_code) sequence_header_fields s t) (λ h.
    then_stays (read_matrix s 94) _ _ _ (matrix_stays s 94 t) (λ intra.
    then_stays (read_matrix s (95 + 512 * load_flag intra)) _ _ _ (matrix_stays s (95 + 512 * load_flag intra) t) (λ non_intra k. refl)))

-- so what is too short with more after it is too short
pub sequence_header-short_cut : SequenceHeaderCut
sequence_header-short_cut s t = short_cut (sequence_header_seen s) (sequence_header-append s t)
