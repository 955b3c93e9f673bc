-- The sequence extension: what a parsed one holds, that what stands after it does not matter, and both round trips.
-- Assumes nothing.
use mathlib.Core.Path.{◌≡◌, refl, ap, ◌∙◌}
use mathlib.Core.List.{List, ◌∷◌}
use mathlib.Core.Bool.{Bool, true}
use Prim.Native.Nat.{ℕ, zero, suc, ◌^◌, ◌≤◌, ◌<◌}
use native.Mathlib.Omega.{arith}
use lib.Dec.{eqb}
use lib.ListN.{get_or}
use Rattle.bits.specs.Bits.{pick}
use Rattle.bits.specs.Fields.{Field, read_header, write_header, fits_all, total}
use Rattle.bits.specs.Refusals.{value}
use Rattle.bits.specs.Answers.{places, in_places, fields_answer}
use Rattle.bits.specs.StartCodes.{start_code, extension_start_code}
use Rattle.bits.proofs.Reading.{Read, header_done, places-at, ParseOutcome, whole, then_seen, header_seen, header_got, read_range, read_length, header_append, total-none, total-more}
use Rattle.bits.proofs.Following.{then_value, then_stays, short_cut}
use Rattle.bits.proofs.Checking.{Fits, fits_none, fits_more, fits_all_lem}
use Rattle.bits.proofs.Writing.{header_read_written, header_write_read, read_fits}
use Rattle.std.specs.Prelude.{Ok}
use Rattle.headers.specs.Answers.{flag_of}
use Rattle.headers.specs.SequenceExtension.{sequence_extension_fields, chroma_format, chroma_code, extension_of, sequence_extension, extension_values}
use Rattle.headers.specs.StreamWriter.{plain_extension}
use Rattle.headers.specs.RoundTrips.{ExtensionWrittenReads, ExtensionReadWrites, PlainWrittenReads, ExtensionStays, ExtensionCut}
use Rattle.headers.proofs.Answers.{flag-bound, flag_same, flag-back, spread, spread-is}
use Rattle.headers.specs.declared.sequence_extension.ChromaFormat.{ChromaFormat}
use Rattle.headers.specs.declared.sequence_extension.ChromaFormat.TheVariants.{Yuv420, Yuv422, Yuv444}
use Rattle.headers.specs.declared.sequence_extension.Mpeg2SequenceExtension.{Mpeg2SequenceExtension}

-- the zeros after the values do not matter
pub extension_places : (vs : List ℕ) → extension_of (places vs) ≡ extension_of vs
unfolding extension_of
extension_places vs = simp places-at

-- what the code reads
pub extension_read : (s : List ℕ) {found : List ℕ} → fields_answer (Ok found) ≡ in_places (read_header (start_code extension_start_code) sequence_extension_fields s)
    → Read sequence_extension_fields (read_header (start_code extension_start_code) sequence_extension_fields s) found
extension_read s e = header_done (Ok _) (start_code extension_start_code) sequence_extension_fields _ e refl

-- a parsed extension is the one that its values make
pub extension_got : (s : List ℕ) (e : Mpeg2SequenceExtension) → sequence_extension s ≡ value e
    → (vs : List ℕ) × (read_header (start_code extension_start_code) sequence_extension_fields s ≡ value vs) × (e ≡ extension_of vs)
unfolding sequence_extension
extension_got s e q =
    let a = then_value (read_header (start_code extension_start_code) sequence_extension_fields s) q in
    (a.0, a.1, cc)

pub record ExtensionBounds (e : Mpeg2SequenceExtension) : Type 0 where
  pub profile : e.profile_and_level ≤ 255
  pub horizontal : e.horizontal_size_extension ≤ 3
  pub vertical : e.vertical_size_extension ≤ 3
  pub rate : e.bit_rate_extension ≤ 4095
  pub buffer : e.vbv_buffer_size_extension ≤ 255
  pub frame_n : e.frame_rate_extension_n ≤ 3
  pub frame_d : e.frame_rate_extension_d ≤ 31

pub extension_bounds : (s : List ℕ) (e : Mpeg2SequenceExtension) → sequence_extension s ≡ value e → ExtensionBounds e
unfolding extension_of
extension_bounds s e q =
    let g = extension_got s e q in
    let r = read_range sequence_extension_fields s 32 g.0 (header_got (start_code extension_start_code) sequence_extension_fields s g.0 g.1).fields_read in
    rw g.2 record {
      profile = (r 1).1;
      horizontal = (r 4).1;
      vertical = (r 5).1;
      rate = (r 6).1;
      buffer = (r 8).1;
      frame_n = (r 10).1;
      frame_d = (r 11).1;
    }

-- what stands after does not matter, unless the bytes are too short
pub extension_append : ExtensionStays
unfolding sequence_extension
extension_append s t =
    then_stays (read_header (start_code extension_start_code) sequence_extension_fields s) _ _ _ (header_append (start_code extension_start_code) sequence_extension_fields s t) (λ vs k. refl)

-- it is an extension, or refused with 1 or 2
pub extension_seen : (s : List ℕ) → ParseOutcome (sequence_extension s)
unfolding sequence_extension
extension_seen s = then_seen (header_seen (start_code extension_start_code) sequence_extension_fields s) (λ vs. whole _)

pub extension_short_cut : ExtensionCut
extension_short_cut s t = short_cut (extension_seen s) (extension_append s t)

-- chroma formats and their codes
chroma_same : (c : ChromaFormat) → chroma_format (chroma_code c) ≡ c
unfolding chroma_format pick
chroma_same Yuv420 = refl
chroma_same Yuv422 = refl
chroma_same Yuv444 = refl

chroma_back : (v : ℕ) → 1 ≤ v → v ≤ 3 → chroma_code (chroma_format v) ≡ v
unfolding chroma_format pick
chroma_back zero l h = omega arith
chroma_back (suc zero) l h = refl
chroma_back (suc (suc zero)) l h = refl
chroma_back (suc (suc (suc zero))) l h = refl
chroma_back (suc (suc (suc (suc v)))) l h = omega arith

values_whole : (e : Mpeg2SequenceExtension) → extension_of (extension_values e) ≡ e
unfolding extension_of extension_values
values_whole e = rw (chroma_same e.chroma_format, flag_same e.progressive_sequence, flag_same e.low_delay)

-- what was written is read again, whatever stands after
pub extension_read_back : ExtensionWrittenReads
unfolding sequence_extension
extension_read_back e t f = rw (header_read_written (start_code extension_start_code) sequence_extension_fields (extension_values e) t refl f, values_whole e)

-- what is within its bounds fits
chroma_bound : (c : ChromaFormat) → (1 ≤ chroma_code c) × (chroma_code c ≤ 3)
chroma_bound Yuv420 = omega arith
chroma_bound Yuv422 = omega arith
chroma_bound Yuv444 = omega arith

fit : {f : Field} {fs : List Field} {v : ℕ} {vs : List ℕ}
    → (f.width ≤ 32) × (v < 2 ^ f.width) × (f.low ≤ v) × (v ≤ f.high) → Fits fs vs → Fits (f ∷ fs) (v ∷ vs)
fit p r = fits_more p.0 p.1 p.2 p.3 r

pub extension_fits : (e : Mpeg2SequenceExtension) → ExtensionBounds e → fits_all sequence_extension_fields (extension_values e) ≡ true
unfolding extension_values
extension_fits e b =
    let c = chroma_bound e.chroma_format in
    let p = flag-bound e.progressive_sequence in
    let l = flag-bound e.low_delay in
    fits_all_lem
    (fit (omega arith) (fit (omega arith) (fit (omega arith) (fit (omega arith) (fit (omega arith) (fit (omega arith)
    (fit (omega arith) (fit (omega arith) (fit (omega arith) (fit (omega arith) (fit (omega arith) (fit (omega arith) fits_none))))))))))))

plain_bounds : (c : ChromaFormat) (progressive : Bool) → ExtensionBounds (plain_extension c progressive)
unfolding plain_extension
plain_bounds Yuv420 progressive = omega arith
plain_bounds Yuv422 progressive = omega arith
plain_bounds Yuv444 progressive = omega arith

pub plain_read_back : PlainWrittenReads
plain_read_back c progressive t =
    let f = extension_fits (plain_extension c progressive) (plain_bounds c progressive) in
    (f, extension_read_back (plain_extension c progressive) t f)

-- the values that were read are those of the extension that they make
values_same : (s vs : List ℕ) → read_header (start_code extension_start_code) sequence_extension_fields s ≡ value vs → extension_values (extension_of vs) ≡ vs
unfolding extension_values extension_of
values_same s vs e =
    let f = (header_got (start_code extension_start_code) sequence_extension_fields s vs e).fields_read in
    let r = read_range sequence_extension_fields s 32 vs f in
    let e0 : 1 ≡ get_or vs 0 0 = omega (arith, r 0) in
    let e2 : flag_of (eqb (get_or vs 2 0) 1) ≡ get_or vs 2 0 = flag-back (get_or vs 2 0) (r 2).1 in
    let e3 : chroma_code (chroma_format (get_or vs 3 0)) ≡ get_or vs 3 0 = chroma_back (get_or vs 3 0) (r 3).0 (r 3).1 in
    let e7 : 1 ≡ get_or vs 7 0 = omega (arith, r 7) in
    let e9 : flag_of (eqb (get_or vs 9 0) 1) ≡ get_or vs 9 0 = flag-back (get_or vs 9 0) (r 9).1 in
    let x : extension_values (extension_of vs) ≡ spread 12 (λ k. get_or vs k 0) = cc in
    x ∙ spread-is 12 vs (read_length sequence_extension_fields s 32 vs f)

-- what was read is written again, byte for byte
pub extension_write_back : ExtensionReadWrites
extension_write_back s e b q =
    let g = extension_got s e q in
    let n : total sequence_extension_fields ≡ 48 = simp (total-more, total-none) in
    let v : extension_values e ≡ g.0 = ap extension_values g.2 ∙ values_same s g.0 g.1 in (
      rw v (read_fits sequence_extension_fields s 32 g.0 (header_got (start_code extension_start_code) sequence_extension_fields s g.0 g.1).fields_read),
      ap (write_header (start_code extension_start_code) sequence_extension_fields) v
          ∙ rw n at (header_write_read (start_code extension_start_code) sequence_extension_fields s g.0 b g.1 (λ k l h. omega arith)),
    )
