-- A written sequence header parses to the fields given, and a parsed one with constrained_parameters_flag 0 writes back to its own bytes.
-- Assumes nothing.
use mathlib.Core.Path.{◌≡◌, refl, sym, ap, ◌∙◌}
use mathlib.Core.List.{List, ◌++◌}
use mathlib.Core.Bool.{false}
use Prim.Native.Nat.{ℕ, ◌+◌, ◌*◌, ◌/◌}
use native.Mathlib.Omega.{arith}
use lib.Dec.{eqb}
use lib.ListN.{get_or, take}
use borrow.Author.Tests.{eqb-true, eqb-false}
use Rattle.bits.specs.Fields.{Field, read_fields, write_header, total}
use Rattle.bits.specs.Refusals.{value}
use Rattle.bits.specs.StartCodes.{start_code, sequence_header_code}
use Rattle.bits.proofs.Reading.{read_both, read_split, read_range, read_length, header_got, header_of_lem}
use Rattle.bits.proofs.Appending.{Below}
use Rattle.bits.proofs.Putting.{total-append}
use Rattle.bits.proofs.Writing.{header_read_written, header_write_read, read_fits}
use Rattle.bits.proofs.Flags.{pick_elim}
use Rattle.headers.specs.QuantMatrix.{read_matrix, load_flag, matrix_fields, matrix_values}
use Rattle.headers.specs.SequenceHeader.{sequence_header_fields, aspect_ratio, header_of, sequence_header_bytes}
use Rattle.headers.specs.StreamWriter.{params_fields, base_values, params_values, header_of_params, aspect_code, header_params}
use Rattle.headers.specs.RoundTrips.{sequence_written, Writable, WrittenReads, ReadWrites}
use Rattle.std.specs.Prelude.{Option}
use Rattle.headers.specs.declared.sequence_header.AspectRatio.{AspectRatio}
use Rattle.headers.proofs.Answers.{spread, spread-is}
use Rattle.headers.proofs.QuantMatrix.{matrix_back, matrix_read_back, matrix_count, matrix_places, matrix_total}
use Rattle.headers.proofs.SequenceHeader.{fixed_fields, header_parsed, header_parts}
use Rattle.headers.proofs.StreamWriter.{total_fixed}

-- what was written is read again, whatever stands after
pub sequence_read_back : WrittenReads
unfolding params_fields params_values base_values header_of header_of_params
sequence_read_back p t w =
    let i = p.intra_quantiser_matrix in
    let n = p.non_intra_quantiser_matrix in
    let s = write_header (start_code sequence_header_code) (params_fields p) (params_values p) ++ t in
    let r = header_got _ _ s _ (header_read_written (start_code sequence_header_code) (params_fields p) (params_values p) t refl w.fields_fit) in
    let a = read_split sequence_header_fields (matrix_fields i ++ matrix_fields n) s 32 (base_values p) (matrix_values i ++ matrix_values n) refl r.fields_read in
    let b = read_split (matrix_fields i) (matrix_fields n) s (32 + total sequence_header_fields) (matrix_values i) (matrix_values n) (matrix_count i w.intra_places) a.1 in
    let x : 32 + total sequence_header_fields ≡ 94 = omega (arith, total_fixed) in
    let y : 32 + total sequence_header_fields + total (matrix_fields i) ≡ 95 + 512 * load_flag i = omega (arith, total_fixed, matrix_total i) in
    header_parsed s (base_values p) (header_of_lem record { long = r.long; code_first = r.code_first; fields_read = a.0 })
    i (matrix_read_back s 94 i (rw x at b.0)) n (matrix_read_back s _ n (rw y at b.1))

-- each code is that of its aspect ratio
aspect_back : (c : ℕ) → aspect_code (aspect_ratio c) ≡ c
unfolding aspect_ratio
aspect_back c =
    let back : AspectRatio → Type 0 = λ x. aspect_code x ≡ c in
    pick_elim back (eqb c 1) (λ e. sym (eqb-true c 1 e)) λ a.
    pick_elim back (eqb c 2) (λ e. sym (eqb-true c 2 e)) λ b.
    pick_elim back (eqb c 3) (λ e. sym (eqb-true c 3 e)) λ d.
    pick_elim back (eqb c 4) (λ e. sym (eqb-true c 4 e)) λ e. refl

-- the fixed fields of what was read
fixed_back : (s h : List ℕ) (i n : Option (List ℕ)) → fixed_fields s ≡ value h → eqb (get_or h 7 0) 1 ≡ false
    → base_values (header_params (header_of h i n)) ≡ h
unfolding base_values header_params header_of
fixed_back s h i n e c =
    let f = (header_got (start_code sequence_header_code) sequence_header_fields s h e).fields_read in
    let r = read_range sequence_header_fields s 32 h f in
    let e2 : aspect_code (aspect_ratio (get_or h 2 0)) ≡ get_or h 2 0 = aspect_back (get_or h 2 0) in
    let e5 : 1 ≡ get_or h 5 0 = omega (arith, r 5) in
    let e7 : 0 ≡ get_or h 7 0 = omega (arith, r 7, eqb-false (get_or h 7 0) 1 c) in
    let x : base_values (header_params (header_of h i n)) ≡ spread 8 (λ k. get_or h k 0) = cc in
    x ∙ spread-is 8 h (read_length sequence_header_fields s 32 h f)

-- what was read is written again, byte for byte
module _ (s h : List ℕ) (i n : Option (List ℕ)) (b : Below 256 s) (e : fixed_fields s ≡ value h) (f : read_matrix s 94 ≡ value i)
    (g : read_matrix s (95 + 512 * load_flag i) ≡ value n) (c : eqb (get_or h 7 0) 1 ≡ false) where
  abbrev fs : List Field
  fs = sequence_header_fields ++ (matrix_fields i ++ matrix_fields n)

  -- the whole table was read
  all_read : read_fields fs s 32 ≡ value (h ++ (matrix_values i ++ matrix_values n))
  all_read =
      let x : 94 ≡ 32 + total sequence_header_fields = omega (arith, total_fixed) in
      let y : 95 + 512 * load_flag i ≡ 32 + total sequence_header_fields + total (matrix_fields i) = omega (arith, total_fixed, matrix_total i) in
      let m = read_both (matrix_fields i) (matrix_fields n) s _ (matrix_values i) (matrix_values n) (rw x at (matrix_back s 94 i f)) (rw y at (matrix_back s _ n g)) in
      read_both sequence_header_fields _ s 32 h (matrix_values i ++ matrix_values n) (header_got (start_code sequence_header_code) sequence_header_fields s h e).fields_read m

  writable : Writable (header_params (header_of h i n))
  unfolding params_fields params_values header_params header_of
  writable =
      record {
        fields_fit = rw (fixed_back s h i n e c) (read_fits fs s 32 _ all_read);
        intra_places = matrix_places s 94 i f;
        non_intra_places = matrix_places s _ n g;
      }

  written : sequence_written (header_params (header_of h i n)) ≡ take (sequence_header_bytes (header_of h i n)) s
  unfolding params_fields params_values header_params header_of sequence_header_bytes
  written =
      let r = header_got (start_code sequence_header_code) sequence_header_fields s h e in
      let z : total fs ≡ 64 + 512 * load_flag i + 512 * load_flag n =
      omega (
        arith,
        total-append sequence_header_fields (matrix_fields i ++ matrix_fields n),
        total-append (matrix_fields i) (matrix_fields n),
        total_fixed,
        matrix_total i,
        matrix_total n,
      ) in
      let w : 4 + (total fs + 7) / 8 ≡ sequence_header_bytes (header_of h i n) = omega arith in
      let q = header_of_lem record { long = r.long; code_first = r.code_first; fields_read = all_read } in
      rw (fixed_back s h i n e c)
      (header_write_read (start_code sequence_header_code) fs s (h ++ (matrix_values i ++ matrix_values n)) b q (λ k l u. absurd (omega arith)) ∙ ap (λ (k : ℕ). take k s) w)

pub sequence_write_back : ReadWrites
unfolding header_of
sequence_write_back s h b e c =
    let p = header_parts s h e in
    rw p.header_is (
      writable s p.fields p.intra p.non_intra b p.fields_read p.intra_read p.non_intra_read (rw p.header_is at (c)),
      written s p.fields p.intra p.non_intra b p.fields_read p.intra_read p.non_intra_read (rw p.header_is at (c)),
    )
