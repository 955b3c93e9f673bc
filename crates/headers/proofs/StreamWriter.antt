-- Writing a sequence header: a matrix after its flag, and the whole as the fixed fields gone on with.
-- Assumes nothing.
use mathlib.Core.Path.{◌≡◌, refl, ◌∙◌}
use mathlib.Core.List.{List, [], ◌∷◌, ◌++◌, append-nil}
use mathlib.Core.Bool.{Bool, true, false}
use Prim.Native.Nat.{ℕ, zero, suc, ◌+◌, ◌*◌, ◌/◌, ◌≤◌, ◌<◌, zero-le}
use native.Mathlib.Omega.{arith}
use lib.Dec.{lit<}
use lib.ListN.{length}
use Rattle.bits.specs.Bits.{digits, bit_list, append_bits}
use Rattle.bits.specs.Fields.{any_value, field_bits, write_header, fits_all, total}
use Rattle.bits.specs.Answers.{over, wrote_bits, write_answer, write_result}
use Rattle.bits.specs.StartCodes.{start_code, sequence_header_code}
use Rattle.bits.proofs.Laws.{length_digits, bit_list-length}
use Rattle.bits.proofs.Reading.{there_is, total-none, total-more}
use Rattle.bits.proofs.Appending.{Below, digit_bound, append-append}
use Rattle.bits.proofs.Checking.{Fits, fits_none, fits_more, fits_all_lem, fits-length}
use Rattle.bits.proofs.Putting.{total-append, field_bits-bytes, wrote_there}
use Rattle.bits.proofs.Writing.{write_unfit, write_full}
use Rattle.bits.proofs.Joining.{field_bits-more, field_bits-none, fits-append, fits-bytes, write_on, write_over}
use Rattle.headers.specs.Answers.{header_answer, flag_of}
use Rattle.headers.specs.QuantMatrix.{load_flag, matrix_bytes, matrix_fields, matrix_values}
use Rattle.headers.specs.SequenceHeader.{sequence_header_fields}
use Rattle.headers.specs.SequenceExtension.{extension_values, chroma_code}
use Rattle.headers.specs.StreamWriter.{params_fields, base_values, params_values, profile_and_level, plain_extension}
use Rattle.headers.specs.declared.sequence_extension.ChromaFormat.{ChromaFormat}
use Rattle.std.specs.Prelude.{Option, Some, None, Result, Ok, Err, IfSome}
use Rattle.headers.specs.declared.Error.{Error}
use Rattle.headers.specs.declared.Error.TheVariants.{FieldToWrite, ShortOutput}
use Rattle.headers.specs.declared.stream_writer.SequenceHeaderParams.{SequenceHeaderParams}
use Rattle.headers.proofs.QuantMatrix.{matrix_count, matrix_total}

-- a matrix with its flag
pub matrix_most : (m : Option (List ℕ)) → total (matrix_fields m) ≤ 513
matrix_most (Some bytes) = omega (arith, matrix_total (Some bytes))
matrix_most None = omega (arith, matrix_total None)

-- a matrix as the code holds it
abbrev pub Held : Option (List ℕ) → Type 0
Held m = IfSome m (λ bytes. (length bytes ≡ 64) × Below 256 bytes)

pub matrix_fits : (m : Option (List ℕ)) → Held m → Fits (matrix_fields m) (matrix_values m)
unfolding matrix_fields matrix_values matrix_bytes
matrix_fits (Some bytes) h = fits_more {f = any_value 1} {v = 1} (omega arith) (omega arith) zero-le (omega arith) (fits-bytes 64 bytes h.0 h.1)
matrix_fits None h = fits_more {f = any_value 1} {v = 0} (omega arith) (omega arith) zero-le (omega arith) fits_none

-- the ways of `append_matrix`
module _ (s : List ℕ) (i : ℕ) {o : List ℕ} where
  flagged : (v : ℕ) → i + 1 ≤ 8 * length s → o ≡ wrote_bits s i 1 v → o ≡ append_bits s i (digits 1 v)
  flagged v h e = e ∙ wrote_there s i 1 v (there_is s i 1 (omega arith) (omega arith))

  pub appended_flag : i + total (matrix_fields None) ≤ 8 * length s → o ≡ wrote_bits s i 1 0
      → (i + 1 ≡ i + total (matrix_fields None)) × (o ≡ append_bits s i (field_bits (matrix_fields None) (matrix_values None)))
  unfolding matrix_fields matrix_values
  appended_flag h e =
      let t = matrix_total None in
      (omega arith, flagged 0 (omega arith) e ∙ rw (field_bits-more (any_value 1) [] 0 [], field_bits-none [], append-nil))

  pub appended_bytes : {q : List ℕ} (bytes : List ℕ) → length bytes ≡ 64 → i + total (matrix_fields (Some bytes)) ≤ 8 * length s → o ≡ wrote_bits s i 1 1
      → q ≡ append_bits o (i + 1) (bit_list bytes)
      → (i + 513 ≡ i + total (matrix_fields (Some bytes))) × (q ≡ append_bits s i (field_bits (matrix_fields (Some bytes)) (matrix_values (Some bytes))))
  unfolding matrix_fields matrix_values matrix_bytes
  appended_bytes bytes l h e p =
      let t = matrix_total (Some bytes) in
      let d : length (digits 1 1) ≡ 1 = length_digits 1 1 in
      let b : length (bit_list bytes) ≡ 512 = bit_list-length bytes ∙ rw l in
      let a = append-append s i (digits 1 1) (bit_list bytes) (digit_bound 1 1) (omega arith) in
      (omega arith, p ∙ rw (flagged 1 (omega arith) e, field_bits-more (any_value 1) matrix_bytes 1 bytes, field_bits-bytes 64 bytes l) (rw d at (a)))

pub total_fixed : total sequence_header_fields ≡ 62
total_fixed = simp (total-more, total-none)

code_small : Below 256 (start_code sequence_header_code)
code_small zero = lit< tt
code_small (suc zero) = lit< tt
code_small (suc (suc zero)) = lit< tt
code_small (suc (suc (suc zero))) = lit< tt
code_small (suc (suc (suc (suc k)))) = lit< tt

abbrev intra : SequenceHeaderParams → Option (List ℕ)
intra p = p.intra_quantiser_matrix

abbrev non_intra : SequenceHeaderParams → Option (List ℕ)
non_intra p = p.non_intra_quantiser_matrix

pub params-total : (p : SequenceHeaderParams) → total (params_fields p) ≡ 62 + total (matrix_fields (intra p)) + total (matrix_fields (non_intra p))
unfolding params_fields
params-total p =
    omega (
      arith,
      total-append sequence_header_fields (matrix_fields (intra p) ++ matrix_fields (non_intra p)),
      total-append (matrix_fields (intra p)) (matrix_fields (non_intra p)),
      total_fixed,
    )

-- the fixed fields, gone on with at bit 94
pub params-laid : (p : SequenceHeaderParams) (out : List ℕ) {m q r : List ℕ}
    → IfSome (intra p) (λ bytes. length bytes ≡ 64) → IfSome (non_intra p) (λ bytes. length bytes ≡ 64) → fits_all sequence_header_fields (base_values p) ≡ true
    → 32 + total (params_fields p) ≤ 8 * length out
    → m ≡ write_result (start_code sequence_header_code) sequence_header_fields (base_values p) out
    → q ≡ append_bits m 94 (field_bits (matrix_fields (intra p)) (matrix_values (intra p)))
    → r ≡ append_bits q (94 + total (matrix_fields (intra p))) (field_bits (matrix_fields (non_intra p)) (matrix_values (non_intra p)))
    → r ≡ over (write_header (start_code sequence_header_code) (params_fields p) (params_values p)) out
unfolding params_fields params_values base_values
params-laid p out {q = q} a b f h x y z =
    let i = matrix_fields (intra p) in
    let v = matrix_values (intra p) in
    let fs = sequence_header_fields in
    let vs = base_values p in
    let t = params-total p in
    let n = matrix_count (intra p) a in
    let s : 94 ≡ 32 + total fs = omega (arith, total_fixed) in
    let u : 94 + total i ≡ 32 + total (fs ++ i) = omega (arith, total_fixed, total-append fs i) in
    let w = (write_over (start_code sequence_header_code) fs vs out {n = 12} refl f (omega (arith, total_fixed)) (omega arith) refl).1 in
    let first : q ≡ over (write_header (start_code sequence_header_code) (fs ++ i) (vs ++ v)) out =
    y ∙ rw (x, ← w, s) (write_on (start_code sequence_header_code) fs vs out i v code_small refl refl n (omega arith)) in
    z ∙ rw (first, u)
    (write_on (start_code sequence_header_code) (fs ++ i) (vs ++ v) out _ (matrix_values (non_intra p)) code_small refl (omega arith) (matrix_count (non_intra p) b) (omega arith))

-- what `write_sequence_header` promises of its answer and of the bytes that it leaves
abbrev HeaderPromised : SequenceHeaderParams → List ℕ → Result ℕ Error → List ℕ → Type 0
HeaderPromised p out r o =
    (header_answer r ≡ write_answer (start_code sequence_header_code) (params_fields p) (params_values p) out)
    × (o ≡ write_result (start_code sequence_header_code) (params_fields p) (params_values p) out)

pub params-unfit : (p : SequenceHeaderParams) (out : List ℕ) → fits_all sequence_header_fields (base_values p) ≡ false
    → HeaderPromised p out (Err FieldToWrite) out
unfolding params_fields params_values base_values
params-unfit p out f =
    write_unfit (start_code sequence_header_code) (params_fields p) (params_values p) out (fits-append sequence_header_fields _ (base_values p) _ refl ∙ rw f)

-- a header that fits, of k bytes
pub record Sized (p : SequenceHeaderParams) (k : ℕ) : Type 0 where
  pub intra_held : Held (intra p)
  pub non_intra_held : Held (non_intra p)
  pub fit : fits_all sequence_header_fields (base_values p) ≡ true
  pub count : k ≡ 12 + 64 * load_flag (intra p) + 64 * load_flag (non_intra p)

pub params-bytes : {p : SequenceHeaderParams} {k : ℕ} → Sized p k → k ≡ 4 + (total (params_fields p) + 7) / 8
params-bytes {p} d = omega (arith, d.count, params-total p, matrix_total (intra p), matrix_total (non_intra p))

module _ {p : SequenceHeaderParams} {k : ℕ} (d : Sized p k) (out : List ℕ) where
  params_fit : fits_all (params_fields p) (params_values p) ≡ true
  unfolding params_fields params_values base_values
  params_fit =
      let i = matrix_fits (intra p) d.intra_held in
      let n = matrix_fits (non_intra p) d.non_intra_held in
      fits-append sequence_header_fields _ (base_values p) _ refl
      ∙ rw (d.fit, fits-append (matrix_fields (intra p)) _ (matrix_values (intra p)) _ (fits-length i)) (rw (fits_all_lem i, fits_all_lem n))

  pub params-full : length out < k → HeaderPromised p out (Err ShortOutput) out
  params-full h =
      write_full (start_code sequence_header_code) (params_fields p) (params_values p) out refl params_fit (omega (arith, params-bytes d))

  pub params-written : {r : List ℕ} → k ≤ length out → r ≡ over (write_header (start_code sequence_header_code) (params_fields p) (params_values p)) out
      → HeaderPromised p out (Ok k) r
  params-written h x =
      write_over (start_code sequence_header_code) (params_fields p) (params_values p) out refl params_fit (params-bytes d) h x

-- the values that the code lists
pub base_values_are : (p : SequenceHeaderParams) → base_values p
    ≡ p.horizontal_size
    ∷ p.vertical_size
    ∷ p.aspect_ratio_code
    ∷ p.frame_rate_code
    ∷ p.bit_rate_value
    ∷ 1
    ∷ p.vbv_buffer_size_value
    ∷ 0
    ∷ []
unfolding base_values
base_values_are p = refl

pub extension_values_are : (c : ChromaFormat) (progressive : Bool) → extension_values (plain_extension c progressive)
    ≡ 1 ∷ profile_and_level c ∷ flag_of progressive ∷ chroma_code c ∷ 0 ∷ 0 ∷ 0 ∷ 1 ∷ 0 ∷ 0 ∷ 0 ∷ 0 ∷ []
unfolding extension_values plain_extension
extension_values_are c progressive = refl
