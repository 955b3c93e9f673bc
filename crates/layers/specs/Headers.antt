-- Headers that fit before a picture (paper 01, 'A placed picture'; request 02).
-- Assumes nothing.
use Rattle.std.specs.Prelude.{ℕ, ◌*◌, ◌≡◌, ◌↔◌, List, [], ◌∷◌, Bool, true, false, not, ◌&&◌, ◌||◌, eqb}
use Rattle.bits.specs.StartCodes.{user_data_start_code, sequence_header_code, extension_start_code, group_start_code}
use Rattle.headers.specs.StartCode.{prefix_at}
use Rattle.bits.specs.Refusals.{value, and_then, or_else}
use Rattle.headers.specs.Sequence.{sequence}
use Rattle.headers.specs.declared.sequence_extension.Mpeg2Sequence.{Mpeg2Sequence}
use Rattle.vbv.specs.Answers.{frame_rate}
use Rattle.vbv.specs.Model.{params_in_range}
use Rattle.vbv.specs.Params.{rate_unit, buffer_unit, same_params}
use Rattle.vbv.specs.declared.VbvParams.{VbvParams}
use Rattle.scan.specs.declared.StartCode.{StartCode}
use Rattle.scan.specs.Codes.{codes, every, ends_prefix}
use Rattle.scan.specs.Pictures.{not_sequence}
use Rattle.pictures.specs.Sequence.{declared_by}
use Rattle.pictures.specs.declared.VbvStandard.TheVariants.{Mpeg2}

-- empty or starting 00 00 01
unfoldable pub opens_headers : List ℕ → Bool
opens_headers [] = true
opens_headers (b ∷ s) = prefix_at (b ∷ s) 0

-- user_data, sequence_header, extension, group_of_pictures (Table 6-1)
unfoldable pub header_code : ℕ → Bool
header_code c = eqb c user_data_start_code || (eqb c sequence_header_code || (eqb c extension_start_code || eqb c group_start_code))

-- parsing to this R, this B and this value of the frame rate, whatever code, n and d (request 02)
unfoldable pub declares : VbvParams → List ℕ → Bool
declares p h = or_else false (and_then (declared_by Mpeg2 h) (λ q. value (same_params p q)))

-- B3 exactly once, at byte 0
unfoldable pub sequence_first : List StartCode → Bool
sequence_first [] = false
sequence_first (c ∷ cs) = eqb c.offset 0 && (eqb c.code sequence_header_code && every not_sequence cs)

-- before the first picture that is placed, and before any other
unfoldable pub sequence_fits : VbvParams → Bool → List ℕ → Bool
sequence_fits p false h = sequence_first (codes h) && declares p h
sequence_fits p true h = every not_sequence (codes h)

unfoldable pub headers_fit : VbvParams → Bool → List ℕ → Bool
headers_fit p placed h = opens_headers h && (every header_code (codes h) && (not (ends_prefix h) && sequence_fits p placed h))

-- what the first headers show, by itself: a sequence header and extension that parse, this R, this B and a frame rate of this value, by whatever code, n and d
pub record Shows (p : VbvParams) (h : List ℕ) : Type 0 where
  pub shown : Mpeg2Sequence
  pub parsed : sequence h ≡ value shown
  pub rate_is : rate_unit * shown.bit_rate ≡ p.bit_rate
  pub buffer_is : buffer_unit * shown.vbv_buffer_size ≡ p.buffer_size_bits
  pub frames : ℕ × ℕ
  pub looked_up :
      frame_rate shown.header.frame_rate_code shown.extension.frame_rate_extension_n shown.extension.frame_rate_extension_d ≡ value frames
  pub same_value : frames.0 * p.frd ≡ p.frn * frames.1

-- what is owed: for parameters in paper 01's ranges, headers declare them exactly when they show them
abbrev pub HeadersDeclare : Type 0
HeadersDeclare = (p : VbvParams) (h : List ℕ) → params_in_range p ≡ true → (declares p h ≡ true) ↔ Shows p h
