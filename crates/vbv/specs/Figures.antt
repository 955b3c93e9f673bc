-- The figures of paper 01 that are marked P and speak of the model and the patch: one joint statement about the definitions.
-- R = 1,000,000, B = 327,680, 25/1 unless said. Assumes nothing.
use Rattle.std.specs.Prelude.{◌≡◌, [], ◌∷◌, ℕ, ◌*◌}
use Rattle.vbv.specs.Annex.{unit}
use Rattle.bits.specs.Refusals.{Answer, value, and_then, number}
use Rattle.vbv.specs.Model.{delivered, new_model, start_model, delay_for_picture, remove_picture}
use Rattle.vbv.specs.Params.{params_of}
use Rattle.vbv.specs.Patch.{patched}
use Rattle.vbv.specs.declared.RemovalInterval.TheVariants.{Frame}
use Rattle.vbv.specs.declared.VbvParams.{VbvParams}
use Rattle.vbv.specs.declared.VbvCbrModel.{VbvCbrModel}

abbrev pub at25 : ℕ → ℕ → VbvParams
at25 r b = record { bit_rate = r; buffer_size_bits = b; frn = 25; frd = 1 }

abbrev pub ntsc : VbvParams
ntsc = record { bit_rate = 1000000; buffer_size_bits = 327680; frn = 30000; frd = 1001 }

-- a model started with a delay at a position
abbrev pub started_model : ℕ → ℕ → ℕ → ℕ → Answer VbvCbrModel
started_model r b delay position = and_then (new_model (at25 r b)) (λ m. start_model m delay position)

abbrev pub and_remove : ℕ → Answer VbvCbrModel → Answer VbvCbrModel
and_remove end a = and_then a (λ m. remove_picture m end Frame)

abbrev pub and_delay : ℕ → Answer VbvCbrModel → Answer ℕ
and_delay position a = and_then a (λ m. delay_for_picture m position)

-- the units delivered at the pending removal
abbrev pub and_delivered : Answer VbvCbrModel → Answer ℕ
and_delivered a = and_then a (λ m. value (delivered m))

-- by the numbers of the answers: 0 is acceptance
pub record ModelFigures : Type 0 where
  pub fields : params_of 2500 20 (25, 1) ≡ at25 1000000 327680
  pub end_246755 : number (and_remove 246755 (started_model 1000000 327680 22118 1000)) ≡ 0
  pub end_246756 : number (and_remove 246756 (started_model 1000000 327680 22118 1000)) ≡ 10
  pub delay_at_100032 : and_delay 100032 (and_remove 100000 (started_model 1000000 327680 22118 1000)) ≡ value 16805
  pub delay_29491 : number (and_remove 0 (started_model 1000000 327680 29491 0)) ≡ 0
  pub delay_29492 : number (and_remove 0 (started_model 1000000 327680 29492 0)) ≡ 9
  pub rate_22400 : number (new_model (at25 22400 16384)) ≡ 12
  pub rate_22800 : number (new_model (at25 22800 16384)) ≡ 0
  pub half_up : and_delay 7 (started_model 180000 16384 0 8) ≡ value 1
  pub three_frames : and_delivered (and_remove 0 (and_remove 0 (and_remove 0 (and_then (new_model ntsc) (λ m. start_model m 0 0))))) ≡ value (100100 * unit ntsc)
  pub delay_patched : patched (0x00 ∷ 0x00 ∷ 0x01 ∷ 0x00 ∷ 0x00 ∷ 0x0F ∷ 0xFF ∷ 0xF8 ∷ []) 22118 ≡ 0x00 ∷ 0x00 ∷ 0x01 ∷ 0x00 ∷ 0x00 ∷ 0x0A ∷ 0xB3 ∷ 0x30 ∷ []
