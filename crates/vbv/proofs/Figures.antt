-- The figures hold.
use mathlib.Core.Path.{◌≡◌, refl, sym, ◌∙◌}
use mathlib.Core.Bool.{true}
use mathlib.Core.List.{List, [], ◌∷◌}
use Prim.Native.Nat.{ℕ, zero, suc, ◌<◌}
use lib.Dec.{lit<, lit≤}
use lib.ListN.{get_or}
use Rattle.bits.specs.Bits.{pick}
use Rattle.bits.specs.StartCodes.{start_code, picture_start_code}
use Rattle.bits.proofs.Reading.{same_self}
use Rattle.vbv.specs.Annex.{unit, first_delivered, gain, overflows, beyond, expected_delay}
use Rattle.vbv.specs.Model.{params_in_range, ratio_fits, params_fit, delivered, counts_fit, model_fits, at_delivered, after_removal, next_delivered, new_model, start_model, delay_for_picture, end_fits, remove_picture}
use Rattle.vbv.proofs.Params.{params_are}
use Rattle.vbv.specs.Patch.{starts_picture}
use Rattle.vbv.specs.Figures.{ModelFigures}
use Rattle.vbv.proofs.Patching.{starts_picture_is, patched_bytes}

-- the header whose delay is patched
abbrev patched_header : List ℕ
patched_header = 0x00 ∷ 0x00 ∷ 0x01 ∷ 0x00 ∷ 0x00 ∷ 0x0F ∷ 0xFF ∷ 0xF8 ∷ []

patched_header_bytes : (k : ℕ) → get_or patched_header k 0 < 256
patched_header_bytes zero = lit< tt
patched_header_bytes (suc zero) = lit< tt
patched_header_bytes (suc (suc zero)) = lit< tt
patched_header_bytes (suc (suc (suc zero))) = lit< tt
patched_header_bytes (suc (suc (suc (suc zero)))) = lit< tt
patched_header_bytes (suc (suc (suc (suc (suc zero))))) = lit< tt
patched_header_bytes (suc (suc (suc (suc (suc (suc zero)))))) = lit< tt
patched_header_bytes (suc (suc (suc (suc (suc (suc (suc zero))))))) = lit< tt
patched_header_bytes (suc (suc (suc (suc (suc (suc (suc (suc k)))))))) = lit< tt

header_starts : starts_picture patched_header ≡ true
header_starts = sym (starts_picture_is patched_header (lit≤ tt)) ∙ same_self (start_code picture_start_code)

pub model-figures : ModelFigures
unfolding pick unit first_delivered gain overflows beyond expected_delay params_in_range ratio_fits params_fit delivered counts_fit model_fits at_delivered after_removal next_delivered new_model start_model delay_for_picture end_fits remove_picture
model-figures = record {
  fields = params_are 2500 20 25 1;
  end_246755 = refl;
  end_246756 = refl;
  delay_at_100032 = refl;
  delay_29491 = refl;
  delay_29492 = refl;
  rate_22400 = refl;
  rate_22800 = refl;
  half_up = refl;
  three_frames = refl;
  delay_patched = patched_bytes patched_header 22118 header_starts patched_header_bytes (lit< tt);
}
