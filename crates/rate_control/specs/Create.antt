-- Creation of a writer (paper 01, 'A placed picture'; requests 02, 05 and 06): 12 for a mode or a range, 6 for the rate code, at a constant rate 12 for the ratio.
-- Assumes nothing.
use Rattle.std.specs.Prelude.{ℕ, [], ◌∷◌, Bool, true, false, not, ◌&&◌, leb, None}
use Rattle.bits.specs.Refusals.{Answer, value, refuse, and_then}
use Rattle.vbv.specs.Params.{params_of}
use Rattle.vbv.specs.Answers.{frame_rate}
use Rattle.vbr.specs.Variable.{new_model_at}
use Rattle.vbv.specs.declared.VbvParams.{VbvParams}
use Rattle.vbv.specs.declared.VbvCbrModel.{VbvCbrModel}
use Rattle.cadence.specs.Cadence.{opened}
use Rattle.pictures.specs.declared.VbvStandard.{VbvStandard}
use Rattle.pictures.specs.declared.VbvStandard.TheVariants.{Mpeg1, Mpeg2}
use Rattle.rate_control.specs.Targets.{targets}
use Rattle.rate_control.specs.declared.CbrConfig.{CbrConfig}
use Rattle.rate_control.specs.declared.CbrWriter.{CbrWriter}

-- from low to high
unfoldable pub within : ℕ → ℕ → ℕ → Bool
within low high v = leb low v && leb v high

-- a writer writes MPEG-2, plain or film, at a constant or a variable rate
unfoldable pub is_written : VbvStandard → Bool
is_written Mpeg1 = false
is_written Mpeg2 = true

unfoldable pub config_fits : CbrConfig → Bool
config_fits c =
    is_written c.mode.standard
    && (within 1 262143 c.bit_rate_value
    && (within 1 1023 c.vbv_buffer_size_value
    && (within 0 3 c.frame_rate_extension_n
    && (within 0 31 c.frame_rate_extension_d
    && (within 1 31 c.initial_quantiser_scale_code
    && (within 0 15 c.b_between && within 1 255 c.anchors_per_gop))))))

-- R and B by the fields, with the frame rate f
abbrev pub writer_params : CbrConfig → ℕ × ℕ → VbvParams
writer_params c f = params_of c.bit_rate_value c.vbv_buffer_size_value f

-- nothing placed, nothing pending, every kind at the given quantiser
unfoldable pub fresh_writer : CbrConfig → VbvCbrModel → CbrWriter
fresh_writer c m = record {
  model = m;
  target_bits = targets m.params c.b_between c.anchors_per_gop;
  q = c.initial_quantiser_scale_code ∷ c.initial_quantiser_scale_code ∷ c.initial_quantiser_scale_code ∷ [];
  pending = None;
  stuffing_bytes = 0;
  finished = false;
  cadence = opened c.mode.film false false;
  variable = c.mode.variable;
}

unfoldable pub create : CbrConfig → Answer CbrWriter
create c =
    refuse 12 (not (config_fits c))
    (and_then (frame_rate c.frame_rate_code c.frame_rate_extension_n c.frame_rate_extension_d) (λ f.
    and_then (new_model_at c.mode.variable (writer_params c f)) (λ m.
    value (fresh_writer c m))))
