-- The words of a configuration: its mode, and its fields.
-- Assumes nothing.
use mathlib.Core.Path.{◌≡◌, refl}
use mathlib.Core.List.{List}
use Prim.Native.Nat.{ℕ}
use Rattle.words.specs.Words.{word_at}
use Rattle.layout.specs.Mode.{is_mode, mode_for}
use Rattle.layout.specs.Config.{has_mode, config_in}

module _ (s : List ℕ) where
  pub mode_fits_lem : has_mode s ≡ is_mode (word_at s 0)
  unfolding has_mode
  mode_fits_lem = refl

  pub config_is : config_in s
      ≡ record {
        mode = mode_for (word_at s 0);
        bit_rate_value = word_at s 1;
        vbv_buffer_size_value = word_at s 2;
        frame_rate_code = word_at s 3;
        frame_rate_extension_n = word_at s 4;
        frame_rate_extension_d = word_at s 5;
        initial_quantiser_scale_code = word_at s 6;
        b_between = word_at s 7;
        anchors_per_gop = word_at s 8;
      }
  unfolding config_in
  config_is = refl
