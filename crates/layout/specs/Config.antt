-- What a writer is created with, as bytes (docs/LAYOUT.md, 'A configuration'): nine words of 64 bits, so that no value is cut before it is tested.
-- Assumes nothing.
use Rattle.std.specs.Prelude.{ℕ, List, Bool}
use Rattle.rate_control.specs.declared.CbrConfig.{CbrConfig}
use Rattle.words.specs.Words.{word_at}
use Rattle.layout.specs.Mode.{is_mode, mode_for}

-- nine words of 8 bytes
abbrev pub config_size : ℕ
config_size = 72

-- its mode is one (which of them are written, creation says)
unfoldable pub has_mode : List ℕ → Bool
has_mode s = is_mode (word_at s 0)

unfoldable pub config_in : List ℕ → CbrConfig
config_in s = record {
  mode = mode_for (word_at s 0);
  bit_rate_value = word_at s 1;
  vbv_buffer_size_value = word_at s 2;
  frame_rate_code = word_at s 3;
  frame_rate_extension_n = word_at s 4;
  frame_rate_extension_d = word_at s 5;
  initial_quantiser_scale_code = word_at s 6;
  b_between = word_at s 7;
  anchors_per_gop = word_at s 8;
}
