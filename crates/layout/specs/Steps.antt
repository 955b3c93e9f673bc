-- The reading of a state and of a configuration as the code goes: promises and demands of private functions.
-- Assumes nothing.
use Rattle.std.specs.Prelude.{ℕ, ◌≤◌, List, Bool, ◌&&◌, leb}
use Rattle.bits.specs.Bits.{pick}
use Rattle.rate_control.specs.declared.CbrConfig.{CbrConfig}
use Rattle.words.specs.Words.{word_at}
use Rattle.layout.specs.State.{codes_fit}

-- quantisers are kept in 8 bits: none of these words is above 31
unfoldable pub narrow : List ℕ → Bool
narrow s =
    codes_fit s
    && (leb (word_at s 12) 31 && (leb (word_at s 13) 31 && leb (word_at s 14) 31) && leb (word_at s 16) 31)

-- these four words, as orders
pub record Narrow (s : List ℕ) : Type 0 where
  pub i : word_at s 12 ≤ 31
  pub p : word_at s 13 ≤ 31
  pub b : word_at s 14 ≤ 31
  pub waits : word_at s 16 ≤ 31

-- a value as it is, or one out of its range where it is above the most
unfoldable pub or_outside : ℕ → ℕ → ℕ → ℕ
or_outside most outside v = pick (leb v most) v outside

-- a configuration whose fields have few bits: for a value above its range one that is out of it too, and for a rate code above 8 the code 0, which is none either
unfoldable pub narrowed : CbrConfig → CbrConfig
narrowed c = record {
  mode = c.mode;
  bit_rate_value = or_outside 262143 0 c.bit_rate_value;
  vbv_buffer_size_value = or_outside 1023 0 c.vbv_buffer_size_value;
  frame_rate_code = or_outside 8 0 c.frame_rate_code;
  frame_rate_extension_n = or_outside 3 4 c.frame_rate_extension_n;
  frame_rate_extension_d = or_outside 31 32 c.frame_rate_extension_d;
  initial_quantiser_scale_code = or_outside 31 0 c.initial_quantiser_scale_code;
  b_between = or_outside 15 16 c.b_between;
  anchors_per_gop = or_outside 255 0 c.anchors_per_gop;
}
