-- The 16 bits of vbv_delay in a picture header (ISO/IEC 13818-2 6.2.3, 6.3.9): after 32 bits of start code, 10 of temporal_reference and 3 of picture_coding_type.
-- Assumes nothing.
use Rattle.std.specs.Prelude.{ℕ, List, Bool, not, ◌&&◌, leb, length, take}
use Rattle.bits.specs.Bits.{pick, digits, set_bits}
use Rattle.bits.specs.Refusals.{Answer, value, refuse}
use Rattle.bits.specs.StartCodes.{start_code, picture_start_code}
use Rattle.bits.specs.Fields.{same_bytes}

-- eight bytes at least, from the start code of a picture on
unfoldable pub starts_picture : List ℕ → Bool
starts_picture s = leb 8 (length s) && same_bytes (take 4 s) (start_code picture_start_code)

unfoldable pub patch_picture : List ℕ → Answer (Unit {0})
patch_picture s = refuse 20 (not (starts_picture s)) (value tt)

-- bits 45 to 60 are the delay, every other bit is as it was
unfoldable pub patched : List ℕ → ℕ → List ℕ
patched s delay = pick (starts_picture s) (set_bits s 45 (digits 16 delay)) s
