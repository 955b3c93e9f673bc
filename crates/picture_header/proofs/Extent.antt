-- The bits and bytes that a picture header has, by its fields.
-- Assumes nothing.
use mathlib.Core.Path.{◌≡◌, refl, ap}
use Prim.Native.Nat.{ℕ, ◌+◌, ◌*◌, ◌/◌}
use native.Mathlib.Omega.{arith}
use Rattle.picture_header.specs.PictureHeader.{picture_header_bits, picture_header_bytes}
use Rattle.picture_header.specs.declared.Mpeg2PictureHeader.{Mpeg2PictureHeader}

-- up to the first flag, nine for each extra byte, one for the last flag
pub header_bits : (h : Mpeg2PictureHeader) → picture_header_bits h ≡ h.extra_information_bit + 9 * h.extra_information_bytes + 1
unfolding picture_header_bits
header_bits h = refl

-- and zeros to a whole byte
pub header_bytes_lem : (h : Mpeg2PictureHeader) → picture_header_bytes h ≡ (h.extra_information_bit + 9 * h.extra_information_bytes + 8) / 8
unfolding picture_header_bytes picture_header_bits
header_bytes_lem h = ap (λ (n : ℕ). n / 8) (omega arith)
