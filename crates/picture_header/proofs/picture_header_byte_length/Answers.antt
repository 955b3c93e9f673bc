use mathlib.Core.Path.{sym}
use native.Mathlib.Omega.{arith}
use Rattle.picture_header.proofs.PictureHeader.{picture_header-parsed, header_inside}
use Rattle.picture_header.proofs.picture_header_byte_length.Goals as goal

pub byte_length-requires : goal.byte_length-requires
byte_length-requires c = omega (arith, header_inside (picture_header-parsed _ _ (sym c.in_ok-header.ensures)))
