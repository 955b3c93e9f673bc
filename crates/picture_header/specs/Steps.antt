-- The promises of private functions.
-- Assumes nothing.
use Rattle.std.specs.Prelude.{ℕ, ◌-◌, ◌/◌, ◌%◌, ◌^◌, Bool, ◌&&◌, eqb, leb}
use Rattle.picture_header.specs.PictureHeader.{extra_bit}

-- the number n in the first four bytes and w in the five after them are those of a picture header whose first extra_bit_picture is 0
unfoldable pub usual_header : ℕ → ℕ → Bool
usual_header n w =
    eqb n 0x100
    && (leb 1 (w / 2 ^ 27 % 8) && (leb (w / 2 ^ 27 % 8) 4 && eqb (w / 2 ^ (71 - extra_bit (w / 2 ^ 27 % 8)) % 2) 0))

-- the number n in the first four bytes and w in the five after them are those of a picture coding extension that is accepted
unfoldable pub usual_coding : ℕ → ℕ → Bool
usual_coding n w =
    (eqb n 0x1B5 && eqb (w / 2 ^ 36) 8)
    && ((leb 1 (w / 2 ^ 32 % 16) && (leb 1 (w / 2 ^ 28 % 16) && (leb 1 (w / 2 ^ 24 % 16) && leb 1 (w / 2 ^ 20 % 16))))
    && leb 1 (w / 2 ^ 16 % 4))
