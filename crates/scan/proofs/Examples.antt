-- Worked examples, by computation.
-- Assumes nothing.
use mathlib.Core.Path.{◌≡◌, refl}
use Prim.Native.Nat.{ℕ}
use mathlib.Core.List.{List, [], ◌∷◌, ◌++◌}
use mathlib.Core.Bool.{true}
use lib.ListN.{length, replicate}
use Rattle.std.specs.Prelude.{Some, None}
use Rattle.scan.specs.Codes.{codes, every, ends_prefix, sequence_end}
use Rattle.scan.specs.Scanned.{scanned}
use Rattle.scan.specs.Pictures.{pictures, is_slice, not_slice, not_picture}
use Rattle.bits.proofs.Reading.{same_more, same_none}
use Rattle.scan.proofs.Laying.{Opened, Piece, none, more, laid_pieces, laid_pics}
use Rattle.scan.proofs.Laid.{laid-pictures, tail_end}
use Rattle.scan.proofs.Pieces.{piece_after, piece_zeros}

-- after a code the scan goes on four bytes later
overlap : codes (0 ∷ 0 ∷ 1 ∷ 0 ∷ 0 ∷ 1 ∷ 5 ∷ []) ≡ record { offset = 0; code = 0 } ∷ []
unfolding codes
overlap = simp (same_more, same_none)

-- zeros before a code
zeros_before : codes (7 ∷ 0 ∷ 0 ∷ 0 ∷ 1 ∷ 0xB3 ∷ []) ≡ record { offset = 2; code = 0xB3 } ∷ []
unfolding codes
zeros_before = simp (same_more, same_none)

-- request 03: what the scan by places finds, and how many places it looks at
one_place : scanned (2 ∷ 2 ∷ 2 ∷ 2 ∷ []) 0 ≡ record { found = None; looked = 1 }
unfolding scanned
one_place = simp same_more

own_place : scanned (0 ∷ 0 ∷ 1 ∷ 0xB3 ∷ []) 0 ≡ record { found = Some (record { offset = 0; code = 0xB3 }); looked = 1 }
unfolding scanned
own_place = simp (same_more, same_none)

after-zero : scanned (0 ∷ 0 ∷ 0 ∷ 1 ∷ 0xB3 ∷ []) 0 ≡ record { found = Some (record { offset = 1; code = 0xB3 }); looked = 2 }
unfolding scanned
after-zero = simp (same_more, same_none)

after_five : scanned (5 ∷ 0 ∷ 0 ∷ 1 ∷ 0xB3 ∷ []) 0 ≡ record { found = Some (record { offset = 1; code = 0xB3 }); looked = 2 }
unfolding scanned
after_five = simp (same_more, same_none)

after_ones : scanned (1 ∷ 1 ∷ 1 ∷ 0 ∷ 0 ∷ 1 ∷ 0 ∷ []) 0 ≡ record { found = Some (record { offset = 3; code = 0 }); looked = 2 }
unfolding scanned
after_ones = simp (same_more, same_none)

three_bytes : scanned (0 ∷ 0 ∷ 1 ∷ []) 0 ≡ record { found = None; looked = 0 }
unfolding scanned
three_bytes = refl

-- a picture, a slice, the end
one-picture-ended : pictures (0 ∷ 0 ∷ 1 ∷ 0 ∷ 9 ∷ 0 ∷ 0 ∷ 1 ∷ 1 ∷ 8 ∷ 0 ∷ 0 ∷ 1 ∷ 0xB7 ∷ []) ≡ record { start = 0; end = 14 } ∷ []
unfolding pictures
one-picture-ended = simp (same_more, same_none)

-- a picture without slices swallows what follows
swallowed : length (pictures (0 ∷ 0 ∷ 1 ∷ 0 ∷ 0 ∷ 0 ∷ 1 ∷ 0xB3 ∷ 0 ∷ 0 ∷ 1 ∷ 0 ∷ [])) ≡ 1
unfolding pictures
swallowed = simp (same_more, same_none)

-- the theorem on pieces speaks of something: a sequence header's code; and a picture's, an extension's and two slices'
header_bytes : List ℕ
header_bytes = 0 ∷ 0 ∷ 1 ∷ 0xB3 ∷ 4 ∷ []

layer_bytes : List ℕ
layer_bytes = 0 ∷ 0 ∷ 1 ∷ 0 ∷ 9 ∷ 0 ∷ 0 ∷ 1 ∷ 0xB5 ∷ 7 ∷ 0 ∷ 0 ∷ 1 ∷ 1 ∷ 8 ∷ 0 ∷ 0 ∷ 1 ∷ 2 ∷ 6 ∷ []

header_opened : Opened header_bytes
unfolding header_bytes ends_prefix is_slice
header_opened = record { first = 0xB3; rest = 4 ∷ []; opens = refl; opens_slice = refl; opens_end = refl; closed = simp same_more }

no_picture : every not_picture (codes header_bytes) ≡ true
unfolding header_bytes codes every not_picture
no_picture = simp (same_more, same_none)

layer_piece : Piece layer_bytes 0
unfolding layer_bytes codes ends_prefix is_slice not_slice not_picture every
layer_piece =
    record {
      opened = record { first = 0; rest = _; opens = refl; opens_slice = refl; opens_end = refl; closed = simp same_more };
      one =
          record {
            headers = [];
            extensions = record { offset = 5; code = 0xB5 } ∷ [];
            slice = record { offset = 10; code = 1 };
            slices = record { offset = 15; code = 2 } ∷ [];
            shape = simp (same_more, same_none);
            no_picture = refl;
            no_slice = refl;
            a_slice = refl;
            all_slices = refl;
          };
    }

-- a header, a picture and three zeros; a picture; the sequence's end
two : pictures (((header_bytes ++ layer_bytes) ++ replicate 3 0) ++ (layer_bytes ++ sequence_end)) ≡ record { start = 5; end = 28 } ∷ record { start = 28; end = 52 } ∷ []
unfolding laid_pieces laid_pics header_bytes layer_bytes
two =
    laid-pictures
    (more _ 5 (piece_zeros (header_bytes ++ layer_bytes) 5 3 (piece_after header_bytes layer_bytes 0 header_opened no_picture layer_piece)) (more layer_bytes 0 layer_piece none))
    sequence_end tail_end
