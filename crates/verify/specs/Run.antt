-- A run of the model over coded pictures (ISO/IEC 13818-2 Annex C, 11172-2 Annex C; paper 01, 'The buffer report'): at each removal 7, 8, 11, 9, 10, in this order, at a variable rate 10 alone (paper 02, request 06); else a record.
-- Assumes nothing.
use Rattle.std.specs.Prelude.{ℕ, suc, ◌+◌, ◌-◌, min, max, List, [], ◌∷◌, Bool, true, false, ◌||◌, ltb}
use Rattle.bits.specs.Refusals.{Answer, value, refuse, violate, and_then}
use Rattle.vbv.specs.Annex.{overflows, beyond, expected_delay, occupancy, arrived, expected}
use Rattle.vbv.specs.Model.{periods}
use Rattle.vbv.specs.declared.VbvParams.{VbvParams}
use Rattle.verify.specs.declared.CodedPicture.{CodedPicture}
use Rattle.verify.specs.declared.VbvPictureRecord.{VbvPictureRecord}

-- the coded and the expected delay differ by more than one tick
unfoldable pub apart : ℕ → ℕ → Bool
apart coded expected = ltb (coded + 1) expected || ltb (expected + 1) coded

unfoldable pub record_of : Bool → VbvParams → ℕ → ℕ → CodedPicture → VbvPictureRecord
record_of variable p previous d c = record {
  vbv_delay = c.vbv_delay;
  expected_delay = expected variable p c.pos_bits d;
  data_bits = c.end_bits - previous;
  occupancy_before_bits = occupancy p previous d;
  periods = periods c.interval;
}

-- picture n is removed with d arrived, all before `previous` removed: its record, or 10 where it is not all there
unfoldable pub taken_out : Bool → VbvParams → ℕ → ℕ → ℕ → CodedPicture → Answer VbvPictureRecord
taken_out variable p n previous d c =
    violate 10 n c.vbv_delay (expected variable p c.pos_bits d) (beyond p c.end_bits d)
    (value (record_of variable p previous d c))

-- at a constant rate its start code has come, the expected delay can be coded and is the coded one, and the buffer does not overflow
unfoldable pub removal : Bool → VbvParams → ℕ → ℕ → ℕ → CodedPicture → Answer VbvPictureRecord
removal true p n previous d c = taken_out true p n previous d c
removal false p n previous d c =
    refuse 7 (beyond p c.pos_bits d)
    (refuse 8 (ltb 65534 (expected_delay p c.pos_bits d))
    (violate 11 n c.vbv_delay (expected_delay p c.pos_bits d) (apart c.vbv_delay (expected_delay p c.pos_bits d))
    (violate 9 n c.vbv_delay (expected_delay p c.pos_bits d) (overflows p previous d)
    (taken_out false p n previous d c))))

-- the records of all removals, or the first refusal; by the next removal the picture's interval brings its gain, at a variable rate up to a full buffer
unfoldable pub run : Bool → VbvParams → ℕ → ℕ → ℕ → List CodedPicture → Answer (List VbvPictureRecord)
run variable p n previous d [] = value []
run variable p n previous d (c ∷ cs) =
    and_then (removal variable p n previous d c) (λ r.
    and_then (run variable p (suc n) c.end_bits (arrived variable p c.end_bits d (periods c.interval)) cs) (λ rs.
    value (r ∷ rs)))

-- occupancy after a removal; the least of them and the greatest before
unfoldable pub occupancy_after : VbvPictureRecord → ℕ
occupancy_after r = r.occupancy_before_bits - r.data_bits

unfoldable pub least_after : VbvPictureRecord → List VbvPictureRecord → ℕ
least_after r [] = occupancy_after r
least_after r (q ∷ rs) = min (occupancy_after r) (least_after q rs)

unfoldable pub greatest_before : List VbvPictureRecord → ℕ
greatest_before [] = 0
greatest_before (r ∷ rs) = max r.occupancy_before_bits (greatest_before rs)
