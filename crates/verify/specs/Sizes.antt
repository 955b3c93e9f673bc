-- What is owed of the records: how large their numbers are.
-- Assumes nothing.
use Rattle.std.specs.Prelude.{ℕ, ◌≤◌, ◌<◌, List, [], ◌∷◌}
use Rattle.vbv.specs.Model.{farthest}
use Rattle.verify.specs.declared.VbvMode.{VbvMode}
use Rattle.verify.specs.Check.{verdict, records}
use Rattle.verify.specs.declared.VbvPictureRecord.{VbvPictureRecord}

-- 16 bits for a delay, 2^48 bits of data, no buffer is larger than 4,294,950,912 bits, and by C.9 to C.12 a picture lasts one to six field periods
pub record Small (r : VbvPictureRecord) : Type 0 where
  pub coded_small : r.vbv_delay < 65536
  pub expected_small : r.expected_delay < 65536
  pub data_small : r.data_bits ≤ farthest
  pub occupancy_small : r.occupancy_before_bits ≤ 4294950912
  pub periods_low : 1 ≤ r.periods
  pub periods_small : r.periods ≤ 6

pub data AllSmall : List VbvPictureRecord → Type 0 where
  none : AllSmall []
  some : {r : VbvPictureRecord} {rs : List VbvPictureRecord} → Small r → AllSmall rs → AllSmall (r ∷ rs)

abbrev pub RecordsSmall : Type 0
RecordsSmall = (m : VbvMode) (s : List ℕ) (places : ℕ) → AllSmall (records (verdict m s places))
