-- How many records a verdict has, and how large their numbers are at most.
-- Assumes nothing.
use mathlib.Core.Path.{◌≡◌, refl, sym}
use mathlib.Core.Bool.{Bool, true, false}
use Prim.Native.Nat.{ℕ, ◌<◌}
use mathlib.Core.List.{List}
use native.Mathlib.Omega.{arith}
use lib.ListN.{length}
use Rattle.bits.specs.Refusals.{Answer, value, refused}
use Rattle.vbv.specs.Annex.{expected}
use Rattle.vbv.specs.Model.{params_in_range}
use Rattle.vbv.specs.declared.VbvParams.{VbvParams}
use Rattle.vbv.proofs.Fitting.{in_range, fit_in_at, periods-least, periods-most}
use Rattle.bits.proofs.Following.{refused-value, same_value}
use Rattle.vbv.proofs.Laws.{occupancy-most_in, units_over}
use Rattle.verify.specs.declared.CodedPicture.{CodedPicture}
use Rattle.verify.specs.declared.VbvPictureRecord.{VbvPictureRecord}
use Rattle.verify.specs.declared.VbvStreamReport.{VbvStreamReport}
use Rattle.verify.specs.Run.{record_of}
use Rattle.verify.specs.Check.{Accepted, verdict, reported, records}
use Rattle.pictures.specs.Order.{Placed}
use Rattle.verify.specs.Sizes.{Small, AllSmall, none, some, RecordsSmall}
use Rattle.verify.specs.Accepted as ac
use Rattle.verify.specs.Accepted.{AsCoded, Conforms, Along}
use Rattle.verify.proofs.Rising.{Rising, last, next}
use Rattle.verify.proofs.Accepted.{passed, are_rising}

-- ---- the number of records

pub picture-count : (v : Answer Accepted) {x : VbvStreamReport} → value x ≡ reported v → x.pictures ≡ length (records v)
picture-count (value v) h = rw (same_value h)
picture-count (refused n k c d) h = absurd (refused-value (sym h))

-- ---- their size

delay_small : (v : Bool) {p : VbvParams} {d : ℕ} {c : CodedPicture} → (v ≡ false → AsCoded p d c) → expected v p c.pos_bits d < 65536
delay_small true h = omega arith
delay_small false h = omega (arith, (h refl).sayable)

module _ {v : Bool} {p : VbvParams} (f : params_in_range p ≡ true) where
  removal_small : {previous d : ℕ} {c : CodedPicture} {r : VbvPictureRecord} → Placed previous c.pos_bits c.end_bits c.vbv_delay → Conforms v p previous d c r → Small r
  unfolding record_of
  removal_small {previous} {d} {c} q w =
      rw w.record_is
      record {
        coded_small = q.delay_small;
        expected_small = delay_small v w.as_coded;
        data_small = omega (arith, q.end_near);
        periods_low = omega (arith, periods-least c.interval);
        periods_small = omega (arith, periods-most c.interval);
        occupancy_small = omega (arith, occupancy-most_in p f previous d (units_over p previous d w.no_overflow), (in_range p f).1);
      }

  along_small : {previous d : ℕ} {cs : List CodedPicture} {rs : List VbvPictureRecord} → Rising previous cs → Along v p (Conforms v p) previous d cs rs → AllSmall rs
  along_small last ac.none = none
  along_small (next q t) (ac.more w u) = some (removal_small q w) (along_small t u)

pub records_small : RecordsSmall
records_small m s places = go (verdict m s places) refl
  where
    go : (v : Answer Accepted) → verdict m s places ≡ v → AllSmall (records v)
    go (refused n k x y) h = none
    go (value v) h = let a = passed m s places h in along_small (fit_in_at m.variable v.params a.params_fit) (are_rising a) a.removals
