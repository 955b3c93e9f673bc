-- A stream that the check accepts: each test that it passes, one law a step.
-- Assumes nothing.
use mathlib.Core.Path.{◌≡◌, refl}
use mathlib.Core.Bool.{Bool, true, false, true≢false}
use mathlib.Core.List.{List, [], ◌∷◌}
use Prim.Native.Nat.{ℕ, suc, ◌-◌, ◌≤◌}
use native.Mathlib.Omega.{arith}
use lib.ListN.{length}
use Rattle.bits.specs.Refusals.{value}
use Rattle.vbv.specs.Annex.{overflows, beyond, occupancy, first_arrived, arrived, expected}
use Rattle.vbv.specs.Model.{params_fit_at, periods}
use Rattle.vbv.specs.declared.VbvParams.{VbvParams}
use Rattle.vbv.proofs.Laws.{over_units, beyond_units}
use Rattle.verify.specs.declared.CodedPicture.{CodedPicture}
use Rattle.verify.specs.declared.VbvPictureRecord.{VbvPictureRecord}
use Rattle.pictures.specs.Cadence.{cadence_of}
use Rattle.pictures.specs.declared.SeenPicture.{SeenPicture}
use Rattle.verify.specs.Coded.{timed}
use Rattle.verify.specs.declared.VbvMode.{VbvMode}
use Rattle.verify.specs.Run.{record_of, run}
use Rattle.verify.specs.Check.{verdict}
use Rattle.verify.specs.Accepted.{AsCoded, Conforms, DelaysFit, ReadIn}
use Rattle.verify.proofs.Conforming.{first_bounded, conforming}
use Rattle.verify.proofs.Accepted.{run_along, accepted_exactly}

-- a picture whose coded delay is the expected one, in a buffer that neither overflows nor underflows; a time is told at a constant rate alone
pub record Passed (v : Bool) (p : VbvParams) (previous d : ℕ) (c : CodedPicture) : Type 0 where
  pub in_time : v ≡ false → beyond p c.pos_bits d ≡ false
  pub delay_exact : c.vbv_delay ≡ expected v p c.pos_bits d
  pub delay_told : v ≡ false → c.vbv_delay ≤ 65534
  pub no_overflow : overflows p previous d ≡ false
  pub no_underflow : beyond p c.end_bits d ≡ false

-- the record of such a picture
abbrev pub exact_record : VbvParams → ℕ → ℕ → CodedPicture → VbvPictureRecord
exact_record p previous d c = record {
  vbv_delay = c.vbv_delay;
  expected_delay = c.vbv_delay;
  data_bits = c.end_bits - previous;
  occupancy_before_bits = occupancy p previous d;
  periods = periods c.interval;
}

passed_coded : (v : Bool) {p : VbvParams} {previous d : ℕ} {c : CodedPicture} → Passed v p previous d c → v ≡ false → AsCoded p d c
passed_coded true h z = absurd (true≢false z)
passed_coded false {p} {previous} {d} {c} h z =
    let e = h.delay_exact in
    record { begun = beyond_units p c.pos_bits d (h.in_time refl); sayable = omega (arith, h.delay_told refl); coded_most = omega arith; expected_most = omega arith }

passed_conforms : {v : Bool} {p : VbvParams} {previous d : ℕ} {c : CodedPicture} → Passed v p previous d c → Conforms v p previous d c (exact_record p previous d c)
unfolding record_of
passed_conforms {v} {p} {previous} {d} {c} h =
    let e = h.delay_exact in
    record {
      as_coded = passed_coded v h;
      no_overflow = over_units p previous d h.no_overflow;
      no_underflow = beyond_units p c.end_bits d h.no_underflow;
      record_is = rw (← e);
    }

pub run_none : (v : Bool) (p : VbvParams) (n previous d : ℕ) → run v p n previous d [] ≡ value []
unfolding run
run_none v p n previous d = refl

pub run-passed : {v : Bool} {p : VbvParams} {previous d : ℕ} {c : CodedPicture} (n : ℕ) (cs : List CodedPicture) {rs : List VbvPictureRecord} → Passed v p previous d c
    → run v p (suc n) c.end_bits (arrived v p c.end_bits d (periods c.interval)) cs ≡ value rs
    → run v p n previous d (c ∷ cs) ≡ value (exact_record p previous d c ∷ rs)
unfolding run
run-passed n cs h e = rw (conforming n (passed_conforms h), e)

pub accepted : {m : VbvMode} {s : List ℕ} {p : VbvParams} {x : SeenPicture} {xs : List SeenPicture} {r : VbvPictureRecord} {rs : List VbvPictureRecord}
    (places : ℕ) → ReadIn m s p x xs → DelaysFit m.variable (x ∷ xs) → params_fit_at m.variable p ≡ true → length (x ∷ xs) ≤ places
    → run m.variable p 0 0 (first_arrived m.variable p x.pos_bits x.vbv_delay) (timed (cadence_of m.film s) (x ∷ xs)) ≡ value (r ∷ rs)
    → verdict m s places ≡ value (record { params = p; first = r; others = rs })
accepted {m} {s} {p} {x} {xs} {r} {rs} places g e f l t =
    (accepted_exactly m s places (record { params = p; first = r; others = rs })).1
    (record {
      first = x;
      others = xs;
      is_read = g;
      delays_fit = e;
      params_fit = f;
      places_suffice = l;
      removals = run_along m.variable p 0 0 _ (timed (cadence_of m.film s) (x ∷ xs)) (r ∷ rs) (first_bounded m.variable p x.pos_bits x.vbv_delay) t;
    })
