-- What has arrived at a variable rate: never more than a full buffer, and never less than was there. The laws that the crates above cite.
-- Assumes nothing.
use mathlib.Core.Path.{◌≡◌, refl}
use mathlib.Core.Bool.{Bool, true, false}
use Prim.Native.Nat.{ℕ, ◌+◌, ◌-◌, ◌*◌, ◌≤◌, min}
use native.Mathlib.Omega.{arith}
use Rattle.vbv.specs.declared.VbvParams.{VbvParams}
use Rattle.vbv.specs.Annex.{unit, gain, overflows, full, first_arrived, arrived}
use Rattle.vbv.specs.Arrival.{ArrivalOwed}
use Rattle.vbv.proofs.Laws.{units_over}

module _ (p : VbvParams) where
  pub full_is : (end : ℕ) → full p end ≡ (end + p.buffer_size_bits) * unit p
  unfolding full
  full_is end = refl

  -- never more than a full buffer: as a bound, and as the test
  pub first-most : full p 0 ≤ (0 + p.buffer_size_bits) * unit p
  first-most = omega (arith, full_is 0)

  pub first_full_lem : overflows p 0 (full p 0) ≡ false
  first_full_lem = units_over p 0 (full p 0) first-most

  pub arrived-most : (end d n : ℕ) → arrived true p end d n ≤ (end + p.buffer_size_bits) * unit p
  arrived-most end d n = omega (arith, full_is end)

  pub arrived-full : (end d n : ℕ) → overflows p end (arrived true p end d n) ≡ false
  arrived-full end d n = units_over p end (arrived true p end d n) (arrived-most end d n)

  -- no more than the interval brings, at either kind of rate
  pub arrived-least : (v : Bool) (end d n : ℕ) → arrived v p end d n ≤ d + gain p n
  arrived-least true end d n = omega arith
  arrived-least false end d n = omega arith

  -- nothing is lost: what was there stays, where it was no more than a full buffer; and the picture that was there is still
  pub arrived_keeps : (v : Bool) (end d n : ℕ) → d ≤ full p end → d ≤ arrived v p end d n
  arrived_keeps true end d n h = omega arith
  arrived_keeps false end d n h = omega arith

  pub arrived-there : (v : Bool) (end d n : ℕ) → end * unit p ≤ d → end * unit p ≤ arrived v p end d n
  arrived-there true end d n h = omega (arith, full_is end)
  arrived-there false end d n h = omega arith

  gains_and_stays : (end d n : ℕ) → end * unit p ≤ d
      → arrived true p end d n - end * unit p ≡ min (d - end * unit p + gain p n) (p.buffer_size_bits * unit p)
  gains_and_stays end d n h = omega (arith, full_is end)

  full_at_first : (position delay : ℕ) → first_arrived true p position delay ≡ p.buffer_size_bits * unit p
  full_at_first position delay = omega (arith, full_is 0)

pub arrival_owed : ArrivalOwed
arrival_owed p = record {
  full_at_first = full_at_first p;
  gains_and_stays = gains_and_stays p;
  first_fits = λ position delay. first_full_lem p;
  next_fits = arrived-full p;
  no_time = λ position d. refl;
  ranges_alone = refl;
  with_ratio = refl;
  first_constant = λ position delay. refl;
  constant = λ end d periods. refl;
  time_told = λ position d. refl;
}
