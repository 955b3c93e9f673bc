-- What is owed of what has arrived (paper 02, request 06; ISO/IEC 13818-2 C.3.2): at a variable rate 'the buffer is full at the first removal, gains R times the period after each, and
-- stays at B once full'. Of the picture that ends at `end` all is removed; d − end × unit is what it leaves, in units. Assumes nothing.
use Rattle.std.specs.Prelude.{ℕ, ◌+◌, ◌-◌, ◌*◌, ◌≤◌, min, ◌≡◌, true, false}
use Rattle.vbv.specs.Annex.{unit, first_delivered, gain, overflows, expected_delay, first_arrived, arrived, expected}
use Rattle.vbv.specs.Model.{params_in_range, params_fit, params_fit_at}
use Rattle.vbv.specs.declared.VbvParams.{VbvParams}

pub record Arrival (p : VbvParams) : Type 0 where
  -- in units: what is in the buffer at the first removal, and at the next
  pub full_at_first : (position delay : ℕ) → first_arrived true p position delay ≡ p.buffer_size_bits * unit p
  pub gains_and_stays : (end d periods : ℕ) → end * unit p ≤ d
      → arrived true p end d periods - end * unit p ≡ min (d - end * unit p + gain p periods) (p.buffer_size_bits * unit p)
  -- so it never overflows
  pub first_fits : (position delay : ℕ) → overflows p 0 (first_arrived true p position delay) ≡ false
  pub next_fits : (end d periods : ℕ) → overflows p end (arrived true p end d periods) ≡ false
  -- the delay is always the one that tells no time
  pub no_time : (position d : ℕ) → expected true p position d ≡ 65535
  -- '12 does not test the ratio'
  pub ranges_alone : params_fit_at true p ≡ params_in_range p
  pub with_ratio : params_fit_at false p ≡ params_fit p
  -- at a constant rate all is as without a variable one
  pub first_constant : (position delay : ℕ) → first_arrived false p position delay ≡ first_delivered p position delay
  pub constant : (end d periods : ℕ) → arrived false p end d periods ≡ d + gain p periods
  pub time_told : (position d : ℕ) → expected false p position d ≡ expected_delay p position d

-- what is owed
abbrev pub ArrivalOwed : Type 0
ArrivalOwed = (p : VbvParams) → Arrival p
