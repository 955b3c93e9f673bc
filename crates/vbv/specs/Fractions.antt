-- Annex C's quantities as the standard has them, in fractions of a bit and of a tick: R bits in 90,000 ticks, a field period of frd / (2 × frn) s.
-- What specs/Annex.antt counts in 1/unit bit is these, exactly (proofs/Fractions.antt). Assumes nothing.
use Rattle.std.specs.Prelude.{◌≡◌, ◌↔◌, true, ℕ, ◌+◌, ◌*◌, ◌≤◌, ◌<◌}
use Rattle.vbv.specs.Annex.{unit, first_delivered, gain, overflows, beyond, expected_delay, occupancy, greatest_end, least_end}
use Rattle.vbv.specs.declared.VbvParams.{VbvParams}

pub record Fractions (p : VbvParams) : Type 0 where
  -- position + delay × R / 90,000 bits
  pub first_is : (position delay : ℕ) → 90000 * first_delivered p position delay ≡ (90000 * position + delay * p.bit_rate) * unit p
  -- periods × R × frd / (2 × frn) bits
  pub gain_is : (periods : ℕ) → 2 * p.frn * gain p periods ≡ periods * p.bit_rate * p.frd * unit p
  -- (d / unit − position) × 90,000 / R ticks lie from expected − 1/2 on, and below expected + 1/2
  pub expected_low : (position d : ℕ) → position * unit p ≤ d
      → 2 * expected_delay p position d * p.bit_rate * unit p + 180000 * position * unit p ≤ 180000 * d + p.bit_rate * unit p
  pub expected_high : (position d : ℕ) → position * unit p ≤ d
      → 180000 * d + p.bit_rate * unit p < (2 * expected_delay p position d + 2) * p.bit_rate * unit p + 180000 * position * unit p
  -- d / unit − previous bits lie from the occupancy on, and below one more
  pub occupancy_low : (previous d : ℕ) → previous * unit p ≤ d → (previous + occupancy p previous d) * unit p ≤ d
  pub occupancy_high : (previous d : ℕ) → d < (previous + occupancy p previous d + 1) * unit p
  -- more is in the buffer than it holds; `end` has not come
  pub overflow_is : (previous d : ℕ) → (overflows p previous d ≡ true) ↔ ((previous + p.buffer_size_bits) * unit p < d)
  pub beyond_is : (end d : ℕ) → (beyond p end d ≡ true) ↔ (d < end * unit p)
  -- after `end` the buffer takes what d brings exactly from the least end on; what ends at `end` is already delivered exactly up to the greatest end
  pub least_is : (end d : ℕ) → (least_end p d ≤ end) ↔ (d ≤ (end + p.buffer_size_bits) * unit p)
  pub greatest_is : (end d : ℕ) → (end ≤ greatest_end p d) ↔ (end * unit p ≤ d)

-- what is owed: for a rate and an frn of at least 1
abbrev pub FractionsOwed : Type 0
FractionsOwed = (p : VbvParams) → 1 ≤ p.bit_rate → 1 ≤ p.frn → Fractions p
