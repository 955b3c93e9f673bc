-- Annex C's quantities in 1/unit bit are the standard's fractions.
-- Assumes nothing.
use mathlib.Core.Path.{◌≡◌}
use mathlib.Core.Logic.{◌↔◌}
use mathlib.Core.Bool.{true}
use Prim.Native.Nat.{ℕ, ◌+◌, ◌-◌, ◌*◌, ◌/◌, ◌≤◌, ◌<◌}
use native.Mathlib.Omega.{arith}
use native.Mathlib.Nat.{div-add-mod', mod-lt, mul-le-mul, div-lt_iff_lt-mul, le-div_iff_mul-le}
use borrow.Author.Tests.{ltb-true, lt-ltb}
use Rattle.vbv.specs.Annex.{unit, first_delivered, gain, overflows, beyond, expected_delay, occupancy, greatest_end, least_end}
use Rattle.vbv.specs.Fractions.{FractionsOwed}
use Rattle.vbv.specs.declared.VbvParams.{VbvParams}

first_is : (p : VbvParams) (position delay : ℕ) → 90000 * first_delivered p position delay ≡ (90000 * position + delay * p.bit_rate) * unit p
unfolding first_delivered unit
first_is p position delay = omega arith

gain_is : (p : VbvParams) (periods : ℕ) → 2 * p.frn * gain p periods ≡ periods * p.bit_rate * p.frd * unit p
unfolding gain unit
gain_is p periods = omega arith

-- a quotient rounded, halves up
halves_up : (x n r : ℕ) → 1 ≤ n → 1 ≤ r
    → ((x + n * r) / (2 * n * r) * (2 * n * r) ≤ x + n * r) × (x + n * r < (x + n * r) / (2 * n * r) * (2 * n * r) + 2 * n * r)
halves_up x n r g h =
    let k : 0 < 2 * n * r = omega (arith, mul-le-mul {n₁ = 1} {m₁ = 1} {n₂ = n} {m₂ = r} g h) in
    let s = div-add-mod' (x + n * r) (2 * n * r) in
    let m = mod-lt (x + n * r) k in
    (omega arith, omega arith)

expected_low : (p : VbvParams) → 1 ≤ p.bit_rate → 1 ≤ p.frn → (position d : ℕ) → position * unit p ≤ d
    → 2 * expected_delay p position d * p.bit_rate * unit p + 180000 * position * unit p ≤ 180000 * d + p.bit_rate * unit p
unfolding expected_delay unit
expected_low p r f position d h = omega (arith, (halves_up (d - position * (180000 * p.frn)) p.frn p.bit_rate f r).0)

expected_high : (p : VbvParams) → 1 ≤ p.bit_rate → 1 ≤ p.frn → (position d : ℕ) → position * unit p ≤ d
    → 180000 * d + p.bit_rate * unit p < (2 * expected_delay p position d + 2) * p.bit_rate * unit p + 180000 * position * unit p
unfolding expected_delay unit
expected_high p r f position d h = omega (arith, (halves_up (d - position * (180000 * p.frn)) p.frn p.bit_rate f r).1)

occupancy_low : (p : VbvParams) → 1 ≤ p.frn → (previous d : ℕ) → previous * unit p ≤ d → (previous + occupancy p previous d) * unit p ≤ d
unfolding occupancy unit
occupancy_low p f previous d h = omega (arith, div-add-mod' (d - previous * (180000 * p.frn)) (180000 * p.frn))

occupancy_high : (p : VbvParams) → 1 ≤ p.frn → (previous d : ℕ) → d < (previous + occupancy p previous d + 1) * unit p
unfolding occupancy unit
occupancy_high p f previous d =
    omega (
      arith,
      div-add-mod' (d - previous * (180000 * p.frn)) (180000 * p.frn),
      mod-lt (d - previous * (180000 * p.frn)) {m = 180000 * p.frn} (omega arith),
    )

overflow_is : (p : VbvParams) (previous d : ℕ) → (overflows p previous d ≡ true) ↔ ((previous + p.buffer_size_bits) * unit p < d)
unfolding overflows
overflow_is p previous d = (λ h. ltb-true _ _ h, λ h. lt-ltb _ _ h)

beyond_is : (p : VbvParams) (end d : ℕ) → (beyond p end d ≡ true) ↔ (d < end * unit p)
unfolding beyond
beyond_is p end d = (λ h. ltb-true _ _ h, λ h. lt-ltb _ _ h)

-- the ends: a quotient rounded up, and one cut off
unit-least : (p : VbvParams) → 1 ≤ p.frn → 0 < unit p
unfolding unit
unit-least p f = omega arith

least_is : (p : VbvParams) → 1 ≤ p.frn → (end d : ℕ) → (least_end p d ≤ end) ↔ (d ≤ (end + p.buffer_size_bits) * unit p)
unfolding least_end
least_is p f end d =
    let u = unit-least p f in
    let l = div-lt_iff_lt-mul {k = unit p} {x = d - p.buffer_size_bits * unit p + (unit p - 1)} {y = end + 1} u in (
      λ (h : (d - p.buffer_size_bits * unit p + (unit p - 1)) / unit p ≤ end). omega (arith, l.0 (omega arith)),
      λ (h : d ≤ (end + p.buffer_size_bits) * unit p). omega (arith, l.1 (omega arith)),
    )

greatest_is : (p : VbvParams) → 1 ≤ p.frn → (end d : ℕ) → (end ≤ greatest_end p d) ↔ (end * unit p ≤ d)
unfolding greatest_end
greatest_is p f end d = le-div_iff_mul-le {k = unit p} {x = end} {y = d} (unit-least p f)

pub fractions : FractionsOwed
fractions p r f = record {
  first_is = first_is p;
  gain_is = gain_is p;
  expected_low = expected_low p r f;
  expected_high = expected_high p r f;
  occupancy_low = occupancy_low p f;
  occupancy_high = occupancy_high p f;
  overflow_is = overflow_is p;
  beyond_is = beyond_is p;
  least_is = least_is p f;
  greatest_is = greatest_is p f;
}
