-- The figures hold: what has arrived is followed by the laws of the steps, and counted in whole bits by those of the fractions.
-- Assumes nothing.
use mathlib.Core.Path.{◌≡◌, refl, sym, ap, subst, ◌∙◌}
use mathlib.Core.Bool.{true, false}
use mathlib.Core.Logic.{⊎_elim}
use Prim.Native.Nat.{ℕ, ◌+◌, ◌-◌, ◌*◌, ◌≤◌, ◌<◌, min}
use native.Mathlib.Omega.{arith}
use native.Mathlib.Nat.{mul-le-mul, le_of_mul-le-mul_right, lt_of_mul-lt-mul_right}
use lib.Dec.{lit<, lit≤}
use Rattle.bits.specs.Refusals.{Answer, value, refused, number}
use Rattle.bits.proofs.Flags.{yes, is_true}
use Rattle.bits.proofs.Appending.{lt_or_le}
use Rattle.vbv.specs.Annex.{unit, gain, beyond, occupancy, full, arrived}
use Rattle.vbv.specs.Figures.{at25}
use Rattle.vbv.specs.Model.{farthest, params_in_range, delivered, at_delivered, after_removal, periods}
use Rattle.vbv.specs.Steps.{EndFits}
use Rattle.vbv.specs.declared.RemovalInterval.{RemovalInterval}
use Rattle.vbv.specs.declared.RemovalInterval.TheVariants.{Frame, Field}
use Rattle.vbv.specs.declared.VbvParams.{VbvParams}
use Rattle.vbv.specs.declared.VbvCbrModel.{VbvCbrModel}
use Rattle.vbv.proofs.Figures.{model-figures}
use Rattle.vbv.proofs.Fitting.{in_range_is, unit_pos_in, fitting-end}
use Rattle.vbv.proofs.Laws.{beyond_units, units_beyond}
use Rattle.vbv.specs.Fractions.{Fractions}
use Rattle.vbv.proofs.Fractions.{fractions}
use Rattle.vbv.proofs.Arrival.{full_is}
use Rattle.vbr.specs.Variable.{variable_fits, new_variable}
use Rattle.vbr.specs.Figures.{filled, and_take, and_held, VariableFigures}
use Rattle.vbr.proofs.Laws.{variable-made, variable_makes, variable_unmade, variable_started, variable-starts, variable-removed, variable_removes, variable-removal_told, variable-occupancy_told}

abbrev P : VbvParams
P = at25 1000000 327680

in_range : params_in_range P ≡ true
in_range = in_range_is P

-- a started model after n removals, the last one's end at e, with d units arrived
record Stands (e d n : ℕ) (a : Answer VbvCbrModel) : Type 0 where
  model : VbvCbrModel
  is : a ≡ value model
  fits : variable_fits model ≡ true
  begun : model.started ≡ true
  params_are : model.params ≡ P
  end_is : model.prev_end_bits ≡ e
  arrived_is : delivered model ≡ d
  count_is : model.removed ≡ n

at_first_lem : Stands 0 (full P 0) 0 filled
at_first_lem =
    let m : VbvCbrModel = record { params = P; whole = 0; rest = 0; prev_end_bits = 0; removed = 0; started = false } in
    let a = variable_makes P in_range in
    let b = variable-made P m a in
    let c = variable-starts m b.fits refl in
    let s = variable_started m _ c in
    record {
      model = at_delivered m (full P 0);
      is = rw a c;
      fits = s.fits;
      begun = s.is_started;
      params_are = s.params_kept;
      end_is = s.end_kept;
      arrived_is = s.delivered_is;
      count_is = s.count_kept;
    }

module _ {e d n : ℕ} {a : Answer VbvCbrModel} (s : Stands e d n a) where
  taken : (end : ℕ) (i : RemovalInterval) → e ≤ end → end ≤ farthest → n < farthest → end * unit P ≤ d
      → Stands end (arrived true P end d (periods i)) (n + 1) (and_take end i a)
  taken end i l h k u =
      let m = s.model in
      let g : EndFits m end = record { end_far = h; end_low = rw s.end_is l; count = rw s.count_is k } in
      let c = variable_removes m end i s.fits s.begun (fitting-end m end g) (rw (s.arrived_is, s.params_are) (units_beyond P end d u)) in
      let r = variable-removed m end i _ c in
      record {
        model = after_removal m end (arrived true m.params end (delivered m) (periods i));
        is = rw s.is c;
        fits = r.fits;
        begun = r.is_started;
        params_are = r.params_kept ∙ s.params_are;
        end_is = r.end_is;
        arrived_is = r.delivered_is ∙ rw (s.arrived_is, s.params_are);
        count_is = r.count_is ∙ rw s.count_is;
      }

  starved : (end : ℕ) (i : RemovalInterval) → e ≤ end → end ≤ farthest → n < farthest → d < end * unit P → and_take end i a ≡ refused 10 n 0 0
  starved end i l h k u =
      let m = s.model in
      let g : EndFits m end = record { end_far = h; end_low = rw s.end_is l; count = rw s.count_is k } in
      let b : beyond m.params end (delivered m) ≡ true =
      rw (s.arrived_is, s.params_are) (is_true (beyond P end d) (λ z. omega (arith, u, beyond_units P end d z))) in
      rw s.is (variable-removal_told m s.fits s.begun end i g ∙ sym (yes _ _ _ b refl) ∙ ap (λ (x : ℕ). refused 10 x 0 0) s.count_is)

  holds : and_held a ≡ value (occupancy P e d)
  holds = rw (s.is, variable-occupancy_told s.model s.fits s.begun, s.arrived_is, s.params_are, s.end_is)

  passes : number a ≡ 0
  passes = rw s.is

-- in whole bits of P: what a frame and a field bring, and a full buffer
in_fractions : Fractions P
in_fractions = fractions P (lit≤ tt) (lit≤ tt)

unit_pos : 0 < unit P
unit_pos = unit_pos_in P in_range

frame_brings : gain P 2 ≡ 40000 * unit P
frame_brings = omega (arith, in_fractions.gain_is 2)

field_brings : gain P 1 ≡ 20000 * unit P
field_brings = omega (arith, in_fractions.gain_is 1)

lesser : (a b u : ℕ) → min (a * u) (b * u) ≡ min a b * u
lesser a b u =
    ⊎_elim
    (λ (l : a < b).
    let k = mul-le-mul {n₁ = a} {m₁ = u} {n₂ = b} {m₂ = u} (omega arith) (omega arith) in
    let e : min a b ≡ a = omega arith in
    rw e (omega arith))
    (λ (l : b ≤ a).
    let k = mul-le-mul {n₁ = b} {m₁ = u} {n₂ = a} {m₂ = u} l (omega arith) in
    let e : min a b ≡ b = omega arith in
    rw e (omega arith))
    (lt_or_le a b)

-- k bits arrived
abbrev Bits : ℕ → ℕ → ℕ → Answer VbvCbrModel → Type 0
Bits e k n a = Stands e (k * unit P) n a

first : Bits 0 327680 0 filled
first = subst (λ (x : ℕ). Stands 0 x 0 filled) (full_is P 0) at_first_lem

module _ {e k n : ℕ} {a : Answer VbvCbrModel} (s : Bits e k n a) where
  frame : (end : ℕ) → e ≤ end → end ≤ farthest → n < farthest → end ≤ k → Bits end (min (k + 40000) (end + 327680)) (n + 1) (and_take end Frame a)
  frame end l h c u =
      let z : k * unit P + gain P 2 ≡ (k + 40000) * unit P = omega (arith, frame_brings) in
      subst (λ (x : ℕ). Stands end x (n + 1) (and_take end Frame a)) (rw (z, full_is P end) (lesser (k + 40000) (end + 327680) (unit P)))
      (taken s end Frame l h c (mul-le-mul u (omega arith)))

  field : (end : ℕ) → e ≤ end → end ≤ farthest → n < farthest → end ≤ k → Bits end (min (k + 20000) (end + 327680)) (n + 1) (and_take end Field a)
  field end l h c u =
      let z : k * unit P + gain P 1 ≡ (k + 20000) * unit P = omega (arith, field_brings) in
      subst (λ (x : ℕ). Stands end x (n + 1) (and_take end Field a)) (rw (z, full_is P end) (lesser (k + 20000) (end + 327680) (unit P)))
      (taken s end Field l h c (mul-le-mul u (omega arith)))

  held : e ≤ k → and_held a ≡ value (k - e)
  held l =
      let o = occupancy P e (k * unit P) in
      let low : e + o ≤ k = le_of_mul-le-mul_right {k = unit P} (in_fractions.occupancy_low e (k * unit P) (mul-le-mul l (omega arith))) unit_pos in
      let high : k < e + o + 1 = lt_of_mul-lt-mul_right (unit P) (in_fractions.occupancy_high e (k * unit P)) in
      holds s ∙ ap (λ (x : ℕ). value x) (omega arith)

second : Bits 80344 367680 1 (and_take 80344 Frame filled)
second = frame first 80344 (lit≤ tt) (lit≤ tt) (lit< tt) (lit≤ tt)

third : Bits 81320 407680 2 (and_take 81320 Frame (and_take 80344 Frame filled))
third = frame second 81320 (lit≤ tt) (lit≤ tt) (lit< tt) (lit≤ tt)

fourth : Bits 82296 409976 3 (and_take 82296 Field (and_take 81320 Frame (and_take 80344 Frame filled)))
fourth = field third 82296 (lit≤ tt) (lit≤ tt) (lit< tt) (lit≤ tt)

made : (r b : ℕ) → params_in_range (at25 r b) ≡ true → number (new_variable (at25 r b)) ≡ 0
made r b h = rw (variable_makes (at25 r b) h)

pub variable_figures : VariableFigures
variable_figures = record {
  full_at_first = held first (lit≤ tt);
  gains_a_frame = held second (lit≤ tt);
  gains_another = held third (lit≤ tt);
  stays_at_B = held fourth (lit≤ tt);
  fourth = passes (field fourth 83272 (lit≤ tt) (lit≤ tt) (lit< tt) (lit≤ tt));
  all_of_B = held (frame first 327680 (lit≤ tt) (lit≤ tt) (lit< tt) (lit≤ tt)) (lit≤ tt);
  a_byte_more = starved first 327688 Frame (lit≤ tt) (lit≤ tt) (lit< tt) (omega (arith, unit_pos));
  any_ratio = made 22400 16384 (in_range_is (at25 22400 16384));
  constant_ratio = model-figures.rate_22400;
  no_buffer = rw (variable_unmade (at25 22400 0) (in_range_is (at25 22400 0)));
}
