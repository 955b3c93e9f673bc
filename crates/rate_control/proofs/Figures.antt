-- The figures hold.
use mathlib.Core.Path.{◌≡◌, refl}
use mathlib.Core.Bool.{true}
use Prim.Native.Nat.{ℕ, ◌+◌, ◌*◌, ◌/◌, ◌%◌, ◌≤◌, ◌<◌}
use native.Mathlib.Omega.{arith}
use native.Mathlib.Nat.{div-add-mod', mod-lt}
use Rattle.bits.specs.Bits.{pick}
use Rattle.vbv.specs.declared.VbvParams.{VbvParams}
use Rattle.vbv.specs.Params.{same_params}
use Rattle.vbv.proofs.Params.{params_are}
use Rattle.vbv.proofs.Scale.{same_value, same_share}
use Rattle.vbv.proofs.Figures.{model-figures}
use Rattle.rate_control.specs.Targets.{group_pictures, group_bits, group_weight, target, targets}
use Rattle.rate_control.specs.Writer.{of, coarser, steered}
use Rattle.rate_control.specs.Offer.{first_delay}
use Rattle.rate_control.specs.Figures.{retried, WriterFigures, TargetFigures, ValueTargets, Rules, Steering}

pub writer_figures : WriterFigures
unfolding group_pictures group_bits group_weight target targets coarser first_delay retried
writer_figures = record { model = model-figures; first_delay_lem = refl; targets_of_three = refl; retries_from_1 = refl }

first_delay_low : (p : VbvParams) → 4 * p.bit_rate * first_delay p ≤ 270000 * p.buffer_size_bits
unfolding first_delay
first_delay_low p = omega (arith, div-add-mod' (90000 * p.buffer_size_bits * 3) (4 * p.bit_rate))

first_delay_high : (p : VbvParams) → 1 ≤ p.bit_rate → 270000 * p.buffer_size_bits < 4 * p.bit_rate * (first_delay p + 1)
unfolding first_delay
first_delay_high p l =
    let m : 90000 * p.buffer_size_bits * 3 % (4 * p.bit_rate) < 4 * p.bit_rate = mod-lt (90000 * p.buffer_size_bits * 3) (omega arith) in
    omega (arith, div-add-mod' (90000 * p.buffer_size_bits * 3) (4 * p.bit_rate))

pub rules : Rules
unfolding coarser
rules = record { first_delay_low = first_delay_low; first_delay_high = first_delay_high; coarser_5 = refl; coarser_10 = refl; coarser_20 = refl; coarser_24 = refl; coarser_30 = refl }

pub target_figures : TargetFigures
unfolding group_pictures group_bits group_weight target targets of
target_figures = record { of_i = refl; of_p = refl; of_b = refl; of_50_over_2 = rw (params_are 2500 20 50 2); floored = refl }

same_targets : (p q : VbvParams) (between anchors : ℕ) → same_params p q ≡ true → targets p between anchors ≡ targets q between anchors
unfolding targets target group_bits
same_targets p q between anchors h =
    let v = same_value p q h in
    let e : p.bit_rate * p.frd / p.frn ≡ q.bit_rate * q.frd / q.frn = same_share v in
    rw e

same_first_delay : (p q : VbvParams) → same_params p q ≡ true → first_delay p ≡ first_delay q
unfolding first_delay
same_first_delay p q h = let v = same_value p q h in rw (v.rate, v.size)

pub value_targets : ValueTargets
value_targets = record { same_targets = same_targets; same_first_delay = same_first_delay }

pub steering : Steering
unfolding steered pick
steering = record { stays_at_1200 = refl; up_at_1201 = refl; stays_at_700 = refl; down_at_699 = refl; most = refl; least = refl; no_target = refl }
