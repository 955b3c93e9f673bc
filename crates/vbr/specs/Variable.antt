-- The model at a variable rate as a state by value (ISO/IEC 13818-2 C.3.2; paper 02, request 06), on the struct of the constant one: what has arrived at the pending removal, where the
-- previous picture ended, how many were removed. A state whose fields are out of their ranges is refused first. Assumes nothing.
use Rattle.std.specs.Prelude.{ℕ, Bool, true, false, not, ◌&&◌}
use Rattle.bits.specs.Bits.{pick}
use Rattle.bits.specs.Refusals.{Answer, value, refuse, violate}
use Rattle.vbv.specs.Annex.{first_arrived, arrived, overflows, beyond, occupancy}
use Rattle.vbv.specs.Model.{params_in_range, delivered, model_fits, model_in_range, at_delivered, after_removal, periods, end_fits, new_model}
use Rattle.vbv.specs.declared.RemovalInterval.{RemovalInterval}
use Rattle.vbv.specs.declared.VbvParams.{VbvParams}
use Rattle.vbv.specs.declared.VbvCbrModel.{VbvCbrModel}

-- every field in its range, whatever the ratio; and once it is started no more has arrived than fills the buffer: so 9 never comes
unfoldable pub variable_fits : VbvCbrModel → Bool
variable_fits m =
    model_in_range m
    && pick m.started (not (overflows m.params m.prev_end_bits (delivered m))) true

unfoldable pub new_variable : VbvParams → Answer VbvCbrModel
new_variable p =
    refuse 12 (not (params_in_range p))
    (value (record { params = p; whole = 0; rest = 0; prev_end_bits = 0; removed = 0; started = false }))

-- full, whatever the first picture's delay and position are
unfoldable pub start_variable : VbvCbrModel → Answer VbvCbrModel
start_variable m =
    refuse 12 (not (variable_fits m))
    (refuse 13 m.started
    (value (at_delivered m (first_arrived true m.params 0 0))))

-- of 7 to 11 there is 10 alone
unfoldable pub remove_variable : VbvCbrModel → ℕ → RemovalInterval → Answer VbvCbrModel
remove_variable m end i =
    refuse 12 (not (variable_fits m))
    (refuse 13 (not m.started)
    (refuse 14 (not (end_fits m end))
    (violate 10 m.removed 0 0 (beyond m.params end (delivered m))
    (value (after_removal m end (arrived true m.params end (delivered m) (periods i)))))))

-- what a started model answers
unfoldable pub of_filled : {X : Type 0} → VbvCbrModel → X → Answer X
of_filled m x =
    refuse 12 (not (variable_fits m))
    (refuse 13 (not m.started)
    (value x))

unfoldable pub occupancy_variable : VbvCbrModel → Answer ℕ
occupancy_variable m = of_filled m (occupancy m.params m.prev_end_bits (delivered m))

-- ---- at a variable rate, or a constant one

abbrev pub model_fits_at : Bool → VbvCbrModel → Bool
model_fits_at true m = variable_fits m
model_fits_at false m = model_fits m

abbrev pub new_model_at : Bool → VbvParams → Answer VbvCbrModel
new_model_at true p = new_variable p
new_model_at false p = new_model p
