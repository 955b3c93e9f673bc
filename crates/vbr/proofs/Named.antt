-- What a model at a variable rate answers, by the names of the cases: for callers that match on them.
-- Assumes nothing.
use mathlib.Core.Path.{◌≡◌}
use mathlib.Core.Bool.{true, false}
use Prim.Native.Nat.{ℕ}
use Rattle.std.specs.Prelude.{Ok, Err}
use Rattle.bits.specs.Bits.{pick}
use Rattle.bits.proofs.Flags.{pick_in}
use Rattle.vbv.specs.Annex.{beyond, occupancy, full, arrived}
use Rattle.vbv.specs.Model.{params_in_range, delivered, at_delivered, after_removal, periods}
use Rattle.vbv.specs.Steps.{EndFits, model_of, removal_of}
use Rattle.vbv.specs.declared.RemovalInterval.{RemovalInterval}
use Rattle.vbv.specs.declared.VbvParams.{VbvParams}
use Rattle.vbv.specs.declared.VbvCbrModel.{VbvCbrModel}
use Rattle.vbv.specs.declared.VbvError.TheVariants.{Params}
use Rattle.vbv.specs.declared.VbvViolation.TheVariants.{Underflow}
use Rattle.vbv.specs.declared.VbvRemovalError.TheVariants.{Violation}
use Rattle.vbv.proofs.Named.{model_12, model-value, removal_10, removal-value}
use Rattle.vbr.specs.Variable.{variable_fits, new_variable, start_variable, remove_variable, occupancy_variable}
use Rattle.vbr.proofs.Laws.{variable_unmade, variable_makes, variable-starts, variable-removal_told, variable-occupancy_told}

pub variable_unmade_named : (p : VbvParams) → params_in_range p ≡ false → model_of (new_variable p) ≡ Err Params
variable_unmade_named p h = rw (variable_unmade p h, model_12)

pub variable_makes_named : (p : VbvParams) → params_in_range p ≡ true
    → model_of (new_variable p) ≡ Ok (record { params = p; whole = 0; rest = 0; prev_end_bits = 0; removed = 0; started = false })
variable_makes_named p h = rw (variable_makes p h, model-value)

pub variable-starts_named : (m : VbvCbrModel) → variable_fits m ≡ true → m.started ≡ false
    → model_of (start_variable m) ≡ Ok (at_delivered m (full m.params 0))
variable-starts_named m f s = rw (variable-starts m f s, model-value)

module _ (m : VbvCbrModel) (f : variable_fits m ≡ true) (s : m.started ≡ true) where
  pub variable-removal_named : (end : ℕ) (i : RemovalInterval) → EndFits m end
      → removal_of (remove_variable m end i)
      ≡ pick (beyond m.params end (delivered m)) (Err (Violation (Underflow m.removed 0 0)))
      (Ok (after_removal m end (arrived true m.params end (delivered m) (periods i))))
  variable-removal_named end i h = rw (variable-removal_told m f s end i h, pick_in removal_of, removal_10, removal-value)

  pub variable-occupancy_named : model_of (occupancy_variable m) ≡ Ok (occupancy m.params m.prev_end_bits (delivered m))
  variable-occupancy_named = rw (variable-occupancy_told m f s, model-value)
