use Rattle.vbv.specs.Model.{model_fits, start_model}
use Rattle.vbv.specs.Steps.{ModelFits}
use mathlib.Core.Path.{refl}
use borrow.Author.Tests.{le-ltb, lt-ltb}
use Rattle.bits.proofs.Flags.{yes, no, held, failed, told_by}
use Rattle.vbv.proofs.Arith.{ticks_fit, start_fit, rest_fit}
use Rattle.vbv.proofs.Fitting.{model_fits_lem}
use Rattle.vbv.proofs.Ways.{begun_is}
use native.Mathlib.Omega.{arith}
use Rattle.vbv.proofs.VbvCbrModel.start.Goals as goal

pub returns-then-not-fits : goal.returns-then-not-fits
unfolding start_model
returns-then-not-fits c = failed (model_fits _) _ _ (search told_by) refl

pub returns-then-self : goal.returns-then-self
unfolding start_model
returns-then-self c = held (model_fits _) _ _ (search told_by) (yes _ _ _ (search) refl)

pub returns-then-pos0_bits-gt-FARTHEST : goal.returns-then-pos0_bits-gt-FARTHEST
unfolding start_model
returns-then-pos0_bits-gt-FARTHEST c = held (model_fits _) _ _ (search told_by) (no _ _ _ (search) (yes _ _ _ (search lt-ltb) refl))

pub overflow_mul-ticks : goal.overflow_mul-ticks
overflow_mul-ticks c = let f : ModelFits c.args.self = model_fits_lem (search told_by) in record { fits = ticks_fit _ _ (omega arith) (omega arith) }

pub overflow_add-result : goal.overflow_add-result
overflow_add-result c = let f : ModelFits c.args.self = model_fits_lem (search told_by) in record { fits = start_fit _ _ _ (omega arith) (omega arith) (omega arith) }

pub overflow_mul-result-2 : goal.overflow_mul-result-2
overflow_mul-result-2 c = let f : ModelFits c.args.self = model_fits_lem (search told_by) in record { fits = rest_fit _ _ (omega arith) (omega arith) }

pub returns : goal.returns
unfolding start_model
returns c =
    let f : ModelFits c.args.self = model_fits_lem (search told_by) in
    held (model_fits _) _ _ (search told_by) (no _ _ _ (search) (no _ _ _ (search le-ltb) (rw (c.from.ensures, begun_is c.args.self _ _ (omega arith)))))
