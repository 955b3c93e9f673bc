use Rattle.bits.proofs.Flags.{told_by}
use Rattle.vbv.specs.Annex.{unit}
use Rattle.vbv.proofs.Fitting.{fits_in_range, end_fits_lem}
use Rattle.vbv.proofs.Ways.{remove_unready, remove_range, remove-over, remove_under, remove_is}
use native.Mathlib.Omega.{arith}
use Rattle.vbv.proofs.VbvCbrModel.remove_picture.Goals as goal

pub returns-in_err-ready : goal.returns-in_err-ready
returns-in_err-ready c = remove_unready _ _ c.in_err-ready.ensures.told _ c.from_residual.ensures.1 _ _

pub returns-then-not-end_fits : goal.returns-then-not-end_fits
returns-then-not-end_fits c = remove_range c.in_ok-ready.ensures.is_ready _ _ (search told_by)

pub rounded_up-requires : goal.rounded_up-requires
unfolding unit
rounded_up-requires c = let f = c.in_ok-ready.ensures.is_ready.fits in record { whole_bound = omega arith; rest_bound = omega arith }

pub returns-then-self-params : goal.returns-then-self-params
returns-then-self-params c = remove-over c.in_ok-ready.ensures.is_ready _ (end_fits_lem (search told_by)) _ _ c.rounded_up.ensures (omega arith)

pub returns-then-self-end_bits : goal.returns-then-self-end_bits
returns-then-self-end_bits c = remove_under c.in_ok-ready.ensures.is_ready _ (end_fits_lem (search told_by)) _ _ c.rounded_up.ensures (omega arith) (omega arith)

pub advanced-next-requires : goal.advanced-next-requires
advanced-next-requires c = fits_in_range c.in_ok-ready.ensures.is_ready.fits

pub returns : goal.returns
returns c = remove_is c.in_ok-ready.ensures.is_ready _ (end_fits_lem (search told_by)) _ _ c.rounded_up.ensures (omega arith) (omega arith) _ c.advanced-next.ensures
