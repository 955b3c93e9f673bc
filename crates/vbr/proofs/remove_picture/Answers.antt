use Rattle.bits.proofs.Flags.{told_by}
use Rattle.vbv.proofs.Fitting.{end_fits_lem}
use Rattle.vbr.proofs.Ways.{remove_unready, remove_range, remove_under, cappable, remove_is, no_refusal}
use native.Mathlib.Omega.{arith}
use Rattle.vbr.proofs.remove_picture.Goals as goal

pub returns-in_err-ready : goal.returns-in_err-ready
returns-in_err-ready c = remove_unready _ _ c.in_err-ready.ensures.told _ c.from_residual.ensures.1 _ _

pub returns-then-not-end_fits : goal.returns-then-not-end_fits
returns-then-not-end_fits c = remove_range c.in_ok-ready.ensures.is_ready _ _ (search told_by)

pub returns-then-model-end_bits : goal.returns-then-model-end_bits
returns-then-model-end_bits c = remove_under c.in_ok-ready.ensures.is_ready _ (end_fits_lem (search told_by)) _ (omega arith)

pub returns-in_err-next : goal.returns-in_err-next
returns-in_err-next c = no_refusal c.in_ok-ready.ensures.is_ready _ (end_fits_lem (search told_by)) _ _ _ c.in_err-next.ensures

pub capped-requires : goal.capped-requires
capped-requires c = cappable c.in_ok-ready.ensures.is_ready _ (end_fits_lem (search told_by)) _ _ c.in_ok-next.ensures

pub returns : goal.returns
returns c = remove_is c.in_ok-ready.ensures.is_ready _ (end_fits_lem (search told_by)) _ _ c.in_ok-next.ensures (omega arith) _ c.capped.ensures
