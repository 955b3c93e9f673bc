use Rattle.vbv.specs.Model.{min_end_bits}
use Rattle.vbv.proofs.Fitting.{fits_in_range}
use Rattle.vbv.proofs.Ways.{answered, answer_unready, least_at, next_fits}
use Rattle.vbv.proofs.VbvCbrModel.min_end_bits.Goals as goal

pub returns-in_err-ready : goal.returns-in_err-ready
unfolding min_end_bits
returns-in_err-ready c = answer_unready _ _ c.in_err-ready.ensures.told _ c.from_residual.ensures.1 _

pub advanced-next-requires : goal.advanced-next-requires
advanced-next-requires c = fits_in_range c.in_ok-ready.ensures.is_ready.fits

pub rounded_up-requires : goal.rounded_up-requires
rounded_up-requires c =
    let f = next_fits _ _ c.in_ok-ready.ensures.is_ready.fits _ c.advanced-next.ensures in
    record { whole_bound = f.0; rest_bound = f.1 }

pub returns : goal.returns
unfolding min_end_bits
returns c =
    let r = c.in_ok-ready.ensures.is_ready in
    rw (c.saturating_sub.ensures, least_at r _ _ c.advanced-next.ensures _ c.rounded_up.ensures) (answered r _)
