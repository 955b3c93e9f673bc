use Rattle.bits.proofs.Flags.{told_by}
use Rattle.vbv.proofs.Ways.{handed_on}
use Rattle.rate_control.proofs.Creation.{config_ranges, way_6}
use Rattle.rate_control.proofs.CbrWriter.create.Goals as goal

pub with_rate-requires : goal.with_rate-requires
with_rate-requires c = config_ranges _ (search told_by)

pub returns-in_err-frn : goal.returns-in_err-frn
returns-in_err-frn c = rw (handed_on _ c.from_residual.ensures.1) (way_6 _ _ c.fits.ensures c.if-fits.true _ c.frame_rate_value.ensures _ c.in_err-frn.was)
