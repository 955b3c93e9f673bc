use Rattle.layers.specs.Layer.{layer_fits}
use Rattle.layers.proofs.layer_fits.Goals as goal

pub returns : goal.returns
unfolding layer_fits
returns c = rw (c.header_fits.ensures, c.layer_codes.ensures, c.ends_prefix.ensures)
