use Rattle.std.proofs.Common.{rules}
use Rattle.scan.proofs.Search.{codes_from-zero}
use Rattle.layers.specs.Headers.{header_code, headers_fit}
use Rattle.layers.proofs.headers_fit.Goals as goal

pub returns : goal.returns
unfolding headers_fit
returns c =
    rw (codes_from-zero c.args.headers.now, c.opens_headers.ensures, c.all_codes.ensures header_code (λ code answer q met. search rules), c.ends_prefix.ensures, c.sequence_fits.ensures)
