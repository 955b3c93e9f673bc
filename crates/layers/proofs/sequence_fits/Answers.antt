use Rattle.std.proofs.Common.{rules}
use Rattle.scan.specs.Pictures.{not_sequence}
use Rattle.scan.proofs.Search.{sequence_test, codes_from-zero}
use Rattle.layers.specs.Headers.{sequence_fits}
use Rattle.layers.proofs.sequence_fits.Goals as goal

pub returns-then-placed : goal.returns-then-placed
unfolding sequence_fits
returns-then-placed c =
    rw (c.if-placed.true, codes_from-zero c.args.headers.now)
    (c.all_codes.ensures not_sequence (λ code answer q met. rw (← sequence_test code) (search rules)))

pub returns : goal.returns
unfolding sequence_fits
returns c = rw (c.if-placed.false, c.sequence_first.ensures, c.declares.ensures)
