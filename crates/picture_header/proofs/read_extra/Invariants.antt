use Rattle.picture_header.proofs.ExtraInformation.{Walk}
use Rattle.picture_header.proofs.read_extra.Given as goal

abbrev pub invariant-loop-n : goal.invariant-loop-n
invariant-loop-n l = Walk l.buf l.first l.n
