use mathlib.Core.Path.{refl}
use Rattle.headers.specs.Sequence.{sequence_of}
use Rattle.headers.proofs.sequence_extension.sequence_of.Goals as goal

pub returns : goal.returns
unfolding sequence_of
returns c = refl
