use native.Mathlib.Omega.{arith}
use Rattle.bits.proofs.Storing.{byte_high, kept_none}
use Rattle.bits.proofs.kept.Goals as goal

pub returns-then-offset-eq0 : goal.returns-then-offset-eq0
returns-then-offset-eq0 c = kept_none _ _ c.if-offset-eq0.true

pub returns : goal.returns
returns c = rw (c.from.ensures, c.pow2.ensures) (byte_high _ _ _ (omega arith) (omega arith))
