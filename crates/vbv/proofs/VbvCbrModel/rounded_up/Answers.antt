use Rattle.vbv.proofs.Ways.{up_more, up-whole}
use native.Mathlib.Omega.{arith}
use Rattle.vbv.proofs.VbvCbrModel.rounded_up.Goals as goal

pub returns-then-self-gt0 : goal.returns-then-self-gt0
returns-then-self-gt0 c = up_more _ (omega arith) (search)

pub returns-else-self-gt0 : goal.returns-else-self-gt0
returns-else-self-gt0 c = up-whole _ (omega arith) (search)
