use mathlib.Core.Path.{◌∙◌}
use native.Mathlib.Omega.{arith}
use borrow.Author.Tests.{lt-leb}
use Rattle.vbv.proofs.Patching.{starts-short, starts_picture_is}
use Rattle.vbv.proofs.starts_picture.Goals as goal

pub returns-then-s-ge8 : goal.returns-then-s-ge8
returns-then-s-ge8 c = c.starts_with.ensures ∙ starts_picture_is _ (omega arith)

pub returns-else-s-ge8 : goal.returns-else-s-ge8
returns-else-s-ge8 c = lt-leb _ _ (omega arith) ∙ starts-short _ (omega arith)
