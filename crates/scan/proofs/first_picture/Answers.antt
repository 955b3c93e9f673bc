use mathlib.Core.Path.{sym, ◌∙◌}
use Rattle.std.proofs.Common.{rules}
use Rattle.scan.specs.Pictures.{not_picture}
use Rattle.scan.proofs.NextCode.{picture-next}
use Rattle.scan.proofs.Sorts.{picture-code}
use Rattle.scan.proofs.Walk.{stop_here}
use Rattle.scan.proofs.first_picture.Goals as goal

pub returns-then-bytes_at : goal.returns-then-bytes_at
returns-then-bytes_at c = stop_here _ _ _ _ (picture-next _ _ (sym c.bytes_at.ensures ∙ c.if-bytes_at.true)) picture-code

pub returns : goal.returns
unfolding not_picture
returns c = c.first_code_not.ensures not_picture (λ code answer q met. search rules)
