use mathlib.Core.Path.{sym, ◌∙◌}
use native.Mathlib.Omega.{arith}
use Rattle.bits.specs.Bits.{pick}
use Rattle.scan.proofs.NextCode.{four_told}
use Rattle.scan.proofs.Walk.{code_seen}
use Rattle.scan.proofs.picture_end.Goals as goal

pub overflow_add-result : goal.overflow_add-result
overflow_add-result c = omega (arith, (code_seen _ _ _ c.requires).room)

pub returns-then-bytes_at : goal.returns-then-bytes_at
unfolding pick
returns-then-bytes_at c = rw (sym (four_told _ _ _ c.requires) ∙ sym c.bytes_at.ensures ∙ c.if-bytes_at.true)

pub returns : goal.returns
unfolding pick
returns c = rw (sym (four_told _ _ _ c.requires) ∙ sym c.bytes_at.ensures ∙ c.if-bytes_at.false)
