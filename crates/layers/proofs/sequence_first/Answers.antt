use mathlib.Core.Path.{sym, ◌∙◌}
use native.Mathlib.Omega.{arith}
use Rattle.std.proofs.Common.{rules}
use Rattle.scan.specs.Pictures.{not_sequence}
use Rattle.scan.proofs.Search.{sequence_test}
use Rattle.scan.proofs.Walk.{code_seen}
use Rattle.layers.proofs.Ways.{first-none, first_some}
use Rattle.layers.proofs.sequence_first.Goals as goal

pub overflow_add-first : goal.overflow_add-first
overflow_add-first c = omega (arith, (code_seen _ _ _ (sym c.next_code.ensures ∙ c.in-Some.is)).room)

pub returns-in_default : goal.returns-in_default
returns-in_default c = first-none _ (sym c.next_code.ensures ∙ c.in_default.is)

pub returns : goal.returns
returns c =
    rw (c.all_codes-others.ensures not_sequence (λ code answer q met. rw (← sequence_test code) (search rules)))
    (first_some _ _ (sym c.next_code.ensures ∙ c.in-Some.is))
