use mathlib.Core.Path.{sym, ◌∙◌}
use native.Mathlib.Omega.{arith}
use Rattle.scan.proofs.Walk.{code_seen}
use Rattle.layers.proofs.Ways.{layer-none, layer-some}
use Rattle.layers.proofs.layer_codes.Goals as goal

pub overflow_add-first : goal.overflow_add-first
overflow_add-first c = omega (arith, (code_seen _ _ _ (sym c.next_code.ensures ∙ c.in-Some.is)).room)

pub returns-in_default : goal.returns-in_default
returns-in_default c = layer-none _ (sym c.next_code.ensures ∙ c.in_default.is)

pub returns : goal.returns
returns c = rw c.slices_after.ensures (layer-some _ _ (sym c.next_code.ensures ∙ c.in-Some.is))
