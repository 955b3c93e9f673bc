-- Lists of calls on a writer: each gets what the one before left (paper 01, 'A placed picture').
-- Assumes nothing.
use Rattle.std.specs.Prelude.{ℕ, List, [], ◌∷◌}
use Rattle.bits.specs.Refusals.{Answer, or_else, number}
use Rattle.rate_control.specs.Answers.{Given}
use Rattle.rate_control.specs.Offer.{Offer, offer, left, out_after, withdraw}
use Rattle.rate_control.specs.declared.CbrWriter.{CbrWriter}

pub data Call : Type 0 where
  offering : Offer → Call
  withdrawing : Call

-- a call that was made: an offer, its answer and what its output part then holds; a withdrawal's number, 0 where it is not refused
pub data Step : Type 0 where
  offered : Offer → Answer Given → List ℕ → Step
  withdrawn : ℕ → Step

unfoldable pub step_of : CbrWriter → Call → Step
step_of w (offering o) = offered o (offer w o) (out_after w o)
step_of w withdrawing = withdrawn (number (withdraw w))

unfoldable pub left_by_call : CbrWriter → Call → CbrWriter
left_by_call w (offering o) = left w o
left_by_call w withdrawing = or_else w (withdraw w)

unfoldable pub steps_of : CbrWriter → List Call → List Step
steps_of w [] = []
steps_of w (c ∷ cs) = step_of w c ∷ steps_of (left_by_call w c) cs

unfoldable pub final : CbrWriter → List Call → CbrWriter
final w [] = w
final w (c ∷ cs) = final (left_by_call w c) cs
