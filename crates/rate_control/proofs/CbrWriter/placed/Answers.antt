use Rattle.rate_control.proofs.Steering.{placed_told, target-of}
use borrow.Author.Rules.{rules}
use Rattle.rate_control.proofs.CbrWriter.placed.Goals as goal

pub steered-requires-clause-target_le_farthest : goal.steered-requires-clause-target_le_farthest
steered-requires-clause-target_le_farthest c = search (rules, target-of)

pub returns : goal.returns
returns c = search (rules, placed_told)
