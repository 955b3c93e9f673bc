use native.Mathlib.Omega.{arith}
use borrow.Author.Rules.{rules}
use Rattle.rate_control.proofs.Storage.{end_put, end_none, end_size}
use Rattle.rate_control.proofs.output.put_end.Goals as goal

pub put-requires : goal.put-requires
put-requires c = omega (arith, end_size)

pub returns-then-last : goal.returns-then-last
returns-then-last c = search (rules, end_put)

pub returns-else-last : goal.returns-else-last
returns-else-last c = search (rules, end_none)
