use borrow.Author.Rules.{rules}
use native.Mathlib.Omega.{arith}
use Rattle.bits.proofs.Inside.{bits_four}
use Rattle.picture_header.proofs.word.Goals as goal

pub returns : goal.returns
returns c =
    omega (arith, bits_four c.args.s.now c.args.at (search rules) (search rules) (search rules) (search rules))
