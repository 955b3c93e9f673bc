use borrow.Author.Rules.{rules}
use Prim.Native.Nat.{◌+◌, ◌*◌}
use native.Mathlib.Omega.{arith}
use Rattle.bits.proofs.Inside.{bits_byte_more}
use Rattle.picture_header.proofs.long_word.Goals as goal

pub returns : goal.returns
returns c =
    let a = c.args in
    omega (arith, bits_byte_more a.s.now (8 * a.at) (a.at + 4) 32 (omega arith) (search rules))
