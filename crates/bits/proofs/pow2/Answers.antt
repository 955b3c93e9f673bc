use lib.Pow.{pow-lt}
use native.Mathlib.Nat.{one-mul, mod-eq_of_lt}
use native.Mathlib.Omega.{arith}
use Prim.Native.Nat.{◌^◌}
use Rattle.bits.proofs.pow2.Goals as goal

pub returns : goal.returns
returns c = rw (one-mul (2 ^ c.args.k)) (mod-eq_of_lt (pow-lt {j = 64} (omega arith)))
