use mathlib.Core.Path.{◌≡◌, ap}
use native.Mathlib.Omega.{arith}
use borrow.Author.Rules.{rules}
use lib.ListN.{length}
use Rattle.headers.specs.QuantMatrix.{load_flag}
use Rattle.headers.proofs.QuantMatrix.{matrix_total}
use Rattle.headers.proofs.StreamWriter.{appended_flag, appended_bytes}
use Rattle.writers.proofs.stream_writer.append_matrix.Goals as goal

pub append_bytes-requires-clause-at_bound_2 : goal.append_bytes-requires-clause-at_bound_2
append_bytes-requires-clause-at_bound_2 c = omega (arith, matrix_total c.args.matrix, ap load_flag c.in-Some.is)

pub returns-in-None : goal.returns-in-None
returns-in-None c =
    let both = appended_flag _ _ (rw c.in-None.is at c.requires.matrix_bound) c.append_bits.ensures.out_after in
    record { value = rw c.in-None.is both.0; out_after = rw c.in-None.is both.1 }

pub returns-in-Some : goal.returns-in-Some
returns-in-Some c =
    let l : length c.in-Some.bytes ≡ 64 = search rules in
    let both = appended_bytes _ _ c.in-Some.bytes l (rw c.in-Some.is at c.requires.matrix_bound) c.append_bits-in-Some.ensures.out_after c.append_bytes.ensures in
    record { value = rw c.in-Some.is both.0; out_after = rw c.in-Some.is both.1 }
