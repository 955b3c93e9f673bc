use borrow.Author.Rules.{rules}
use native.Mathlib.Omega.{arith}
use Rattle.headers.proofs.StreamWriter.{matrix_most, params-total, params-laid}
use Rattle.writers.proofs.stream_writer.put_header.Goals as goal

pub append_matrix-follows-requires-clause-matrix_bound : goal.append_matrix-follows-requires-clause-matrix_bound
append_matrix-follows-requires-clause-matrix_bound c = omega (arith, params-total c.args.p)

pub append_matrix-requires-clause-at_bound : goal.append_matrix-requires-clause-at_bound
append_matrix-requires-clause-at_bound c = omega (arith, matrix_most c.args.p.intra_quantiser_matrix)

pub append_matrix-requires-clause-matrix_bound : goal.append_matrix-requires-clause-matrix_bound
append_matrix-requires-clause-matrix_bound c = omega (arith, params-total c.args.p)

pub returns : goal.returns
returns c =
    let a = c.append_matrix-follows.ensures in
    params-laid c.args.p _ (search rules) (search rules) c.requires.p_value c.requires.p_bound
    (rw c.base_values-values.ensures at c.write_header.ensures.out_after) a.out_after (rw a.value at c.append_matrix.ensures.out_after)
