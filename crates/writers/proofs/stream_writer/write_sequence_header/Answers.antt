use borrow.Author.Rules.{rules}
use native.Mathlib.Omega.{arith}
use Prim.Native.Nat.{◌+◌}
use Rattle.bits.proofs.Checking.{checked-width, checked_misfit}
use Rattle.headers.proofs.StreamWriter.{Sized, params-unfit, params-bytes, params-full, params-written}
use Rattle.writers.proofs.stream_writer.write_sequence_header.Goals as goal
use Rattle.writers.proofs.stream_writer.write_sequence_header.Goals.{After-matrix_bytes-2}

-- what the check found, and the count
sized : (c : After-matrix_bytes-2) → Sized c.args.p (12 + c.matrix_bytes.result + c.matrix_bytes-2.result)
sized c =
    record {
      intra_held = search rules;
      non_intra_held = search rules;
      fit = rw c.base_values-values.ensures at (checked-width _ _ c.in-Some.ensures).0;
      count = omega arith;
    }

pub returns-in_default : goal.returns-in_default
returns-in_default c =
    let both = params-unfit _ _ (rw c.base_values-values.ensures at (checked_misfit _ _ c.in_default.ensures)) in
    record { result_value = both.0; out_after = both.1 }

pub returns-then-out-bytes : goal.returns-then-out-bytes
returns-then-out-bytes c =
    let both = params-full (sized (goal.at.returns-then-out-bytes c).After-matrix_bytes-2) _ c.if-out-bytes.true in
    record { result_value = both.0; out_after = both.1 }

pub put_header-requires : goal.put_header-requires
put_header-requires c =
    let d = sized (goal.at.put_header-requires c).After-matrix_bytes-2 in
    record { p_value = d.fit; p_bound = omega (arith, params-bytes d) }

pub returns : goal.returns
returns c =
    let both = params-written (sized (goal.at.returns c).After-matrix_bytes-2) _ c.if-out-bytes.false c.put_header.ensures in
    record { result_value = both.0; out_after = both.1 }
