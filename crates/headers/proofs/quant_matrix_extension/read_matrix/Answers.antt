use mathlib.Core.Path.{sym}
use Rattle.std.proofs.lemmas.Result.{err_from_is_err_and}
use Rattle.headers.proofs.QuantMatrix.{flag_missed, flag_unset, flag_set}
use Rattle.headers.proofs.quant_matrix_extension.read_matrix.Goals as goal

pub returns-in_default : goal.returns-in_default
returns-in_default c = sym (flag_missed _ _ c.in_default.ensures)

pub returns-then-load-eq0 : goal.returns-then-load-eq0
returns-then-load-eq0 c = sym (flag_unset _ _ _ c.in-Some.ensures c.if-load-eq0.true)

pub returns-in_err-bytes : goal.returns-in_err-bytes
returns-in_err-bytes c =
    let p = err_from_is_err_and c.from_residual.result c.from_residual.ensures.1 in
    rw (p.1, p.2, flag_set _ _ _ c.in-Some.ensures c.if-load-eq0.false, ← c.in_err-bytes.ensures)

pub returns : goal.returns
returns c = rw (flag_set _ _ _ c.in-Some.ensures c.if-load-eq0.false, ← c.in_ok-bytes.ensures)
