use native.Mathlib.Omega.{arith}
use Rattle.headers.specs.GroupHeader.{time_code}
use Rattle.headers.proofs.GroupHeader.{rate_bound, code_at, no_code}
use Rattle.headers.proofs.gop_header.TimeCode.from_display_index.Goals as goal

pub returns-in_err-fps : goal.returns-in_err-fps
returns-in_err-fps c = rw c.from_residual.ensures (no_code _ _ c.in_err-fps.ensures)

pub nonzero_div-total_seconds : goal.nonzero_div-total_seconds
nonzero_div-total_seconds c = omega (arith, rate_bound _ _ c.in_ok-fps.ensures)

pub nonzero_rem-result-4 : goal.nonzero_rem-result-4
nonzero_rem-result-4 c = omega (arith, rate_bound _ _ c.in_ok-fps.ensures)

pub overflow_cast-result-4 : goal.overflow_cast-result-4
overflow_cast-result-4 c = omega (arith, rate_bound _ _ c.in_ok-fps.ensures)

pub returns : goal.returns
unfolding time_code
returns c = code_at _ _ c.in_ok-fps.ensures
