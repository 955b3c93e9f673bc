use Rattle.vbv.proofs.Arith.{delay_fit, delay_fit_2}
use Rattle.vbv.proofs.Ways.{delay_unready, delay_range, delay-early, delay_second, delay_long, delay_is}
use native.Mathlib.Omega.{arith}
use Rattle.vbv.proofs.VbvCbrModel.delay_for_picture.Goals as goal

pub returns-in_err-ready : goal.returns-in_err-ready
returns-in_err-ready c = delay_unready _ _ c.in_err-ready.ensures.told _ c.from_residual.ensures.1 _

pub returns-then-pos_bits-gt-FARTHEST : goal.returns-then-pos_bits-gt-FARTHEST
returns-then-pos_bits-gt-FARTHEST c = delay_range c.in_ok-ready.ensures.is_ready _ (omega arith)

pub returns-then-self-pos_bits : goal.returns-then-self-pos_bits
returns-then-self-pos_bits c = delay-early c.in_ok-ready.ensures.is_ready _ (omega arith) (omega arith)

pub returns-then-params-bits : goal.returns-then-params-bits
returns-then-params-bits c = delay_second c.in_ok-ready.ensures.is_ready _ (omega arith) (omega arith) (omega arith)

pub overflow_add-delay : goal.overflow_add-delay
overflow_add-delay c = let f = c.in_ok-ready.ensures.is_ready.fits in record { fits = delay_fit _ _ _ (omega arith) (omega arith) }

pub overflow_add-delay-2 : goal.overflow_add-delay-2
overflow_add-delay-2 c = let f = c.in_ok-ready.ensures.is_ready.fits in record { fits = delay_fit_2 _ _ _ _ (omega arith) (omega arith) (omega arith) }

pub returns-then-delay-le65534 : goal.returns-then-delay-le65534
returns-then-delay-le65534 c = delay_is c.in_ok-ready.ensures.is_ready _ (omega arith) (omega arith) (omega arith)

pub returns-else-delay-le65534 : goal.returns-else-delay-le65534
returns-else-delay-le65534 c = delay_long c.in_ok-ready.ensures.is_ready _ (omega arith) (omega arith) (omega arith)
