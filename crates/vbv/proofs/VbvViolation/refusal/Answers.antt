use Rattle.vbv.proofs.VbvViolation.refusal.Goals as goal

pub returns-in-Overflow : goal.returns-in-Overflow
returns-in-Overflow c = rw c.in-Overflow.is

pub returns-in-Underflow : goal.returns-in-Underflow
returns-in-Underflow c = rw c.in-Underflow.is

pub returns-in-DelayMismatch : goal.returns-in-DelayMismatch
returns-in-DelayMismatch c = rw c.in-DelayMismatch.is
