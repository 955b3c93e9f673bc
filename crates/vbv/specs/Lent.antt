-- Start and removal of a lent model (paper 01, 'Rust forms to replace'): what the call answers. The model after it is the new one, or as it was on a refusal: `or_else`.
-- Assumes nothing.
use Rattle.bits.specs.Refusals.{Answer, value, and_then}
use Rattle.vbv.specs.declared.VbvCbrModel.{VbvCbrModel}

-- a new model is stored, and is not answered
abbrev pub done_answer : Answer VbvCbrModel → Answer (Unit {0})
done_answer a = and_then a (λ m. value tt)
