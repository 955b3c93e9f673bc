-- What a read of extra information answers in paper 01's terms; what the picture headers do is told by header_answer (headers/specs/Answers).
-- Assumes nothing.
use Rattle.std.specs.Prelude.{ℕ, Option, Some, None}
use Rattle.bits.specs.Refusals.{Answer, value, refused}

-- extra information that the bits end in
abbrev pub extra_answer : Option ℕ → Answer ℕ
extra_answer (Some n) = value n
extra_answer None = refused 1 0 0 0
