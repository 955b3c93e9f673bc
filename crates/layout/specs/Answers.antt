-- Report, refusal and an offer's answer as words (docs/LAYOUT.md).
-- Assumes nothing.
use Rattle.std.specs.Prelude.{ℕ, List, [], ◌∷◌}
use Rattle.verify.specs.declared.VbvStreamReport.{VbvStreamReport}
use Rattle.bits.specs.declared.VbvRefusal.{VbvRefusal}
use Rattle.bits.specs.Refusals.{Answer, value, refused}
use Rattle.rate_control.specs.Answers.{Given, placed, again}

-- how many bytes each has: five, four and nine words
abbrev pub report_size : ℕ
report_size = 40

abbrev pub refusal_size : ℕ
refusal_size = 32

abbrev pub answer_size : ℕ
answer_size = 72

unfoldable pub report_words : VbvStreamReport → List ℕ
report_words r =
    r.bit_rate ∷ r.buffer_size_bits ∷ r.pictures ∷ r.min_occupancy_after_bits ∷ r.max_occupancy_before_bits ∷ []

unfoldable pub refusal_words : VbvRefusal → List ℕ
refusal_words r = r.number ∷ r.picture ∷ r.coded ∷ r.expected ∷ []

-- outcome (0 placed, 1 again, 2 refused), number, picture, coded, expected, quantiser, delay, bytes placed, stuffing bytes among them; 0 where an outcome has no use for it
unfoldable pub answer_words : Answer Given → List ℕ
answer_words (value (placed q delay bytes stuffing)) = 0 ∷ 0 ∷ 0 ∷ 0 ∷ 0 ∷ q ∷ delay ∷ bytes ∷ stuffing ∷ []
answer_words (value (again q)) = 1 ∷ 0 ∷ 0 ∷ 0 ∷ 0 ∷ q ∷ 0 ∷ 0 ∷ 0 ∷ []
answer_words (refused n picture coded expected) = 2 ∷ n ∷ picture ∷ coded ∷ expected ∷ 0 ∷ 0 ∷ 0 ∷ 0 ∷ []
