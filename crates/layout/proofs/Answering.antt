-- How long a refused offer's words are.
-- Assumes nothing.
use mathlib.Core.Path.{◌≡◌}
use Prim.Native.Nat.{ℕ}
use native.Mathlib.Omega.{arith}
use lib.ListN.{length}
use Rattle.bits.specs.Refusals.{refused}
use Rattle.words.specs.Words.{words_bytes}
use Rattle.layout.specs.Answers.{answer_size, answer_words}
use Rattle.words.proofs.Bytes.{length_words}

pub length-refused-answer : (n picture coded expected : ℕ) → length (words_bytes (answer_words (refused n picture coded expected))) ≡ answer_size
unfolding answer_words
length-refused-answer n picture coded expected = omega (arith, length_words (answer_words (refused n picture coded expected)))
