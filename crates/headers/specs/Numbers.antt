-- Which refusals the headers have (paper 01, 'Headers read and written').
-- Assumes nothing.
use Rattle.std.specs.Prelude.{ℕ, List, [], ◌∷◌}
use Rattle.bits.specs.Numbers.{Numbered}
use Rattle.bits.specs.Fields.{Field}
use Rattle.bits.specs.Answers.{write_answer}
use Rattle.headers.specs.SequenceHeader.{sequence_header}
use Rattle.headers.specs.SequenceExtension.{sequence_extension}
use Rattle.headers.specs.Sequence.{sequence}

-- what is owed: 1 or 2 for reading, 16 or 19 for writing
pub record HeaderNumbers : Type 0 where
  pub sequence_header_lem : (s : List ℕ) → Numbered (1 ∷ 2 ∷ []) [] [] (sequence_header s)
  pub sequence_extension_lem : (s : List ℕ) → Numbered (1 ∷ 2 ∷ []) [] [] (sequence_extension s)
  pub both : (s : List ℕ) → Numbered (1 ∷ 2 ∷ []) [] [] (sequence s)
  pub written : (code : List ℕ) (fs : List Field) (vs out : List ℕ) → Numbered (16 ∷ 19 ∷ []) [] [] (write_answer code fs vs out)
