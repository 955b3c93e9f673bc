use native.Mathlib.Omega.{arith}
use Rattle.words.proofs.Reading.{word_whole, word_past, word_cut}
use Rattle.words.proofs.word_at.Goals as goal

pub returns-then-k-words : goal.returns-then-k-words
returns-then-k-words c = word_whole _ _ c.as_chunks.ensures.front (omega arith) c.from_le_bytes.ensures

pub returns-then-words-k : goal.returns-then-words-k
returns-then-words-k c = word_past _ _ (omega arith)

pub returns : goal.returns
returns c =
    word_cut _ _ (omega arith) c.as_chunks.ensures.back c.copy_from_slice.ensures.after c.from_le_bytes-2.ensures
