use Rattle.words.proofs.Laying.{way_laid, way_short}
use borrow.Author.Rules.{rules}
use Rattle.words.proofs.put_words.Goals as goal

pub returns-then-words-place : goal.returns-then-words-place
returns-then-words-place c = search (rules, way_laid)

pub returns-else-words-place : goal.returns-else-words-place
returns-else-words-place c = search (rules, way_short)
