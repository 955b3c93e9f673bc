use mathlib.Core.Path.{◌≡◌}
use Prim.Native.Nat.{◌*◌}
use lib.ListN.{drop}
use lib.Seq.{sets}
use Rattle.words.specs.Words.{words_bytes}
use Rattle.words.proofs.put_all.Given as goal

abbrev pub invariant-loop-word : goal.invariant-loop-word
invariant-loop-word l =
    (l.at ≡ 8 * l.word-index) × (sets l.out (8 * l.word-index) (words_bytes (drop l.word-index l.words)) ≡ sets l.initial.out 0 (words_bytes l.words))
