use mathlib.Core.Path.{refl, sym, ◌∙◌}
use native.Mathlib.Omega.{arith}
use Prim.Native.Nat.{◌+◌, ◌-◌}
use lib.ListN.{get_or}
use Rattle.words.proofs.Laying.{words_step, words_end, words_over, word_stored}
use Rattle.words.proofs.put_all.Goals as goal

pub loop-word-init : goal.loop-word-init
loop-word-init c = (refl, refl)

pub loop-word-preserved : goal.loop-word-preserved
loop-word-preserved c =
    let i = c.loop-word.invariant in
    let x = rw c.to_le_bytes.ensures at (c.copy_from_slice.ensures.after) in
    let at = c.loop-word.at in
    let v = get_or c.args.words.now c.loop-word.word-index 0 in
    (omega arith, rw (word_stored c.loop-word.out at (at + 8 - at) v (omega arith) (omega arith) x, i.0) (words_step _ _ _ c.loop-word-test.true ∙ i.1))

pub returns : goal.returns
returns c = sym (words_end _ _ _ c.loop-word-test.false) ∙ c.loop-word.invariant.1 ∙ words_over _ _ (omega arith)
