use Rattle.layout.proofs.Laying.{state_told}
use borrow.Author.Rules.{rules}
use Rattle.layout.proofs.state.put_state.Goals as goal

pub returns : goal.returns
returns c =
    state_told _ _ _ _ _ _
    (search rules)
    (search rules)
    c.from.ensures
    c.pending_code.ensures
    c.pending_quantiser.ensures
    c.from-5.ensures
    _ _ _ _ _ _
    c.mode_word.ensures
    c.from-6.ensures
    c.from-7.ensures
    c.from-8.ensures
    c.from-9.ensures
    c.open_code.ensures
    _
    (rw (← c.from-2.ensures, ← c.from-3.ensures, ← c.from-4.ensures) c.put_words.ensures)
