use borrow.Author.Rules.{rules}
use mathlib.Core.Path.{sym, ◌∙◌}
use native.Mathlib.Omega.{arith}
use Rattle.picture_header.proofs.Straight.{told_straight}
use Rattle.picture_header.proofs.picture_facts.told.Goals as goal

pub returns-then-usual_header : goal.returns-then-usual_header
returns-then-usual_header c =
    rw (c.facts.ensures, c.coding_type_of-coding_type.ensures, c.type_in.ensures, c.delay_in-vbv_delay.ensures)
    (told_straight c.args.buf.now (λ k. search rules) _ _ c.word.ensures c.long_word-w.ensures
    (omega arith) (sym c.usual_header.ensures ∙ c.if-usual_header.true))
