use borrow.Author.Rules.{rules}
use mathlib.Core.Path.{sym, ◌∙◌}
use native.Mathlib.Omega.{arith}
use Rattle.picture_header.proofs.Straight.{first_range, both_straight}
use Rattle.picture_header.proofs.picture_facts.told_with_extension.Goals as goal

pub long_word-x-requires : goal.long_word-x-requires
long_word-x-requires c = omega (arith, first_range _ _ c.extra_bit.ensures)

pub word-requires-then-usual_header-code : goal.word-requires-then-usual_header-code
word-requires-then-usual_header-code c = omega (arith, first_range _ _ c.extra_bit.ensures)

pub returns-then-usual_coding : goal.returns-then-usual_coding
returns-then-usual_coding c =
    rw (
      c.facts.ensures,
      c.picture_structure_of-structure.ensures,
      c.coding_type_of-coding_type.ensures,
      c.type_in-code.ensures,
      c.delay_in-vbv_delay.ensures,
    )
    (both_straight c.args.buf.now (λ k. search rules) _ _ c.word.ensures c.long_word-w.ensures
    (omega arith) (rw (← c.usual_header.ensures, ← c.type_in-code.ensures) c.if-usual_header-code.true)
    _ (rw (c.from.ensures, c.extra_bit.ensures, c.type_in-code.ensures)) _ _ c.word-then-usual_header-code.ensures c.long_word-x.ensures
    (sym c.usual_coding.ensures ∙ c.if-usual_coding.true))
