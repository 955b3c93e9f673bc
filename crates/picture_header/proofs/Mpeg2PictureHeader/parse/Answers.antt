use borrow.Author.Rules.{rules}
use mathlib.Core.Path.{sym, ap, ◌∙◌}
use native.Mathlib.Omega.{arith}
use Rattle.bits.specs.Refusals.{value}
use Rattle.picture_header.proofs.Straight.{header_straight}
use Rattle.picture_header.proofs.Mpeg2PictureHeader.parse.Goals as goal

pub returns-then-usual_header : goal.returns-then-usual_header
returns-then-usual_header c =
    ap value c.header_of.ensures
    ∙ rw (c.delay_in.ensures, c.type_in.ensures)
    (header_straight c.args.buf.now (omega arith) (λ k. search rules) _ _ c.word.ensures c.long_word-w.ensures
    (sym c.usual_header.ensures ∙ c.if-usual_header.true))
