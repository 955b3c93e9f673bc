use borrow.Author.Rules.{rules}
use mathlib.Core.Path.{◌≡◌, sym, ◌∙◌}
use mathlib.Core.Bool.{true, false}
use Rattle.bits.proofs.Flags.{clash}
use native.Mathlib.Omega.{arith}
use Rattle.picture_header.specs.CodingExtension.{coding_extension_of}
use Rattle.picture_header.proofs.Straight.{coding_straight, coding_only, coding_nine}
use Rattle.picture_header.proofs.PictureCodingExtension.parse.Goals as goal
use Rattle.picture_header.proofs.PictureCodingExtension.parse.Goals.{then-buf-ge9+else-usual_coding, else-buf-ge9}

pub returns-then-usual_coding : goal.returns-then-usual_coding
unfolding coding_extension_of
returns-then-usual_coding c =
    rw c.picture_structure_of.ensures
    (coding_straight c.args.buf.now (omega arith) (λ k. search rules) _ _ c.word.ensures c.long_word-w.ensures
    (sym c.usual_coding.ensures ∙ c.if-usual_coding.true))

pub refused_coding-requires : goal.refused_coding-requires
refused_coding-requires c = λ x a.
    let s = c.args.buf.now in
    elim c.if-buf-ge9.branch [
      | then-buf-ge9+else-usual_coding w ↦
          let z : true ≡ false =
          sym (coding_only s (omega arith) (λ k. search rules) _ _ w.word.ensures w.long_word-w.ensures x a)
          ∙ sym w.usual_coding.ensures ∙ w.if-usual_coding.false in
          clash cc
      | else-buf-ge9 w ↦ omega (arith, coding_nine s x a)
    ]
