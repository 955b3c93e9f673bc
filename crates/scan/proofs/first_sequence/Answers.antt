use mathlib.Core.Path.{◌∙◌, sym, ap}
use Rattle.std.proofs.Common.{rules}
use Rattle.scan.specs.Codes.{found}
use Rattle.scan.specs.Pictures.{skip, not_sequence}
use Rattle.scan.proofs.Search.{codes_from-zero}
use Rattle.scan.proofs.first_sequence.Goals as goal

pub returns : goal.returns
unfolding not_sequence
returns c =
    c.first_code_not.ensures not_sequence (λ code answer q met. search rules)
    ∙ ap (λ cs. found (skip not_sequence cs)) (sym (codes_from-zero c.args.s.now))
