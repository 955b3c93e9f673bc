use mathlib.Core.Path.{◌≡◌, ap, ◌∙◌}
use mathlib.Core.Bool.{false, not, ◌&&◌}
use lib.Dec.{eqb}
use Rattle.bits.specs.Bits.{pick}
use Rattle.verify.specs.Steps.{progressed, gone_on, advanced}
use Rattle.verify.proofs.Cases.{result_case}
use Rattle.verify.proofs.run.advance.Goals as goal

pub returns-in-Ok : goal.returns-in-Ok
unfolding advanced gone_on pick
returns-in-Ok c =
    let f : c.args.variable && not (eqb c.args.seen.vbv_delay 65535) ≡ false = rw c.coded_picture-coded.ensures at c.if-variable-coded.false in
    rw (f, ← c.coded_picture-coded.ensures) (c.go_on.ensures ∙ ap (progressed c.in-Ok.least c.in-Ok.greatest) (result_case c.remove.ensures) ∙ c.in-Ok.ensures)

pub returns-in-Err : goal.returns-in-Err
unfolding advanced gone_on pick
returns-in-Err c =
    let f : c.args.variable && not (eqb c.args.seen.vbv_delay 65535) ≡ false = rw c.coded_picture-coded.ensures at c.if-variable-coded.false in
    rw (f, ← c.coded_picture-coded.ensures) c.in-Err.ensures
