use mathlib.Core.Path.{◌∙◌}
use Rattle.bits.proofs.Starting.{same_pointwise, rest_from}
use Rattle.bits.proofs.bytes_at.Goals as goal

pub returns : goal.returns
returns c =
    let a = c.args in
    rw (rest_from a.s.now a.at _ c.min.ensures) at (c.starts_with.ensures.value) ∙ same_pointwise _ _
