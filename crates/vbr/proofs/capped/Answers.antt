use borrow.Author.Tests.{lt-ltb, le-ltb}
use Rattle.bits.proofs.Flags.{yes, no}
use Rattle.vbr.proofs.Ways.{capped_is}
use Rattle.vbr.proofs.capped.Goals as goal
use Rattle.vbr.proofs.capped.Goals.{then-model-most, else-model-most}

pub returns : goal.returns
returns c =
    capped_is c.args.model _ (search) _ _ (search)
    (elim c.if-model-most.branch [ then-model-most w ↦ yes _ _ _ (lt-ltb _ _ w.if-model-most.true) w.result-is | else-model-most w ↦ no _ _ _ (le-ltb _ _ w.if-model-most.false) w.result-is ])
