use mathlib.Core.Path.{◌≡◌, sym, ◌∙◌}
use native.Mathlib.Omega.{arith}
use Prim.Native.Nat.{◌+◌, ◌*◌, ◌<◌}
use lib.ListN.{length}
use Rattle.bits.specs.Bits.{bit_at}
use Rattle.picture_header.proofs.ExtraInformation.{walk_none, walk_cut, walk_end, walk_more, flag_read, flag_missed}
use Rattle.picture_header.proofs.read_extra.Goals as goal
use Rattle.picture_header.proofs.read_extra.Goals.{In_ok-flag}

-- where a flag was read: it is there, and it is the bit that the definition has
flag_told : (c : In_ok-flag) → let p = c.args.first + 9 * c.loop-n.n in (p < 8 * length c.args.buf.now) × (c.in_ok-flag.flag ≡ bit_at c.args.buf.now p)
flag_told c = flag_read c.args.buf.now _ c.loop-n.n (omega arith) _ (rw c.from.ensures at c.in_ok-flag.ensures)

pub loop-n-init : goal.loop-n-init
loop-n-init c = walk_none _ _

pub returns-in_err-flag : goal.returns-in_err-flag
returns-in_err-flag c =
    rw c.from_residual.ensures
    (walk_cut c.loop-n.invariant (flag_missed c.args.buf.now c.args.first c.loop-n.n (omega arith) (rw c.from.ensures at c.in_err-flag.ensures)))

pub returns-then-flag-eq0 : goal.returns-then-flag-eq0
returns-then-flag-eq0 c =
    let f = flag_told (goal.at.returns-then-flag-eq0 c).In_ok-flag in
    walk_end c.loop-n.invariant f.0 (sym f.1 ∙ c.if-flag-eq0.true)

pub loop-n-preserved : goal.loop-n-preserved
loop-n-preserved c =
    let f = flag_told (goal.at.loop-n-preserved c).In_ok-flag in
    walk_more c.loop-n.invariant f.0 (λ z. c.if-flag-eq0.false (f.1 ∙ z))

pub returns : goal.returns
returns c = walk_cut c.loop-n.invariant (omega arith)
