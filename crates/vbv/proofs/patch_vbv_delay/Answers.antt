use mathlib.Core.Path.{sym, ◌∙◌}
use Prim.Native.Nat.{ℕ}
use lib.ListN.{get_or, length-set}
use mir.Syntax.{w8}
use mir.Val.{Fits}
use Rattle.bits.proofs.Flags.{told_by}
use Rattle.vbv.proofs.Patching.{starts_picture_long, patch-done, patch-none}
use native.Mathlib.Omega.{arith}
use Rattle.vbv.proofs.patch_vbv_delay.Goals as goal

pub bounds-picture-5 : goal.bounds-picture-5
bounds-picture-5 c = let h = starts_picture_long _ (sym c.starts_picture.ensures ∙ c.if-not-starts_picture.false) in omega arith

pub bounds-picture-5-2 : goal.bounds-picture-5-2
bounds-picture-5-2 c = let h = starts_picture_long _ (sym c.starts_picture.ensures ∙ c.if-not-starts_picture.false) in omega arith

pub bounds-picture-6 : goal.bounds-picture-6
bounds-picture-6 c = let h = starts_picture_long _ (sym c.starts_picture.ensures ∙ c.if-not-starts_picture.false) in simp length-set (omega arith)

pub bounds-picture-7 : goal.bounds-picture-7
bounds-picture-7 c = let h = starts_picture_long _ (sym c.starts_picture.ensures ∙ c.if-not-starts_picture.false) in simp length-set (omega arith)

pub bounds-picture-7-2 : goal.bounds-picture-7-2
bounds-picture-7-2 c = let h = starts_picture_long _ (sym c.starts_picture.ensures ∙ c.if-not-starts_picture.false) in simp length-set (omega arith)

pub returns-then-not-starts_picture : goal.returns-then-not-starts_picture
returns-then-not-starts_picture c =
    let both = patch-none _ _ (search told_by) in
    record { result_value = both.0; picture_after = both.1 }

pub returns : goal.returns
returns c =
    let bytes : (k : ℕ) → Fits w8 (get_or c.args.picture.now k 0) = search in
    let both = patch-done c.args.picture.now c.args.vbv_delay (search told_by) (λ k. (bytes k).fits) (omega arith) in
    record { result_value = both.0; picture_after = both.1 }
