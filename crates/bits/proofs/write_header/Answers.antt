use borrow.Author.Rules.{rules}
use mathlib.Core.Path.{◌≡◌}
use native.Mathlib.Omega.{arith}
use lib.ListN.{length}
use Rattle.bits.proofs.Reading.{table_room}
use Rattle.bits.proofs.Checking.{fits-of, checked-width, checked_misfit}
use Rattle.bits.proofs.Writing.{total_bound, write_unfit, write_full, write_bytes, over_four}
use Rattle.bits.proofs.write_header.Goals as goal

pub returns-in_default : goal.returns-in_default
returns-in_default c =
    let both = write_unfit _ _ _ _ (checked_misfit _ _ c.in_default.ensures) in
    record { result_value = both.0; out_after = both.1 }

pub overflow_add-bytes : goal.overflow_add-bytes
overflow_add-bytes c =
    let r = checked-width _ _ c.in-Some.ensures in
    omega (arith, r.1, total_bound (fits-of _ _ r.0), table_room 24 c.args.table.now)

pub returns-then-out-bytes : goal.returns-then-out-bytes
returns-then-out-bytes c =
    let r = checked-width _ _ c.in-Some.ensures in
    let both = write_full _ _ _ _ (search rules) r.0 (omega (arith, r.1)) in
    record { result_value = both.0; out_after = both.1 }

pub put_fields-requires : goal.put_fields-requires
put_fields-requires c =
    let r = checked-width _ _ c.in-Some.ensures in
    record { values_value = r.0; table_bound = omega (arith, r.1) }

pub returns : goal.returns
returns c =
    let r = checked-width _ _ c.in-Some.ensures in
    let l : length c.args.code ≡ 4 = search rules in
    let both = write_bytes _ _ _ _ l r.0 r.1 c.if-out-bytes.false (over_four _ _ l c.copy_from_slice.ensures.after)
    (search rules) c.put_fields.ensures in
    record { result_value = both.0; out_after = both.1 }
