use mathlib.Core.Path.{ap, ◌∙◌}
use native.Mathlib.Omega.{arith}
use Rattle.std.specs.Prelude.{Err}
use Rattle.rate_control.specs.Steps.{refused_in_code}
use Rattle.rate_control.proofs.Offering.{tested_by, placed-left, bytes_are, placeable, offer-refused, offer_large, offer-short, offer-placed}
use Rattle.rate_control.proofs.CbrWriter.offer.Goals as goal

pub returns-then-room-bytes : goal.returns-then-room-bytes
returns-then-room-bytes c =
    let all = offer-short _ _ _ (tested_by _ _ c.cadence_at.ensures c.timing-timing.ensures c.tested.ensures) _ _ c.in-Ok.is (omega arith) c.refused-then-room-bytes.ensures in
    record { answer_value = all.0; writer_value = all.1.0; out_after = all.1.1 }

pub put_placed-requires : goal.put_placed-requires
put_placed-requires c =
    omega (arith, bytes_are _ _ _ _ _ _ c.cadence_at.ensures c.timing-timing.ensures c.tested.ensures _ c.in-Ok.is)

pub placed-requires : goal.placed-requires
placed-requires c =
    placeable _ _ _ _ _ _ c.cadence_at.ensures c.timing-timing.ensures c.tested.ensures _ c.in-Ok.is

pub returns-in-Err-Refused : goal.returns-in-Err-Refused
returns-in-Err-Refused c =
    let all = offer-refused _ _ _ (tested_by _ _ c.cadence_at.ensures c.timing-timing.ensures c.tested.ensures) _ _ (c.in-Err-Refused.is ∙ ap Err c.in-Err-Refused.field-0-is)
    (c.refused.ensures ∙ ap (refused_in_code c.args.self) c.in-Err-Refused.error-is) in
    record { answer_value = all.0; writer_value = all.1.0; out_after = all.1.1 }

pub returns-in-Err-TooLarge : goal.returns-in-Err-TooLarge
returns-in-Err-TooLarge c =
    let all = offer_large _ _ _ (tested_by _ _ c.cadence_at.ensures c.timing-timing.ensures c.tested.ensures) _ (c.in-Err-TooLarge.is ∙ ap Err c.in-Err-TooLarge.field-0-is) c.too_large.ensures in
    record { answer_value = all.0; writer_value = all.1.0; out_after = all.1.1 }

pub returns-else-room-bytes : goal.returns-else-room-bytes
returns-else-room-bytes c =
    let all = offer-placed _ _ _ (tested_by _ _ c.cadence_at.ensures c.timing-timing.ensures c.tested.ensures) _ _ c.in-Ok.is _ (omega arith)
    (placed-left _ _ _ _ _ _ _ c.cadence_at.ensures c.timing-timing.ensures c.placed.ensures) c.put_placed.ensures in
    record { answer_value = all.0; writer_value = all.1.0; out_after = all.1.1 }
