use native.Mathlib.Omega.{arith}
use Prim.Native.Nat.{◌≤◌}
use lib.ListN.{get_or}
use Rattle.std.proofs.lemmas.Result.{err_from_is_err_and}
use Rattle.picture_header.specs.PictureHeader.{picture_fields, picture_of, after_delay}
use Rattle.bits.specs.StartCodes.{start_code, picture_start_code}
use Rattle.bits.proofs.Reading.{header_done}
use Rattle.picture_header.proofs.Following.{read_refused}
use Rattle.picture_header.proofs.PictureHeader.{header_after, motion_codes, motion_done}
use Rattle.picture_header.proofs.header_by_table.Goals as goal
use Rattle.picture_header.proofs.header_by_table.Goals.{In_ok-m}

pub returns-in_err-m : goal.returns-in_err-m
unfolding after_delay
returns-in_err-m c =
    let p = err_from_is_err_and c.from_residual-in_err-m.result c.from_residual-in_err-m.ensures.1 in
    rw (p.1, p.2, ← header_after c.read_header.result c.args.buf.now c.read_header.ensures c.in_ok-h.was) (read_refused _ _ _ c.in_err-m.ensures)

pub returns-in_default : goal.returns-in_default
returns-in_default c =
    rw (
      ← header_after c.read_header.result c.args.buf.now c.read_header.ensures c.in_ok-h.was,
      ← motion_done c.read_motion.result c.args.buf.now c.in_ok-h.h c.read_motion.ensures c.in_ok-m.was,
      ← c.extra_bit.ensures,
      ← c.in_default.ensures,
    )

-- the fields fit
first : (c : In_ok-m) → let h = c.in_ok-h.h in (get_or h 0 0 ≤ 1023) × (get_or h 2 0 ≤ 65535)
first c =
    let d = header_done c.read_header.result (start_code picture_start_code) picture_fields c.args.buf.now c.read_header.ensures c.in_ok-h.was in
    (d.high 0, d.high 2)

codes : (c : In_ok-m) → let m = c.in_ok-m.m in (get_or m 0 0 ≤ 7) × (get_or m 1 0 ≤ 7) × (get_or m 2 0 ≤ 7) × (get_or m 3 0 ≤ 7)
codes c = motion_codes c.read_motion.result c.args.buf.now c.in_ok-h.h c.read_motion.ensures c.in_ok-m.was

pub overflow_cast-temporal_reference : goal.overflow_cast-temporal_reference
overflow_cast-temporal_reference c = omega (arith, first (goal.at.overflow_cast-temporal_reference c).In_ok-m)

pub overflow_cast-vbv_delay : goal.overflow_cast-vbv_delay
overflow_cast-vbv_delay c = omega (arith, first (goal.at.overflow_cast-vbv_delay c).In_ok-m)

pub overflow_cast-vectors : goal.overflow_cast-vectors
overflow_cast-vectors c = omega (arith, codes (goal.at.overflow_cast-vectors c).In_ok-m)

pub overflow_cast-vectors-2 : goal.overflow_cast-vectors-2
overflow_cast-vectors-2 c = omega (arith, codes (goal.at.overflow_cast-vectors-2 c).In_ok-m)

pub overflow_cast-vectors-3 : goal.overflow_cast-vectors-3
overflow_cast-vectors-3 c = omega (arith, codes (goal.at.overflow_cast-vectors-3 c).In_ok-m)

pub overflow_cast-vectors-4 : goal.overflow_cast-vectors-4
overflow_cast-vectors-4 c = omega (arith, codes (goal.at.overflow_cast-vectors-4 c).In_ok-m)

pub returns : goal.returns
unfolding picture_of
returns c =
    rw (
      c.header_of.ensures,
      ← header_after c.read_header.result c.args.buf.now c.read_header.ensures c.in_ok-h.was,
      ← motion_done c.read_motion.result c.args.buf.now c.in_ok-h.h c.read_motion.ensures c.in_ok-m.was,
      ← c.extra_bit.ensures,
      ← c.in-Some.ensures,
    )
