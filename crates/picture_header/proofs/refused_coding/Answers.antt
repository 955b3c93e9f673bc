use mathlib.Core.Path.{sym, ◌∙◌}
use Rattle.std.proofs.lemmas.Result.{err_from_is_err_and}
use Rattle.picture_header.specs.CodingExtension.{motion_codes_fit, after_codes}
use Rattle.picture_header.proofs.Following.{read_refused}
use Rattle.picture_header.proofs.CodingExtension.{coding_unfit, coding_fit, after-done}
use Rattle.picture_header.proofs.refused_coding.Goals as goal

pub returns-in_err-read_fields : goal.returns-in_err-read_fields
unfolding motion_codes_fit after_codes
returns-in_err-read_fields c =
    let p = err_from_is_err_and c.from_residual-in_err-read_fields.result c.from_residual-in_err-read_fields.ensures.1 in
    rw (p.1, p.2, ← coding_fit c.read_header.result c.args.buf.now c.read_header.ensures c.in_ok-h.was c.if-h.true)
    (read_refused _ _ _ c.in_err-read_fields.ensures)

pub returns-in_ok-read_fields : goal.returns-in_ok-read_fields
unfolding motion_codes_fit
returns-in_ok-read_fields c =
    absurd (c.requires _ (sym (coding_fit c.read_header.result c.args.buf.now c.read_header.ensures c.in_ok-h.was c.if-h.true)
    ∙ sym (after-done c.read_fields.result c.args.buf.now c.in_ok-h.h c.read_fields.ensures c.in_ok-read_fields.was)))

pub returns-else-h : goal.returns-else-h
unfolding motion_codes_fit
returns-else-h c = coding_unfit c.read_header.result c.args.buf.now c.read_header.ensures c.in_ok-h.was c.if-h.false
