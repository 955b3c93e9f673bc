use mathlib.Core.Path.{sym}
use native.Mathlib.Omega.{arith}
use Rattle.std.proofs.lemmas.Result.{err_from_is_err_and}
use Rattle.headers.proofs.StartCode.{next-found}
use Rattle.headers.proofs.SequenceHeader.{sequence_header_bounds}
use Rattle.headers.proofs.SequenceExtension.{extension_bounds}
use Rattle.headers.proofs.Sequence.{sequence-refused, sequence_missing, extension_refused, sequence_parsed}
use Rattle.headers.proofs.sequence_extension.Mpeg2Sequence.from_buf.Goals as goal

pub returns-in_err-header : goal.returns-in_err-header
returns-in_err-header c =
    let p = err_from_is_err_and c.from_residual.result c.from_residual.ensures.1 in
    rw (p.1, p.2) (sequence-refused _ c.in_err-header.ensures)

pub returns-in_default : goal.returns-in_default
returns-in_default c = sequence_missing _ _ c.in_ok-header.ensures _ c.sequence_header_byte_length.ensures c.in_default.ensures

pub slice_bounds-parse-start : goal.slice_bounds-parse-start
slice_bounds-parse-start c = omega (arith, (next-found _ _ _ (sym c.in-Some.ensures)).prefix.room)

pub slice_bounds-parse-count : goal.slice_bounds-parse-count
slice_bounds-parse-count c = omega (arith, (next-found _ _ _ (sym c.in-Some.ensures)).prefix.room)

pub returns-in_err-extension : goal.returns-in_err-extension
returns-in_err-extension c =
    let p = err_from_is_err_and c.from_residual-in_err-extension.result c.from_residual-in_err-extension.ensures.1 in
    rw (p.1, p.2) (extension_refused _ _ c.in_ok-header.ensures _ c.sequence_header_byte_length.ensures c.in-Some.at c.in-Some.ensures c.in_err-extension.ensures)

pub sequence_of-requires-clause-sizes : goal.sequence_of-requires-clause-sizes
sequence_of-requires-clause-sizes c =
    let b = sequence_header_bounds _ _ (sym c.in_ok-header.ensures) in
    (b.width_high, b.height_high, b.rate_high, b.buffer_high)

pub sequence_of-requires-clause-extensions : goal.sequence_of-requires-clause-extensions
sequence_of-requires-clause-extensions c =
    let b = extension_bounds _ _ (sym c.in_ok-extension.ensures) in
    (b.horizontal, b.vertical, b.rate)

pub returns : goal.returns
returns c = rw c.sequence_of.ensures (sequence_parsed _ _ c.in_ok-header.ensures _ c.sequence_header_byte_length.ensures c.in-Some.at c.in-Some.ensures _ c.in_ok-extension.ensures)
