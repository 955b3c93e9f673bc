use mathlib.Core.Path.{sym, ◌∙◌}
use Rattle.std.proofs.lemmas.Result.{err_from_is_err_and}
use Rattle.headers.specs.SequenceHeader.{header_of}
use Rattle.headers.proofs.Answers.{fields_refused}
use Rattle.headers.proofs.SequenceHeader.{header_read, fields-refused, intra_refused, non_intra_refused, header_parsed}
use Rattle.headers.proofs.sequence_header.Mpeg2SequenceHeader.parse.Goals as goal

pub returns-in_err-v : goal.returns-in_err-v
returns-in_err-v c =
    let p = err_from_is_err_and c.from_residual.result c.from_residual.ensures.1 in
    rw (p.1, p.2) (sym (fields-refused _ (fields_refused c.in_err-v.field-0.0 c.in_err-v.ensures)))

pub returns-in_err-intra_quant : goal.returns-in_err-intra_quant
returns-in_err-intra_quant c =
    let p = err_from_is_err_and c.from_residual-in_err-intra_quant.result c.from_residual-in_err-intra_quant.ensures.1 in
    rw (p.1, p.2) (sym (intra_refused _ _ (header_read _ c.in_ok-v.ensures).parsed (sym c.in_err-intra_quant.ensures)))

pub returns-in_err-non_intra_quant : goal.returns-in_err-non_intra_quant
returns-in_err-non_intra_quant c =
    let p = err_from_is_err_and c.from_residual-in_err-non_intra_quant.result c.from_residual-in_err-non_intra_quant.ensures.1 in
    rw (p.1, p.2) (sym (non_intra_refused _ _ (header_read _ c.in_ok-v.ensures).parsed _ (sym c.in_ok-intra_quant.ensures) (rw c.after_matrix.ensures at (sym c.in_err-non_intra_quant.ensures))))

pub returns : goal.returns
unfolding header_of
returns c =
    let r = header_read _ c.in_ok-v.ensures in
    sym (header_parsed _ _ r.parsed _ (sym c.in_ok-intra_quant.ensures) _ (rw c.after_matrix.ensures at (sym c.in_ok-non_intra_quant.ensures))
    ∙ simp (c.aspect_ratio_of.ensures, r.same))
