use mathlib.Core.Path.{ap, ◌∙◌}
use native.Mathlib.Omega.{arith}
use Rattle.std.proofs.lemmas.Result.{err_from_is_err_and}
use Rattle.bits.specs.Refusals.{value}
use Rattle.headers.specs.SequenceExtension.{sequence_extension, extension_of}
use Rattle.headers.proofs.Answers.{fields_refused}
use Rattle.headers.proofs.SequenceExtension.{extension_read, extension_places}
use Rattle.headers.proofs.sequence_extension.Mpeg2SequenceExtension.parse.Goals as goal

pub returns-in_err-v : goal.returns-in_err-v
unfolding sequence_extension
returns-in_err-v c =
    let p = err_from_is_err_and c.from_residual.result c.from_residual.ensures.1 in
    rw (p.1, p.2, fields_refused c.in_err-v.field-0.0 c.in_err-v.ensures)

pub overflow_cast-result : goal.overflow_cast-result
overflow_cast-result c = omega (arith, (extension_read _ c.in_ok-v.ensures).high 1)

pub overflow_cast-result-2 : goal.overflow_cast-result-2
overflow_cast-result-2 c = omega (arith, (extension_read _ c.in_ok-v.ensures).high 4)

pub overflow_cast-result-3 : goal.overflow_cast-result-3
overflow_cast-result-3 c = omega (arith, (extension_read _ c.in_ok-v.ensures).high 5)

pub overflow_cast-result-4 : goal.overflow_cast-result-4
overflow_cast-result-4 c = omega (arith, (extension_read _ c.in_ok-v.ensures).high 6)

pub overflow_cast-result-5 : goal.overflow_cast-result-5
overflow_cast-result-5 c = omega (arith, (extension_read _ c.in_ok-v.ensures).high 8)

pub overflow_cast-result-6 : goal.overflow_cast-result-6
overflow_cast-result-6 c = omega (arith, (extension_read _ c.in_ok-v.ensures).high 10)

pub overflow_cast-result-7 : goal.overflow_cast-result-7
overflow_cast-result-7 c = omega (arith, (extension_read _ c.in_ok-v.ensures).high 11)

pub returns : goal.returns
unfolding sequence_extension extension_of
returns c =
    let d = extension_read _ c.in_ok-v.ensures in
    rw (c.chroma_format_of.ensures, d.parsed) (ap value (ap extension_of d.values ∙ extension_places d.vs))
