use Rattle.std.proofs.Common.{◌∙◌, ◌*◌, arith}
use Rattle.verify.specs.Layout.{record_size}
use Rattle.vbvcheck.proofs.Lines.{line_read}
use Rattle.vbvcheck.proofs.text.put_record.Goals as goal

pub returns : goal.returns
returns c =
    let l = c.put_line.ensures in
    let a = c.args in
    let e = line_read a.records.now (record_size * a.k) c.word_at.ensures c.word_at-2.ensures c.word_at-3.ensures c.word_at-4.ensures c.word_at-5.ensures in
    record { upper_bound = omega (arith, l.upper_bound); out_after = l.out_after ∙ rw e }
