use Rattle.std.proofs.Common.{arith}
use Rattle.vbvcheck.specs.Text.{ascii, report_text}
use Rattle.vbvcheck.specs.Steps.{lines_of}
use Rattle.vbvcheck.proofs.Texts.{three_texts}
use Rattle.vbvcheck.proofs.text.put_accepted.Goals as goal

pub returns : goal.returns
returns c =
    let a = c.args in record {
      upper_bound = omega (arith, c.put_records.ensures.upper_bound, c.put-next.ensures.value, c.put_report-head.ensures.upper_bound);
      out_after = three_texts (report_text a.r) (ascii "delay expected data_bits occupancy_before periods\n") (lines_of a.r.pictures a.records.now) c.put_report-head.ensures.out_after c.put-next.ensures.out_after c.put_records.ensures.out_after;
    }
