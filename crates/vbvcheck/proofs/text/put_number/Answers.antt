use Rattle.std.proofs.Common.{◌≡◌, ◌∙◌, ◌≤◌, length, take, arith}
use Rattle.vbvcheck.specs.Text.{decimal}
use Rattle.vbvcheck.proofs.Texts.{put_end, decimal-is_std, length-decimal_20}
use Rattle.vbvcheck.proofs.text.put_number.Goals as goal

pub put-next-requires : goal.put-next-requires
put-next-requires c =
    let few : length c.as_bytes.result.now ≤ 20 = rw (c.as_bytes.ensures.value, c.format.ensures.text) (length-decimal_20 _ c.ranges.n.fits) in
    omega arith

pub returns : goal.returns
returns c =
    let a = c.args in
    let p = c.put-next in
    let few : length c.as_bytes.result.now ≤ 20 = rw (c.as_bytes.ensures.value, c.format.ensures.text) (length-decimal_20 _ c.ranges.n.fits) in
    let text : c.as_bytes.result.now ≡ decimal 20 a.n = c.as_bytes.ensures.value ∙ c.format.ensures.text ∙ decimal-is_std a.n c.ranges.n.fits in record {
      upper_bound = omega (arith, p.ensures.value);
      out_after = put_end p.new.out (take a.at a.out.now) (decimal 20 a.n) p.result _ (omega (arith, p.ensures.value)) (p.ensures.out_after ∙ rw text);
    }
