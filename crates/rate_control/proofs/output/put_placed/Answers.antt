use Rattle.rate_control.proofs.Storage.{all_laid}
use Rattle.rate_control.proofs.output.put_placed.Goals as goal

pub returns : goal.returns
returns c =
    all_laid c.args.out.now c.args.headers.now c.args.layer.now _ _ _ _ _ c.args.vbv_delay c.args.zeros _ c.requires c.put.ensures c.put-2.ensures
    c.patch_vbv_delay-patched.ensures.picture_after c.put_zeros.ensures c.put_end.ensures
