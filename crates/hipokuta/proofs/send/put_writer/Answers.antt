use mathlib.Core.Path.{◌∙◌}
use Rattle.hipokuta.proofs.Sending.{is_put, not_put}
use Rattle.hipokuta.proofs.send.put_writer.Goals as goal

pub returns-in-Ok : goal.returns-in-Ok
returns-in-Ok c =
    let t = is_put c.args.writer c.args.state.now _ _ c.in-Ok.is c.put_state.ensures in
    record { value = t.0; state_after = t.1 }

pub returns-in-Err : goal.returns-in-Err
returns-in-Err c =
    let t = not_put c.args.writer c.args.state.now _ _ c.in-Err.is (c.from.ensures ∙ c.number.ensures) in
    record { value = t.0; state_after = t.1 }
