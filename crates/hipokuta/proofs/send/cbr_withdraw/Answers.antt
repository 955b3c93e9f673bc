use Rattle.hipokuta.proofs.Sending.{no_writer_lem, withdraws}
use Rattle.hipokuta.proofs.send.cbr_withdraw.Goals as goal

pub returns-in-Some : goal.returns-in-Some
returns-in-Some c =
    let t = withdraws c.args.state.now _ c.read_state.ensures _ c.in-Some.is _ c.withdraw.ensures _ _ (c.put_writer.ensures.value, c.put_writer.ensures.state_after) in
    record { value = t.0; state_after = t.1 }

pub returns-in-None : goal.returns-in-None
returns-in-None c =
    let t = no_writer_lem c.args.state.now _ c.read_state.ensures c.in-None.is in
    record { value = t.0; state_after = t.1 }
