use Rattle.std.proofs.Common.{arith}
use Rattle.hipokuta.proofs.Sending.{no_state_place, created_in}
use Rattle.hipokuta.specs.Send.{config_of}
use Rattle.hipokuta.proofs.send.cbr_create.Goals as goal

pub returns-then-state-lt-STATE_BYTES : goal.returns-then-state-lt-STATE_BYTES
returns-then-state-lt-STATE_BYTES c =
    let a = c.args in
    let t = no_state_place (config_of a.bit_rate_value a.vbv_buffer_size_value a.frame_rate_code a.quantiser a.b_between a.anchors_per_gop)
    a.state.now (omega arith) in
    record { value = t.0; state_after = t.1 }

pub returns : goal.returns
returns c =
    let a = c.args in
    let t = created_in (config_of a.bit_rate_value a.vbv_buffer_size_value a.frame_rate_code a.quantiser a.b_between a.anchors_per_gop)
    a.state.now (omega arith) c.create.result (rw c.plain.ensures at c.create.ensures)
    _ _ (c.put_writer.ensures.value, c.put_writer.ensures.state_after) in
    record { value = t.0; state_after = t.1 }
