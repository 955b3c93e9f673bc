use Rattle.std.proofs.Common.{ap, ◌∙◌, arith}
use Rattle.layout.specs.Mode.{is_mode}
use Rattle.hipokuta.proofs.Sending.{no_place-with, other_mode, created-with}
use Rattle.hipokuta.proofs.send.cbr_create_config.Goals as goal

pub returns-then-state-lt-STATE_BYTES : goal.returns-then-state-lt-STATE_BYTES
returns-then-state-lt-STATE_BYTES c =
    let t = no_place-with c.args.config.now c.args.state.now (omega arith) (omega arith) in
    record { value = t.0; state_after = t.1 }

pub returns-then-is_mode : goal.returns-then-is_mode
returns-then-is_mode c =
    let t = created-with c.args.config.now c.args.state.now (omega arith) (omega arith) _ (c.is_mode.ensures ∙ ap is_mode c.word_at.ensures)
    c.if-is_mode.true c.create_from.result c.create_from.ensures
    _ _ (c.put_writer.ensures.value, c.put_writer.ensures.state_after) in
    record { value = t.0; state_after = t.1 }

pub returns : goal.returns
returns c =
    let t = other_mode c.args.config.now c.args.state.now (omega arith) (omega arith) _ (c.is_mode.ensures ∙ ap is_mode c.word_at.ensures) c.if-is_mode.false in
    record { value = t.0; state_after = t.1 }
