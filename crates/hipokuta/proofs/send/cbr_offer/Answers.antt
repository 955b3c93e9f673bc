use Rattle.std.proofs.Common.{arith}
use Rattle.hipokuta.proofs.Sending.{no_state_lem, no_answer_place, no_code, asked}
use Rattle.hipokuta.specs.Send.{COffer}
use Rattle.hipokuta.proofs.send.cbr_offer.Goals as goal
use Rattle.hipokuta.proofs.send.cbr_offer.Goals.{in-Some+else-answer-lt-ANSWER_BYTES+else-kind-interval, in_default}

pub returns-then-answer-lt-ANSWER_BYTES : goal.returns-then-answer-lt-ANSWER_BYTES
returns-then-answer-lt-ANSWER_BYTES c =
    let a = c.args in
    let o : COffer = record {
      headers = a.headers.now;
      kind = a.kind;
      interval = a.interval;
      last = a.last;
      layer = a.layer.now;
      out = a.out.now;
      answer = a.answer.now;
    } in
    let t = no_answer_place a.state.now o _ c.read_state.ensures _ c.in-Some.is (omega arith) in
    record { value = t.0; state_after = t.1.0; out_after = t.1.1.0; answer_after = t.1.1.1 }

pub returns-then-kind-interval : goal.returns-then-kind-interval
returns-then-kind-interval c =
    let a = c.args in
    let o : COffer = record {
      headers = a.headers.now;
      kind = a.kind;
      interval = a.interval;
      last = a.last;
      layer = a.layer.now;
      out = a.out.now;
      answer = a.answer.now;
    } in
    let t = asked a.state.now o _ c.read_state.ensures _ c.in-Some.is (omega arith) c.if-kind-interval.true
    _ _ c.kind_of.ensures c.interval_of.ensures
    c.offer-offered.result c.offer-offered.ensures.answer_value c.offer-offered.ensures.writer_value
    c.answer_number.ensures c.put_state.ensures c.offer-offered.ensures.out_after c.put_answer.ensures in
    record { value = t.0; state_after = t.1.0; out_after = t.1.1.0; answer_after = t.1.1.1 }

pub returns : goal.returns
returns c =
    let a = c.args in
    let o : COffer = record {
      headers = a.headers.now;
      kind = a.kind;
      interval = a.interval;
      last = a.last;
      layer = a.layer.now;
      out = a.out.now;
      answer = a.answer.now;
    } in
    let e = c.read_state.ensures in
    elim c.match-read_state.branch [
      | in-Some+else-answer-lt-ANSWER_BYTES+else-kind-interval w ↦
          let t = no_code a.state.now o _ e _ w.in-Some.is (omega arith) w.if-kind-interval.false c.plain.ensures c.put_refused.ensures in
          record { value = t.0; state_after = t.1.0; out_after = t.1.1.0; answer_after = t.1.1.1 }
      | in_default w ↦
          let t = no_state_lem a.state.now o _ e w.in_default.is c.plain.ensures c.put_refused.ensures in
          record { value = t.0; state_after = t.1.0; out_after = t.1.1.0; answer_after = t.1.1.1 }
    ]
