use Rattle.std.proofs.Common.{◌<◌, append-nil, length, drop, ap, arith, inl, inr, refl, sym}
use Rattle.wire_http.proofs.BufferedLaws.{none_here}
use Rattle.wire_http.proofs.FirstRequest.{breaks_some, request_here}
use Rattle.wire_http.proofs.PeekLaws.{closes_at}
use Rattle.wire_http.proofs.StepLaws.{finishes, held_request, held_stops, held_wants, unsent_more}
use Rattle.wire_http.specs.DeferredResponse.{before_last}
use Rattle.wire_http.proofs.connection.Connection.next.Goals as goal

pub returns-then-self-eq0-clause-next : goal.returns-then-self-eq0-clause-next
returns-then-self-eq0-clause-next c =
    let self = c.args.self.now in
    record {
      finishes = λ later may. closes_at self.left _ (omega (arith, c.if-self-eq0.true));
      output = sym (append-nil (drop self.sent self.answers.items));
      held = refl;
      left = refl;
      done = refl;
      slot = refl;
      ended = refl;
      noted = refl;
    }

pub returns-then-len-self-clause-next : goal.returns-then-len-self-clause-next
returns-then-len-self-clause-next c =
    let self = c.args.self.now in
    let fewer : length self.held.items < self.wanted = omega arith in
    record {
      some = omega (arith, c.if-self-eq0.false);
      may_grow = record {
        more = c.if-not-self.true;
        none = none_here self.held.items self.wanted self.none_below fewer;
        room = omega (arith, fewer, self.wanted_fits);
      };
      same = record { held = refl; output = refl; ready = refl; slot = refl; left = refl; ended = refl; done = refl };
      noted = refl;
    }

pub first_request-requires-clause-held : goal.first_request-requires-clause-held
first_request-requires-clause-held c =
    let self = c.args.self.now in
    held_request self.held.items self.ended c.next_buffered.new.fields c.next_buffered.result c.in-Gives-Request.field-0 c.in-Gives-Request.spans c.in-Gives-Request.size
    c.in-Gives-Request.is c.in-Gives-Request.field-0-is (rw c.as_slice.ensures.value at c.next_buffered.ensures.held)

pub returns-in-Ok-clause-next : goal.returns-in-Ok-clause-next
returns-in-Ok-clause-next c = record {
  some = omega (arith, c.if-self-eq0.false);
  front = c.in-Ok.ensures;
  same = refl;
}

pub returns-in-Err-clause-lost : goal.returns-in-Err-clause-lost
returns-in-Err-clause-lost c =
    let self = c.args.self.now in
    let at = request_here self.held.items self.ended c.next_buffered.new.fields c.in-Gives-Request.spans c.in-Gives-Request.size
    (held_request self.held.items self.ended c.next_buffered.new.fields c.next_buffered.result c.in-Gives-Request.field-0 c.in-Gives-Request.spans c.in-Gives-Request.size
    c.in-Gives-Request.is c.in-Gives-Request.field-0-is (rw c.as_slice.ensures.value at c.next_buffered.ensures.held)) in
    record {
      stopped = record { held = refl; output = refl; ready = refl; slot = refl; awaited = refl; left = refl; ended = refl; done = refl; noted = refl };
      some = omega (arith, c.if-self-eq0.false);
      why = inl (at.0, _, at.1);
    }

pub returns-in-Wants-clause-next : goal.returns-in-Wants-clause-next
returns-in-Wants-clause-next c =
    let self = c.args.self.now in
    let h = held_wants self.held.items self.ended c.next_buffered.new.fields c.next_buffered.result c.in-Wants.count c.in-Wants.is (rw c.as_slice.ensures.value at c.next_buffered.ensures.held) in
    record {
      some = omega (arith, c.if-self-eq0.false);
      may_grow = record {
        more = h.0;
        none = none_here self.held.items c.in-Wants.count h.3 h.1;
        room = omega (arith, h.1, h.2);
      };
      same = record { held = refl; output = refl; ready = refl; slot = refl; left = refl; ended = refl; done = refl };
      noted = refl;
    }

pub returns-in-Ok-end_behind-clause-next : goal.returns-in-Ok-end_behind-clause-next
returns-in-Ok-end_behind-clause-next c =
    let self = c.args.self.now in
    record {
      finishes = λ later may. finishes self.left _ c.in-Gives-Stop.end (omega (arith, c.if-self-eq0.false))
          (held_stops self.held.items self.ended c.next_buffered.new.fields c.next_buffered.result c.in-Gives-Stop.field-0 c.in-Gives-Stop.end c.in-Gives-Stop.is c.in-Gives-Stop.field-0-is (rw c.as_slice.ensures.value at c.next_buffered.ensures.held) later may);
      output = unsent_more self.sent self.answers.items c.end_behind.new.output.items _ self.sent_fits c.in-Ok-end_behind.ensures.whole;
      held = refl;
      left = refl;
      done = refl;
      slot = refl;
      ended = refl;
      noted = c.record_end.ensures;
    }

pub returns-in-Err-end_behind-clause-lost : goal.returns-in-Err-end_behind-clause-lost
returns-in-Err-end_behind-clause-lost c =
    let self = c.args.self.now in
    record {
      stopped = record {
        held = refl;
        output = ap (λ v. drop self.sent v) c.in-Err-end_behind.ensures.same;
        ready = ap (λ v. before_last self.sent (drop self.sent v) self.deferred_response) c.in-Err-end_behind.ensures.same;
        slot = refl;
        awaited = refl;
        left = refl;
        ended = refl;
        done = refl;
        noted = refl;
      };
      some = omega (arith, c.if-self-eq0.false);
      why = inr (breaks_some self.held.items self.ended c.in-Gives-Stop.end c.in-Err-end_behind.ensures.some
          (held_stops self.held.items self.ended c.next_buffered.new.fields c.next_buffered.result c.in-Gives-Stop.field-0 c.in-Gives-Stop.end c.in-Gives-Stop.is c.in-Gives-Stop.field-0-is (rw c.as_slice.ensures.value at c.next_buffered.ensures.held)));
    }
