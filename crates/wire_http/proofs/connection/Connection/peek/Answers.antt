use Rattle.std.proofs.Common.{◌<◌, length, arith}
use Rattle.token_conf.specs.TokenFile.{callers_of}
use Rattle.wire_http.specs.declared.end.End.TheVariants as ends
use Rattle.wire_http.proofs.BufferedLaws.{none_here}
use Rattle.wire_http.proofs.PeekLaws.{closes_at, peeked_part, peeked_request}
use Rattle.wire_http.proofs.StepLaws.{finishes, held_request, held_stops, held_wants}
use Rattle.wire_http.proofs.connection.Connection.peek.Goals as goal

pub returns-then-self-eq0-clause-peeked : goal.returns-then-self-eq0-clause-peeked
returns-then-self-eq0-clause-peeked c = (ends.Close, λ later may. closes_at c.args.self.now.left _ (omega (arith, c.if-self-eq0.true)))

pub returns-then-len-self-clause-peeked : goal.returns-then-len-self-clause-peeked
returns-then-len-self-clause-peeked c =
    let self = c.args.self.now in
    let fewer : length self.held.items < self.wanted = omega arith in
    none_here self.held.items self.wanted self.none_below fewer

pub returns-in-Gives-Request-clause-peeked : goal.returns-in-Gives-Request-clause-peeked
returns-in-Gives-Request-clause-peeked c =
    let self = c.args.self.now in
    peeked_request (callers_of c.args.tokens.now) self.held.items self.ended c.next_buffered.new.fields c.in-Gives-Request.spans c.in-Gives-Request.field-0-1 _
    (held_request self.held.items self.ended c.next_buffered.new.fields c.next_buffered.result c.in-Gives-Request.field-0 c.in-Gives-Request.spans c.in-Gives-Request.field-0-1
    c.in-Gives-Request.is c.in-Gives-Request.field-0-is (rw c.as_slice-held.ensures.value at c.next_buffered.ensures.held))
    (rw c.as_slice-held.ensures.value at c.find_caller.ensures)

pub returns-in-Gives-Stop-clause-peeked : goal.returns-in-Gives-Stop-clause-peeked
returns-in-Gives-Stop-clause-peeked c =
    let self = c.args.self.now in (
      c.in-Gives-Stop.field-0-0,
      λ later may. finishes self.left _ c.in-Gives-Stop.field-0-0 (omega (arith, c.if-self-eq0.false))
          (held_stops self.held.items self.ended c.next_buffered.new.fields c.next_buffered.result c.in-Gives-Stop.field-0 c.in-Gives-Stop.field-0-0 c.in-Gives-Stop.is c.in-Gives-Stop.field-0-is (rw c.as_slice-held.ensures.value at c.next_buffered.ensures.held) later may),
    )

pub returns-in-Wants-clause-peeked : goal.returns-in-Wants-clause-peeked
returns-in-Wants-clause-peeked c =
    let self = c.args.self.now in
    let h = held_wants self.held.items self.ended c.next_buffered.new.fields c.next_buffered.result c.in-Wants.wanted c.in-Wants.is (rw c.as_slice-held.ensures.value at c.next_buffered.ensures.held) in
    peeked_part (callers_of c.args.tokens.now) self.left self.ended self.held.items _ ((rw c.as_slice-held.ensures.value at c.peek_head-peeked.ensures) (none_here self.held.items c.in-Wants.wanted h.3 h.1))
