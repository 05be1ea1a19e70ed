use Rattle.wire_http.specs.Source.{ahead_of, bytes_of}
use Rattle.wire_http.proofs.BufferedLaws.{held_known, held_ended}
use Rattle.wire_http.proofs.request.next_request.Goals as goal

pub returns-in-Gives-clause-next : goal.returns-in-Gives-clause-next
returns-in-Gives-clause-next g c =
    held_known (bytes_of c.reading.source) _ c.next_buffered.new.fields _ c.in-Gives.next c.in-Gives.is (rw c.as_slice.ensures.value at c.next_buffered.ensures.held)

pub returns-then-not-branch-clause-next : goal.returns-then-not-branch-clause-next
returns-then-not-branch-clause-next g c =
    held_ended (bytes_of c.fill.new.self) (ahead_of g.R.Read.remaining c.fill.new.self) c.last_buffered.new.fields c.last_buffered.result
    (c.in_ok-fill-in-Wants.ensures.ended c.if-not-branch.true).1 (rw c.as_slice-then-not-branch.ensures.value at c.last_buffered.ensures.held)
