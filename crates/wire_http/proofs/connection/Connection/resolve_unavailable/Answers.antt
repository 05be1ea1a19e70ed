use Rattle.std.proofs.Common.{◌∙◌, ◌++◌, ap, sym}
use Rattle.wire_http.specs.Connection.{ready_of}
use Rattle.wire_http.specs.RequestInfo.{outcome_without}
use Rattle.wire_http.proofs.Outcomes.{on_ok, recorded_last, refusal_drafted, resolves_err, resolves_ok}
use Rattle.wire_http.proofs.connection.Connection.resolve_unavailable.Goals as goal

pub returns-in-Some-clause-resolves : goal.returns-in-Some-clause-resolves
returns-in-Some-clause-resolves c =
    let self = c.args.self.now in
    let new = c.refuse_deferred.new.self in
    let e = c.refuse_deferred.ensures in
    resolves_ok c.refuse_deferred.result (outcome_without c.args.reason) self new e.ready e.slot e.awaited e.held e.left e.ended
    (e.noted ∙ recorded_last self.deferred_response self.awaited c.in-Some.last (outcome_without c.args.reason) self.noted c.in-Some.is) _
    (on_ok c.refuse_deferred.result e.output (λ w. w ∙ ap (λ v. ready_of self ++ v) (sym (refusal_drafted self.deferred_response self.awaited c.in-Some.last c.args.reason c.in-Some.is))))

pub returns-in-Some-clause-lost : goal.returns-in-Some-clause-lost
returns-in-Some-clause-lost c =
    let self = c.args.self.now in
    let new = c.refuse_deferred.new.self in
    let e = c.refuse_deferred.ensures in
    resolves_err c.refuse_deferred.result (outcome_without c.args.reason) self new e.ready e.slot e.awaited e.held e.left e.ended
    (e.noted ∙ recorded_last self.deferred_response self.awaited c.in-Some.last (outcome_without c.args.reason) self.noted c.in-Some.is) e.dropped
