use Rattle.std.proofs.Common.{◌∙◌, ◌++◌, Some, ap, append-nil, refl, sym}
use Rattle.wire_http.specs.Awaited.{text_in}
use Rattle.wire_http.specs.Connection.{output_of, ready_of}
use Rattle.wire_http.specs.RequestInfo.{outcome_of}
use Rattle.wire_http.proofs.Outcomes.{noted_awaited, noted_drafted, noted_of_none, none_ready, none_slot, on_ok, on_err, resolves_err, resolves_ok, text_awaited, text_drafted, text_of_none}
use Rattle.wire_http.proofs.connection.Connection.resolve.Goals as goal

pub returns-then-has_deferred-clause-resolves : goal.returns-then-has_deferred-clause-resolves
returns-then-has_deferred-clause-resolves c =
    let self = c.args.self.now in
    let new = c.replace_deferred.new.self in
    let there = sym c.has_deferred.ensures ∙ c.if-has_deferred.true in
    let e = c.replace_deferred.ensures in
    resolves_ok c.replace_deferred.result (outcome_of c.args.reply.now) self new e.ready e.slot e.awaited e.held e.left e.ended
    (e.noted ∙ noted_drafted self.deferred_response self.awaited c.args.reply.now self.noted there) _
    (on_ok c.replace_deferred.result e.output (λ w. w ∙ ap (λ v. ready_of self ++ v) (text_drafted self.deferred_response self.awaited c.args.reply.now there)))

pub returns-then-has_deferred-clause-lost : goal.returns-then-has_deferred-clause-lost
returns-then-has_deferred-clause-lost c =
    let self = c.args.self.now in
    let new = c.replace_deferred.new.self in
    let there = sym c.has_deferred.ensures ∙ c.if-has_deferred.true in
    let e = c.replace_deferred.ensures in
    resolves_err c.replace_deferred.result (outcome_of c.args.reply.now) self new e.ready e.slot e.awaited e.held e.left e.ended
    (e.noted ∙ noted_drafted self.deferred_response self.awaited c.args.reply.now self.noted there) e.dropped

pub returns-in-Some-clause-resolves : goal.returns-in-Some-clause-resolves
returns-in-Some-clause-resolves c =
    let self = c.args.self.now in
    let new = c.answer_awaited.new.self in
    let none = sym c.has_deferred.ensures ∙ c.if-has_deferred.false in
    let is = sym c.take.ensures.value ∙ c.in-Some.is in
    let e = c.answer_awaited.ensures in
    resolves_ok c.answer_awaited.result (outcome_of c.args.reply.now) self new e.kept.ready (e.kept.slot ∙ none_slot self.deferred_response none) (e.kept.awaited ∙ c.take.ensures.after) e.kept.held e.kept.left e.kept.ended
    (e.noted ∙ noted_awaited self.deferred_response self.awaited c.in-Some.awaited (outcome_of c.args.reply.now) self.noted none is) _
    (on_ok c.answer_awaited.result e.output (λ w. w
    ∙ ap (λ v. v ++ text_in (Some c.in-Some.awaited) c.args.reply.now) (sym (none_ready self.sent (output_of self) self.deferred_response none))
    ∙ ap (λ v. ready_of self ++ v) (text_awaited self.deferred_response self.awaited c.in-Some.awaited c.args.reply.now none is)))

pub returns-in-Some-clause-lost : goal.returns-in-Some-clause-lost
returns-in-Some-clause-lost c =
    let self = c.args.self.now in
    let new = c.answer_awaited.new.self in
    let none = sym c.has_deferred.ensures ∙ c.if-has_deferred.false in
    let is = sym c.take.ensures.value ∙ c.in-Some.is in
    let e = c.answer_awaited.ensures in
    resolves_err c.answer_awaited.result (outcome_of c.args.reply.now) self new e.kept.ready (e.kept.slot ∙ none_slot self.deferred_response none) (e.kept.awaited ∙ c.take.ensures.after) e.kept.held e.kept.left e.kept.ended
    (e.noted ∙ noted_awaited self.deferred_response self.awaited c.in-Some.awaited (outcome_of c.args.reply.now) self.noted none is)
    (on_err c.answer_awaited.result e.dropped (λ w. w ∙ sym (none_ready self.sent (output_of self) self.deferred_response none)))

pub returns-in-None-clause-resolves : goal.returns-in-None-clause-resolves
returns-in-None-clause-resolves c =
    let self = c.args.self.now in
    let none = sym c.has_deferred.ensures ∙ c.if-has_deferred.false in
    let is = sym c.take.ensures.value ∙ c.in-None.is in
    let ready = none_ready self.sent (output_of self) self.deferred_response none in
    record {
      output = sym ready ∙ sym (append-nil (ready_of self)) ∙ ap (λ v. ready_of self ++ v) (text_of_none self.deferred_response self.awaited c.args.reply.now none is);
      ready = ready;
      slot = none_slot self.deferred_response none;
      awaited = c.take.ensures.after;
      held = refl;
      left = refl;
      ended = refl;
      noted = noted_of_none self.deferred_response self.awaited (outcome_of c.args.reply.now) self.noted none is;
    }
