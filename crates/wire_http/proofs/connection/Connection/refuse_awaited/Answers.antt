use Rattle.std.proofs.Common.{drop, ap, refl}
use Rattle.wire_http.proofs.Outcomes.{none_ready}
use Rattle.wire_http.proofs.StepLaws.{unsent_more}
use Rattle.wire_http.proofs.connection.Connection.refuse_awaited.Goals as goal

pub returns-in-Ok-clause-output : goal.returns-in-Ok-clause-output
returns-in-Ok-clause-output c =
    let self = c.args.self.now in
    unsent_more self.sent self.answers.items c.unreplied_behind.new.output.items _ self.sent_fits c.in-Ok.ensures.whole

pub returns-clause-dropped : goal.returns-clause-dropped
returns-clause-dropped c = ap (λ v. drop c.args.self.now.sent v) c.in-Err.ensures.same

pub returns-in-Ok-clause-kept : goal.returns-in-Ok-clause-kept
returns-in-Ok-clause-kept c =
    let self = c.args.self.now in
    record {
      ready = none_ready self.sent (drop self.sent c.unreplied_behind.new.output.items) self.deferred_response c.requires.none_back;
      slot = refl;
      awaited = refl;
      held = refl;
      left = refl;
      ended = refl;
    }

pub returns-clause-kept : goal.returns-clause-kept
returns-clause-kept c =
    let self = c.args.self.now in
    record {
      ready = none_ready self.sent (drop self.sent c.unreplied_behind.new.output.items) self.deferred_response c.requires.none_back;
      slot = refl;
      awaited = refl;
      held = refl;
      left = refl;
      ended = refl;
    }
