use Rattle.std.proofs.Common.{◌∙◌, Some, drop, ap, refl, sym}
use Rattle.wire_http.specs.DeferredResponse.{before_last}
use Rattle.wire_http.specs.Outcomes.{noted_as}
use Rattle.wire_http.proofs.Outcomes.{first_false, none_ready, none_slot}
use Rattle.wire_http.proofs.StepLaws.{unsent_more}
use Rattle.wire_http.proofs.connection.Connection.refuse.Goals as goal

pub returns-in-Ok-clause-refuses : goal.returns-in-Ok-clause-refuses
returns-in-Ok-clause-refuses c =
    let self = c.args.self.now in
    let none = first_false _ _ c.requires.none_waits in
    record {
      takes = record {
        held = c.take.ensures.takes.held;
        left = c.take.ensures.takes.left;
        ended = c.take.ensures.takes.ended;
        done = c.take.ensures.takes.done;
      };
      output = c.take.ensures.output ∙ unsent_more self.sent self.answers.items c.unreplied_behind.new.output.items _ self.sent_fits c.in-Ok.ensures.whole;
      ready = c.take.ensures.ready ∙ none_ready self.sent (drop self.sent c.unreplied_behind.new.output.items) self.deferred_response none ∙ sym c.take.ensures.output;
      slot = c.take.ensures.slot ∙ none_slot self.deferred_response none;
      awaited = c.take.ensures.awaited;
      noted = c.take.ensures.noted ∙ ap (λ v. Some (noted_as c.args.next v)) c.outcome_without.ensures;
    }

pub returns-in-Err-clause-lost : goal.returns-in-Err-clause-lost
returns-in-Err-clause-lost c =
    let self = c.args.self.now in
    record {
      held = refl;
      output = ap (λ v. drop self.sent v) c.in-Err.ensures.same;
      ready = ap (λ v. before_last self.sent (drop self.sent v) self.deferred_response) c.in-Err.ensures.same;
      slot = refl;
      awaited = refl;
      left = refl;
      ended = refl;
      done = refl;
      noted = refl;
    }
