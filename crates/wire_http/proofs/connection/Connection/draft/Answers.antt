use Rattle.std.proofs.Common.{◌≡◌, ◌++◌, ◌∙◌, Some, length, drop, ap, arith, refl}
use Rattle.wire_http.specs.DeferredResponse.{before_last}
use Rattle.std.specs.Prelude.{◌==◌}
use Rattle.wire_http.specs.Outcomes.{noted_as}
use Rattle.wire_http.specs.Text.{noted_text}
use Rattle.wire_http.proofs.DeferredLaws.{ready_then}
use Rattle.wire_http.proofs.StepLaws.{unsent_more}
use Rattle.wire_http.proofs.connection.Connection.draft.Goals as goal

pub returns-in-Ok-clause-drafts : goal.returns-in-Ok-clause-drafts
returns-in-Ok-clause-drafts c =
    let self = c.args.self.now in
    let next = c.args.next in
    let starts : c.len-start.result ≡ length self.answers.items = omega arith in
    let whole = c.in-Ok.ensures.whole ∙ ap (λ v. self.answers.items ++ noted_text v next.routed.endpoint (next.left == 0) c.args.reply.now) c.on-notes.ensures in
    record {
      takes = record {
        held = c.take.ensures.takes.held;
        left = c.take.ensures.takes.left;
        ended = c.take.ensures.takes.ended;
        done = c.take.ensures.takes.done;
      };
      output = c.take.ensures.output ∙ unsent_more self.sent self.answers.items c.noted_behind.new.output.items _ self.sent_fits whole;
      ready = c.take.ensures.ready ∙ ready_then self.sent c.len-start.result self.answers.items c.noted_behind.new.output.items _ self.sent_fits starts whole;
      slot = c.take.ensures.slot;
      awaited = c.take.ensures.awaited;
      noted = c.take.ensures.noted ∙ ap (λ v. Some (noted_as next v)) c.outcome_of.ensures;
    }

pub returns-in-Err-clause-lost : goal.returns-in-Err-clause-lost
returns-in-Err-clause-lost c =
    let self = c.args.self.now in
    record {
      held = refl;
      output = ap (λ v. drop self.sent v) c.in-Err.ensures.same;
      ready = ap (λ v. before_last self.sent (drop self.sent v) self.deferred_response) c.in-Err.ensures.same;
      slot = refl;
      awaited = refl;
      left = refl;
      ended = refl;
      done = refl;
      noted = refl;
    }
