use Rattle.std.proofs.Common.{◌∙◌}
use Rattle.wire_http.proofs.DeferredLaws.{cuts, replaces}
use Rattle.wire_http.proofs.connection.Connection.replace_deferred.Goals as goal

pub returns-in-Ok-clause-output : goal.returns-in-Ok-clause-output
returns-in-Ok-clause-output c =
    let self = c.args.self.now in
    replaces self.sent self.answers.items c.shrink.new.buffer.items c.answer_behind.new.output.items self.deferred_response c.in-Some.last c.in-Some.is self.last_fits
    (c.shrink.ensures.same ∙ c.truncate.ensures.items) c.args.reply.now c.in-Ok.ensures.whole

pub returns-in-Err-clause-dropped : goal.returns-in-Err-clause-dropped
returns-in-Err-clause-dropped c =
    let self = c.args.self.now in
    cuts self.sent self.answers.items c.shrink.new.buffer.items c.answer_behind.new.output.items self.deferred_response c.in-Some.last c.in-Some.is self.last_fits
    (c.shrink.ensures.same ∙ c.truncate.ensures.items) c.in-Err.ensures.same
