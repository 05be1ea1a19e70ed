use Rattle.std.proofs.Common.{◌∙◌, append-nil}
use Rattle.wire_http.proofs.Outcomes.{instead, instead_none}
use Rattle.wire_http.proofs.connection.Connection.refuse_deferred.Goals as goal

pub returns-in-Ok-clause-output : goal.returns-in-Ok-clause-output
returns-in-Ok-clause-output c =
    let self = c.args.self.now in
    instead self.sent self.answers.items c.shrink.new.buffer.items c.unreplied_behind.new.output.items _ self.deferred_response c.args.last c.requires.is self.last_fits
    (c.shrink.ensures.same ∙ c.truncate.ensures.items) c.in-Ok.ensures.whole

pub returns-in-Err-clause-dropped : goal.returns-in-Err-clause-dropped
returns-in-Err-clause-dropped c =
    let self = c.args.self.now in
    instead_none self.sent self.answers.items c.shrink.new.buffer.items c.unreplied_behind.new.output.items self.deferred_response c.args.last c.requires.is self.last_fits
    (c.shrink.ensures.same ∙ c.truncate.ensures.items) c.in-Err.ensures.same
    ∙ append-nil _
