use Rattle.wire_http.proofs.DeferredLaws.{ready_sent}
use Rattle.wire_http.proofs.connection.Connection.mark_sent.Goals as goal

pub returns-else-is_none-clause-ready : goal.returns-else-is_none-clause-ready
returns-else-is_none-clause-ready c =
    let self = c.args.self.now in
    ready_sent self.sent c.args.count self.answers.items self.deferred_response c.requires
