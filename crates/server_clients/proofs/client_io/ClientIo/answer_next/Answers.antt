use Rattle.server_clients.specs.Texts.{texts_in}
use Rattle.server_clients.specs.declared.reason.Reason.TheVariants.{Memory}
use Rattle.server_clients.proofs.States.{answered_state, is_free, stopped_state}
use Rattle.server_clients.proofs.client_io.ClientIo.answer_next.Goals as goal

pub returns-in-Ok : goal.returns-in-Ok
returns-in-Ok g c = record {
  texts = texts_in c.texts_for_reply-texts.result;
  may_have = c.texts_for_reply-texts.ensures;
  state = answered_state (g.T.ClientSocket.name c.args.self.now.socket) c.args.self.now.ticket c.args.self.now.ticket c.args.self.now.why c.args.self.now.connection c.answer.new.self (is_free c.args.self.now.connection c.requires.none_waits)
      c.args.next c.texts_for_reply-texts.result c.args.reply c.in-Ok.ensures.answers;
}

pub returns : goal.returns
returns g c = record {
  texts = texts_in c.texts_for_reply-texts.result;
  may_have = c.texts_for_reply-texts.ensures;
  state = stopped_state (g.T.ClientSocket.name c.args.self.now.socket) c.args.self.now.ticket c.args.self.now.ticket c.args.self.now.why c.args.self.now.connection c.answer.new.self (is_free c.args.self.now.connection c.requires.none_waits) c.in-Err.ensures.lost Memory;
}
