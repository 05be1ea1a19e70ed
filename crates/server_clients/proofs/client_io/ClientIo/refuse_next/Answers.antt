use Rattle.server_clients.specs.Texts.{no_texts}
use Rattle.server_clients.specs.declared.reason.Reason.TheVariants.{Memory}
use Rattle.server_clients.proofs.States.{is_free, no_texts_may_be, refused_state, stopped_state}
use Rattle.server_clients.proofs.client_io.ClientIo.refuse_next.Goals as goal

pub returns-in-Ok : goal.returns-in-Ok
returns-in-Ok g c = record {
  texts = no_texts;
  may_have = no_texts_may_be c.args.context.explaining;
  state = refused_state (g.T.ClientSocket.name c.args.self.now.socket) c.args.self.now.ticket c.args.self.now.ticket c.args.self.now.why c.args.self.now.connection c.refuse.new.self (is_free c.args.self.now.connection c.requires.none_waits) c.args.next no_texts c.args.reason c.in-Ok.ensures.refuses;
}

pub returns-in-Err : goal.returns-in-Err
returns-in-Err g c = record {
  texts = no_texts;
  may_have = no_texts_may_be c.args.context.explaining;
  state = stopped_state (g.T.ClientSocket.name c.args.self.now.socket) c.args.self.now.ticket c.args.self.now.ticket c.args.self.now.why c.args.self.now.connection c.refuse.new.self (is_free c.args.self.now.connection c.requires.none_waits) c.in-Err.ensures.lost Memory;
}
