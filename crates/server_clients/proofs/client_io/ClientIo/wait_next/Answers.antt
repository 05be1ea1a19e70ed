use Rattle.server_clients.specs.Texts.{texts_in}
use Rattle.server_clients.proofs.States.{is_free, waiting_state}
use Rattle.server_clients.proofs.client_io.ClientIo.wait_next.Goals as goal

pub returns : goal.returns
returns g c = record {
  texts = texts_in c.texts-texts.result;
  may_have = c.texts-texts.ensures;
  state = waiting_state (g.T.ClientSocket.name c.args.self.now.socket) c.args.ticket c.args.self.now.ticket c.args.self.now.why c.args.self.now.connection c.wait.new.self (is_free c.args.self.now.connection c.requires.none_waits)
      c.args.next c.texts-texts.result c.wait.ensures;
}
