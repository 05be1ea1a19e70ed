use Rattle.server_base.proofs.Histories.{below_noted, below_sent}
use Rattle.dss.proofs.sockets.PortSocketsSockets.send.Goals as goal

pub invariant_of-self : goal.invariant_of-self
invariant_of-self c =
    let self = c.args.self.now in
    record { new_names = below_noted self.next_name self.history.events _ c.note.new.self.events c.note.ensures self.new_names (below_sent self.next_name c.args.client.now.name _) }
