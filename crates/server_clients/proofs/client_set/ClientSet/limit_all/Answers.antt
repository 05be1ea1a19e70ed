use Rattle.std.proofs.Common.{◌∙◌, refl}
use Rattle.server_clients.specs.ClientSet.{LimitsAt, clients_of}
use Rattle.server_clients.proofs.Sets.{changes_limit, changes_none, changes_then, limits_next, limits_none}
use Rattle.server_clients.proofs.client_set.ClientSet.limit_all.Goals as goal

pub loop-key-init : goal.loop-key-init
loop-key-init g c = (λ past. changes_none _ _ past past refl refl, limits_none (clients_of g.T.ClientSocket.name c.args.self.now))

pub loop-key-preserved : goal.loop-key-preserved
loop-key-preserved g c =
    let mid = clients_of g.T.ClientSocket.name c.loop-key.self in
    let new = clients_of g.T.ClientSocket.name c.queue.new.self in
    let limits : LimitsAt c.loop-key.key mid new = c.queue.ensures ∙ c.limit_to_one_request.ensures in (
      λ past. changes_then _ mid new past past past (c.loop-key.invariant.0 past) (changes_limit c.loop-key.key mid new past limits),
      limits_next c.loop-key.key (clients_of g.T.ClientSocket.name c.args.self.now) mid new c.loop-key.invariant.1 limits,
    )
