use Rattle.pool_backend.proofs.Does.{forgets}
use Rattle.pool_backend.proofs.pool.PoolInstanceBackend.forget.Goals as goal

pub returns : goal.returns
returns g c =
    let x = c.args.self.now in
    forgets g.L.Log g.S.Space c.args.ticket c.fail.result x (record x { instance = c.fail.new.self; waiting = c.remove.new.self }) c.fail.ensures c.remove.ensures.given
