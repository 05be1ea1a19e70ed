use Rattle.std.proofs.Common.{inr}
use Rattle.dss_command.specs.Pool.{pool_setup_in}
use Rattle.dss_command.proofs.PoolServed.{over_histories}
use Rattle.dss_command.proofs.pool.serve_pool_port.Goals as goal

pub returns-clause-served : goal.returns-clause-served
returns-clause-served g c =
    inr (over_histories g.G.Log _ _ g.M.Moments g.T.TokenSource (pool_setup_in c.args.given) c.args.watch c.args.backend.now _ c.args.moments.now _ _ _ _ _ c.listen.ensures c.close.ensures c.serve_sockets-served.ensures.served)
