use Rattle.std.specs.Prelude.{is_some}
use Rattle.dss_command.specs.Pool.{pool_setup_in}
use Rattle.dss_command.proofs.PoolServed.{serves_pool}
use Rattle.dss_command.proofs.Setups.{operated_as}
use Rattle.dss_command.proofs.pool.serve_sockets.Goals as goal

pub returns-clause-served : goal.returns-clause-served
returns-clause-served g c =
    serves_pool g.G.Log g.S.Space _ g.M.Moments g.T.TokenSource (λ events old new h. h) c.events_are_the_backends.ensures c.outcomes_are_given.ensures
    (pool_setup_in c.args.given) c.args.watch c.args.backend.now c.serve-served.new.backend _ c.args.moments.now c.serve-served.new.moments _ _
    (operated_as _ g.M.Moments g.T.TokenSource c.args.given.explaining c.args.given.tokens.now _ (is_some c.args.given.operated) (is_some c.args.given.limits.count) _ c.args.watch _ _ _ _ _ _ c.requires c.serve-served.ensures.clients)
