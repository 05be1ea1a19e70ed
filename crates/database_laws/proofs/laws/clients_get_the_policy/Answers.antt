use Rattle.database_laws.proofs.Policy.{get_the_policy}
use Rattle.database_laws.proofs.laws.clients_get_the_policy.Goals as goal

pub returns : goal.returns
returns g c =
    get_the_policy g.S.Space g.S.GroupCommit _ g.M.Moments g.T.TokenSource (λ d event d' h. h)
    (record { quiet = g.met.S.GroupCommit.persists_held; rests = g.met.S.GroupCommit.persists_while_pending; works = g.met.S.GroupCommit.unbroken_while_pending; live = g.met.S.GroupCommit.pending_is_unbroken })
    c.each_client_is_served.ensures
