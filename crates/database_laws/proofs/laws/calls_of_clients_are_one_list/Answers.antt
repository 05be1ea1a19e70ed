use Rattle.database_laws.proofs.OneList.{are_one_list}
use Rattle.database_laws.proofs.laws.calls_of_clients_are_one_list.Goals as goal

pub returns : goal.returns
returns g c =
    are_one_list g.S.Space g.S.GroupCommit _ g.M.Moments g.T.TokenSource (λ d event d' h. h)
    (record { quiet = g.met.S.GroupCommit.persists_held; rests = g.met.S.GroupCommit.persists_while_pending; works = g.met.S.GroupCommit.unbroken_while_pending; live = g.met.S.GroupCommit.pending_is_unbroken })
    c.each_client_is_served.ensures
