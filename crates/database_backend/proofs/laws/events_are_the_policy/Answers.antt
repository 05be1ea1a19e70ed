use Rattle.database_backend.proofs.Policies.{are_known, are_the_policy}
use Rattle.database_backend.proofs.laws.events_are_the_policy.Goals as goal

pub returns-clause-replies : goal.returns-clause-replies
returns-clause-replies g c =
    are_the_policy g.S.Space g.S.GroupCommit
    (record { quiet = g.met.S.GroupCommit.persists_held; rests = g.met.S.GroupCommit.persists_while_pending; works = g.met.S.GroupCommit.unbroken_while_pending; live = g.met.S.GroupCommit.pending_is_unbroken })

pub returns-clause-known : goal.returns-clause-known
returns-clause-known g c =
    are_known g.S.Space g.S.GroupCommit
    (record { quiet = g.met.S.GroupCommit.persists_held; rests = g.met.S.GroupCommit.persists_while_pending; works = g.met.S.GroupCommit.unbroken_while_pending; live = g.met.S.GroupCommit.pending_is_unbroken })
