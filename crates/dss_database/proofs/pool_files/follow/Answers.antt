use Rattle.sqlite.specs.WalFiles.{image_at}
use Rattle.dss_database.proofs.PoolFiles.{follow_told, why_unfollowed}
use Rattle.dss_database.proofs.pool_files.follow.Goals as goal

pub returns-clause-followed : goal.returns-clause-followed
returns-clause-followed g c =
    follow_told _ (image_at g.F.Start) _ c.followed_with_mirror-done.result.1 c.in-Ok.ensures.finds (record { sound = λ k is. is; whole = λ k is. is; holds = λ k a held. held }) c.args.salt (g.L.Log.history c.args.log) (g.L.Log.history c.followed_with_mirror-done.result.2)
    c.followed_with_mirror-done.result.0 c.close_database.result c.followed_with_mirror-done.ensures.followed c.close_database.ensures

pub returns-clause-told : goal.returns-clause-told
returns-clause-told g c = why_unfollowed c.followed_with_mirror-done.result.1 c.followed_with_mirror-done.result.0 c.close_database.result c.followed_with_mirror-done.ensures.told c.close_database.ensures
