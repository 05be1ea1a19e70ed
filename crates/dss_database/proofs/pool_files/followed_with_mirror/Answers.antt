use Rattle.std.proofs.Common.{◌∙◌}
use Rattle.space_mirror.specs.Laws.{visible_is_durable}
use Rattle.space_sql.specs.Holding.{holds_of}
use Rattle.space_sql.specs.Laws.{some_kept}
use Rattle.service_recovery.proofs.Crashes.{words_of}
use Rattle.dss_database.proofs.PoolFiles.{end_ok, end_told, followed_by_store}
use Rattle.dss_database.proofs.pool_files.followed_with_mirror.Goals as goal

pub returns-clause-followed : goal.returns-clause-followed
returns-clause-followed g c = end_ok _ _ c.follow-followed.result c.end_following.result c.end_following.ensures c.follow-followed.ensures.follows (λ follows.
    followed_by_store g.L.Log (words_of g.A.Store) _ (λ k sound whole. some_kept (g.met.A.Store.survives _ sound.clean) whole) (record {
      holds = λ k a calm. visible_is_durable (holds_of g.A.Store) k a calm;
      whole = λ k. ((λ whole. whole), (λ whole. whole));
      sound = λ k sound. sound.store;
      broken = λ k broken. broken;
    }) c.args.salt (g.L.Log.history c.args.log) c.args.space c.with_mirror-mirrored.result c.new-service.result c.new-follower.result c.follow-followed.new.follower c.new-service.ensures.space
    (c.new-follower.ensures.starts c.new-service.ensures.goes) (c.new-follower.ensures.space ∙ c.new-service.ensures.space) (c.new-follower.ensures.salt ∙ c.new-service.ensures.salt) c.with_mirror-mirrored.ensures.calm
    c.follow-followed.ensures.stays follows _ c.with_mirror-mirrored.ensures.read.0 c.with_mirror-mirrored.ensures.read.2
    c.into_parts-log.result.0 c.into_parts-log.result.1 c.into_store-space.result c.into_parts-log.ensures.log c.into_parts-log.ensures.space c.into_store-space.ensures.store c.into_store-space.ensures.sound)

pub returns-clause-told : goal.returns-clause-told
returns-clause-told g c = end_told c.follow-followed.result c.end_following.result c.end_following.ensures
