use Rattle.std.proofs.Common.{sym, subst}
use Rattle.space_mirror.specs.Laws.{visible_is_durable}
use Rattle.space_sql.specs.Holding.{holds_of, is_sound_of}
use Rattle.service_recovery.proofs.Crashes.{words_of}
use Rattle.dss_command.specs.Purging.{PurgesSpace}
use Rattle.dss_database.proofs.Purging.{purged_by_store}
use Rattle.dss_database.proofs.files.purged_with_mirror.Goals as goal

pub returns : goal.returns
returns g c =
    subst (λ k. PurgesSpace (words_of g.A.Store) c.args.until c.args.space k c.purge_space-done.result) (sym c.into_store.ensures.store)
    (purged_by_store (words_of g.A.Store) _ c.args.until c.args.space c.with_mirror-grouped.result c.purge_space-done.new.space _ c.with_mirror-grouped.ensures.read.0 c.purge_space-done.result
    c.with_mirror-grouped.ensures.read.1 c.with_mirror-grouped.ensures.read.2 c.with_mirror-grouped.ensures.calm c.purge_space-done.ensures.waits
    (λ sound. c.into_store.ensures.sound (subst (λ k. is_sound_of g.A.Store k) (sym c.into_store.ensures.store) sound)) c.purge_space-done.ensures.purged (record {
      holds = λ k a calm. visible_is_durable (holds_of g.A.Store) k a calm;
      whole = λ k. ((λ whole. whole), (λ whole. whole));
      sound = λ k sound. sound.store;
      broken = λ k broken. broken;
    }))
