-- Lemmas: a whole purge, in chunks.
use Rattle.std.proofs.Common.{◌≡◌, ℕ, ◌<◌, false, Result, Ok, sym, subst, ◌∙◌}
use Rattle.entity_core.specs.Airspace.{Airspace}
use Rattle.entity_purge.specs.Purge.{IsPartlyPurged, purged}
use Rattle.entity_purge.proofs.Chunks.{chunks_make}
use Rattle.space_core.specs.Space.{IsContent}
use Rattle.space_core.specs.declared.group_commit.GroupCommit as settles
use Rattle.space_core.specs.declared.space.Space.{Ghosts}
use Rattle.space_core.specs.declared.space.SpaceFault.{SpaceFault}
use Rattle.service_calls.specs.Batches.{IsCommitted}
use Rattle.service_calls.specs.Held.{Stays, is_shut, space_of}
use Rattle.service_calls.specs.Purged.{IsPurge}
use Rattle.service_calls.specs.declared.service.Service.{Service}
use Rattle.pool_core.specs.Purging.{Keeps, PurgesAll}

module _ {S : Type 0} (g : Ghosts S) where
  -- A service keeps what its calls keep.
  pub keeps_stays : (old new : Service S) → Stays g old new → Keeps g old new
  keeps_stays old new stays = record { salt = stays.salt; sound = stays.sound; whole = stays.whole }

  pub keeps_commit : {k : settles.Ghosts S} (old new : Service S) (result : Result (Unit {0}) SpaceFault) → IsCommitted g k old new result → Keeps g old new
  keeps_commit old new result c = record { salt = c.salt; sound = c.settles.sound; whole = c.settles.whole }

  module _ (until : ℕ) where
    -- Holds if a service was partly purged.
    pub record PurgesSome (old new : Service S) : Type 0 where
      pub keeps : Keeps g old new
      pub goes : is_shut old ≡ false → is_shut new ≡ false
      pub part : g.is_sound (space_of new) → (a : Airspace) → IsContent g.holds (space_of old) a → (b : Airspace) × IsContent g.holds (space_of new) b × IsPartlyPurged until a b

    -- A commit purges nothing.
    pub purges_none : {k : settles.Ghosts S} (old new : Service S) → IsCommitted g k old new (Ok tt) → PurgesSome old new
    purges_none old new c = record {
      keeps = keeps_commit old new (Ok tt) c;
      goes = λ goes. c.shuts ∙ goes;
      part = λ sound a content. (a, c.settles.done sound a content.held, chunks_make.nothing until a);
    }

    pub purges_keeps : {k : settles.Ghosts S} (old mid new : Service S) (most : ℕ) (result : Result ℕ SpaceFault) → PurgesSome old mid → IsPurge g k until most mid new result → Keeps g old new
    purges_keeps old mid new most result so p = record {
      salt = p.salt ∙ so.keeps.salt;
      sound = λ sound. so.keeps.sound (p.sound sound);
      whole = λ sound whole. p.whole sound (so.keeps.whole (p.sound sound) whole);
    }

    pub purges_more : {k : settles.Ghosts S} (old mid new : Service S) (most n : ℕ) → PurgesSome old mid → IsPurge g k until most mid new (Ok n) → PurgesSome old new
    purges_more old mid new most n so p = record {
      keeps = purges_keeps old mid new most (Ok n) so p;
      goes = λ goes. p.shuts ∙ so.goes goes;
      part = λ sound a content.
          let before = so.part (p.sound sound) a content in
          let after = p.left sound before.0 before.1 in
          (after.0, after.1, (chunks_make.more until a before.0 before.2).further after.0 after.2);
    }

    -- A purge is complete once nothing is left to purge.
    pub purges_all : {k : settles.Ghosts S} (old mid new : Service S) (most n : ℕ) → PurgesSome old mid → IsPurge g k until most mid new (Ok n) → n ≡ 0 → 0 < most → is_shut old ≡ false → PurgesAll g until old new
    purges_all old mid new most n so p none some goes =
        let more = purges_more old mid new most n so p in
        record {
          goes = more.goes goes;
          content = λ sound a content.
              let after = more.part sound a content in
              let already : purged until after.0 ≡ after.0 = p.last sound none some after.0 after.1.held in
              subst (λ (v : Airspace). IsContent g.holds (space_of new) v) (sym already ∙ after.2.same) after.1;
        }
