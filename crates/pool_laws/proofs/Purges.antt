-- Forward-looking calls of a pool, and readers that look back.
use Rattle.std.proofs.Common.{ℕ, List, [], ◌∷◌, refl}
use Rattle.entity_core.specs.Airspace.{Airspace, IsAirspace}
use Rattle.entity_purge.specs.Purge.{IsPartlyPurged, purged}
use Rattle.entity_purge.proofs.Chunks.{chunks_make, purged_partly}
use Rattle.service_step.proofs.Preserves.{steps_keep}
use Rattle.service_step.specs.Step.{step}
use Rattle.service_calls.specs.Run.{airspace_after, replies_of}
use Rattle.service_purge.specs.Ahead.{AgreeAhead, AllReadOrLookAhead}
use Rattle.service_purge.proofs.Readers.{readers}
use Rattle.pool_core.specs.Acts.{Act, Makes, Purges, airspace_by, replies_by}
use Rattle.pool_core.specs.Unseen.{PurgesBy, calls_among, replies_among}
use Rattle.pool_laws.specs.Purges.{PoolReadersMayLookBack}

agree_since : (last : ℕ) (salt : List ℕ) (acts : List Act) (a b : Airspace) → IsAirspace a → PurgesBy last acts → IsPartlyPurged last a b → AllReadOrLookAhead last salt (calls_among acts) a
    → AgreeAhead last salt a (calls_among acts) (replies_among (replies_by salt b acts)) (replies_of salt a (calls_among acts)) × IsPartlyPurged last (airspace_after salt a (calls_among acts)) (airspace_by salt b acts)
agree_since last salt [] a b proper by part look = ((refl, refl), part)
agree_since last salt (Makes c ∷ acts) a b proper by part look =
    let now = readers last salt (c ∷ []) a b proper part (look.0, tt) in
    let rest = agree_since last salt acts (step salt a c.0 c.1).0 (step salt b c.0 c.1).0 (steps_keep salt a c.0 c.1 proper) by now.1 look.1 in
    ((now.0.0, rest.0), rest.1)
agree_since last salt (Purges u ∷ acts) a b proper by part look = agree_since last salt acts a (purged u b) proper by.1 ((chunks_make.more last a b part).further (purged u b) (purged_partly u last b by.0)) look

pub readers_look_back : PoolReadersMayLookBack
readers_look_back last salt acts a proper by look = agree_since last salt acts a a proper by (chunks_make.nothing last a) look
