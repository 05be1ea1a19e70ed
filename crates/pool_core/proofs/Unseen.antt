-- Lemmas: forward-looking calls get the same replies with and without purges.
use Rattle.std.proofs.Common.{◌≡◌, ◌≤◌, ℕ, max, List, [], ◌∷◌, refl, arith}
use Rattle.std.proofs.Math.Nat.{le-max_left, le-max_right, max-le}
use Rattle.entity_core.specs.Airspace.{Airspace, IsAirspace}
use Rattle.entity_purge.specs.Purge.{IsPartlyPurged, purged}
use Rattle.entity_purge.proofs.Chunks.{chunks_make, purged_partly}
use Rattle.service_step.proofs.Preserves.{steps_keep}
use Rattle.service_step.specs.Step.{step}
use Rattle.service_calls.specs.Run.{airspace_after, replies_of}
use Rattle.service_purge.proofs.Runs.{one_part, one_unseen}
use Rattle.service_purge.proofs.Unseen.{partly_later}
use Rattle.pool_core.specs.Acts.{Act, Makes, Purges, airspace_by, replies_by}
use Rattle.pool_core.specs.Unseen.{LookAheadSince, PurgesAreUnseen, PurgesBy, calls_among, replies_among}

-- One more purge.
partly_more : (until u : ℕ) (a b : Airspace) → IsPartlyPurged until a b → IsPartlyPurged (max until u) a (purged u b)
partly_more until u a b part =
    let both = max until u in
    let far = partly_later until both a b (le-max_left until u) part in
    (chunks_make.more both a b far).further (purged u b) (purged_partly u both b (le-max_right until u))

-- The replies over acts in a partly purged airspace, and the airspace after them.
abbrev Unseen : (last : ℕ) (salt : List ℕ) (xs : List Act) (a b : Airspace) → Type 0
Unseen last salt xs a b = (replies_among (replies_by salt b xs) ≡ replies_of salt a (calls_among xs))
    × IsPartlyPurged last (airspace_after salt a (calls_among xs)) (airspace_by salt b xs)

unseen_since : (until last : ℕ) (salt : List ℕ) (xs : List Act) (a b : Airspace) → IsAirspace a → until ≤ last → PurgesBy last xs → IsPartlyPurged until a b → LookAheadSince until salt xs a → Unseen last salt xs a b
unseen_since until last salt [] a b proper le by part look = (refl, partly_later until last a b le part)
unseen_since until last salt (Makes c ∷ xs) a b proper le by part look =
    let now = one_unseen until salt a b c.0 c.1 proper part look.0 in
    let rest = unseen_since until last salt xs (step salt a c.0 c.1).0 (step salt b c.0 c.1).0 (steps_keep salt a c.0 c.1 proper) le by (one_part until salt a b c.0 c.1 part look.0) look.1 in
    (λ i. now i ∷ rest.0 i, rest.1)
unseen_since until last salt (Purges u ∷ xs) a b proper le by part look =
    unseen_since (max until u) last salt xs a (purged u b) proper (max-le le by.0) by.1 (partly_more until u a b part) look

pub purges_unseen : PurgesAreUnseen
purges_unseen last salt [] a proper by look = (refl, chunks_make.nothing last a)
purges_unseen last salt (Makes c ∷ xs) a proper by look =
    let rest = purges_unseen last salt xs (step salt a c.0 c.1).0 (steps_keep salt a c.0 c.1 proper) by look in
    (λ i. (step salt a c.0 c.1).1 ∷ rest.0 i, rest.1)
purges_unseen last salt (Purges u ∷ xs) a proper by look =
    unseen_since u last salt xs a (purged u a) proper by.0 by.1 (purged_partly u u a (omega arith)) look
