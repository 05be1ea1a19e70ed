-- Forward-looking calls get the same replies with and without the purges of a list.
use Rattle.std.specs.Prelude.{◌≡◌, ◌≤◌, ℕ, max, List, [], ◌∷◌, Option, Some, None}
use Rattle.entity_core.specs.Airspace.{Airspace, IsAirspace}
use Rattle.entity_purge.specs.Purge.{IsPartlyPurged}
use Rattle.service_step.specs.declared.reply.Reply.{Reply}
use Rattle.service_step.specs.Step.{step}
use Rattle.service_calls.specs.Run.{TimedCall, airspace_after, replies_of}
use Rattle.service_purge.specs.Ahead.{LooksAhead}
use Rattle.pool_core.specs.Acts.{Act, Makes, Purges, airspace_by, replies_by}

-- The calls of a list of acts, and the replies to them.
abbrev pub calls_among : List Act → List TimedCall
calls_among [] = []
calls_among (Makes timed ∷ xs) = timed ∷ calls_among xs
calls_among (Purges until ∷ xs) = calls_among xs

abbrev pub replies_among : List (Option Reply) → List Reply
replies_among [] = []
replies_among (Some reply ∷ rs) = reply ∷ replies_among rs
replies_among (None ∷ rs) = replies_among rs

-- Holds if no purge of a list is up to a later time.
abbrev pub PurgesBy : ℕ → List Act → Type 0
PurgesBy last [] = Unit {0}
PurgesBy last (Makes timed ∷ xs) = PurgesBy last xs
PurgesBy last (Purges until ∷ xs) = (until ≤ last) × PurgesBy last xs

-- Holds if each call of a list is forward-looking from all purges before it, in its airspace
-- without purges. The purges before the list were up to `until` or earlier.
abbrev pub LookAheadSince : ℕ → List ℕ → List Act → Airspace → Type 0
LookAheadSince until salt [] a = Unit {0}
LookAheadSince until salt (Makes timed ∷ xs) a = LooksAhead until a timed.1
    × LookAheadSince until salt xs (step salt a timed.0 timed.1).0
LookAheadSince until salt (Purges u ∷ xs) a = LookAheadSince (max until u) salt xs a

-- The same without a purge before the list. The calls before its first purge can be any.
abbrev pub LookAheadOncePurged : List ℕ → List Act → Airspace → Type 0
LookAheadOncePurged salt [] a = Unit {0}
LookAheadOncePurged salt (Makes timed ∷ xs) a =
    LookAheadOncePurged salt xs (step salt a timed.0 timed.1).0
LookAheadOncePurged salt (Purges u ∷ xs) a = LookAheadSince u salt xs a

-- States that the replies to such calls are those without purges. The airspace is the one that the
-- calls leave without purges, partly purged.
abbrev pub PurgesAreUnseen : Type 0
PurgesAreUnseen = (last : ℕ) (salt : List ℕ) (acts : List Act) (a : Airspace) → IsAirspace a
    → PurgesBy last acts → LookAheadOncePurged salt acts a
    → (replies_among (replies_by salt a acts) ≡ replies_of salt a (calls_among acts))
    × IsPartlyPurged last (airspace_after salt a (calls_among acts)) (airspace_by salt a acts)
