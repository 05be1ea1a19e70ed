-- Lemmas: the airspace after the events of a log.
use Rattle.std.proofs.Common.{◌≡◌, ℕ, ◌+◌, List, [], ◌∷◌, ◌++◌, length, ap, ◌∙◌, length-append}
use Rattle.std.proofs.lemmas.List.{append-nil}
use Rattle.std.proofs.lemmas.List.Concat.{flat_map-append}
use Rattle.entity_core.specs.Airspace.{Airspace}
use Rattle.pool_core.specs.Acts.{Act, airspace_by}
use Rattle.pool_core.specs.Log.{GivesEntry, LogEntry, LogEvent}
use Rattle.pool_core.specs.Serves.{acts_in}
use Rattle.pool_core.proofs.Acts.{after_append}
use Rattle.pool_entry.specs.Acts.{acts_of}
use Rattle.pool_follow.specs.Follower.{airspace_of, entries_in, entry_in}

pub entries_append : (xs ys : List LogEvent) → entries_in (xs ++ ys) ≡ entries_in xs ++ entries_in ys
entries_append xs ys = flat_map-append entry_in xs ys

pub entries_count : (xs ys : List LogEvent) → length (entries_in (xs ++ ys)) ≡ length (entries_in xs) + length (entries_in ys)
entries_count xs ys = ap (λ (v : List LogEntry). length v) (entries_append xs ys) ∙ length-append (entries_in xs) (entries_in ys)

pub air_append : (salt : List ℕ) (start : Airspace) (xs ys : List LogEvent) → airspace_of salt start (xs ++ ys) ≡ airspace_of salt (airspace_of salt start xs) ys
air_append salt start xs ys =
    ap (λ (v : List LogEntry). airspace_by salt start (acts_in acts_of v)) (entries_append xs ys)
    ∙ ap (λ (v : List Act). airspace_by salt start v) (flat_map-append (λ (e : LogEntry). acts_of e.bytes) (entries_in xs) (entries_in ys))
    ∙ after_append salt start (acts_in acts_of (entries_in xs)) (acts_in acts_of (entries_in ys))

pub air_entry : (salt : List ℕ) (start : Airspace) (entry : LogEntry) → airspace_of salt start (GivesEntry entry ∷ []) ≡ airspace_by salt start (acts_of entry.bytes)
air_entry salt start entry = ap (λ (v : List Act). airspace_by salt start v) (append-nil (acts_of entry.bytes))
