-- When the token file is read, and what a reading changes.
use Rattle.std.specs.Prelude.{◌≡◌, ◌+◌, ◌<◌, ◌≤◌, ◌&&◌, ◌⊎◌, nat_lt, ℕ, Bool, true, List, Option, Some, None, Ok, Err, IsNone}
use Rattle.std.specs.Duration.{as_nanos}
use Rattle.std.specs.declared.time.Duration.{Duration}
use Rattle.token_conf.specs.TokenFile.{TokenFile}
use Rattle.server_watch.specs.Tokens.{Checks, Finding, IsMissed, lacks}
use Rattle.server_watch.specs.declared.token_watch.TokenSource as sources
use Rattle.server_watch.specs.declared.token_watch.TokenWatch.{TokenWatch}

abbrev pub source_of : {T : Type 0} → TokenWatch T → T
source_of watch = watch.source

-- The bytes that were last checked.
abbrev pub checked_of : {T : Type 0} → TokenWatch T → List ℕ
checked_of watch = watch.checked.items

-- The time of the last reading, in nanoseconds.
abbrev pub looked_of : {T : Type 0} → TokenWatch T → ℕ
looked_of watch = as_nanos watch.looked

-- The number of times in a row that the file could not be read.
abbrev pub misses_of : {T : Type 0} → TokenWatch T → ℕ
misses_of watch = watch.misses

-- True if memory ran out at the last reading.
abbrev pub is_lacking_in : {T : Type 0} → TokenWatch T → Bool
is_lacking_in watch = watch.is_lacking

-- True if the bytes that were last checked are those of a table that was loaded.
abbrev pub is_valid_in : {T : Type 0} → TokenWatch T → Bool
is_valid_in watch = watch.is_checked_valid

-- Holds if the file is to be read: it was not for a second.
abbrev pub IsReadingDue : {T : Type 0} → TokenWatch T → (now : Duration) → Type 0
IsReadingDue watch now = looked_of watch + 1_000_000_000 ≤ as_nanos now

-- Holds if the file was read less than a second ago.
abbrev pub IsReadingEarly : {T : Type 0} → TokenWatch T → (now : Duration) → Type 0
IsReadingEarly watch now = as_nanos now < looked_of watch + 1_000_000_000

-- Holds if the source was read once, and this was found.
abbrev pub ReadsFile : {T : Type 0} → sources.Ghosts T → (first : TokenFile) → TokenWatch T
    → TokenWatch T → Finding → Type 0
ReadsFile t first old new found =
    (t.reads (source_of old) None (source_of new) × (checked_of new ≡ checked_of old)
    × IsMissed (misses_of old) (misses_of new) found)
    ⊎ ((bytes : List ℕ) × t.reads (source_of old) (Some bytes) (source_of new)
    × (misses_of new ≡ 0) × Checks first bytes (checked_of old) (checked_of new) found)

-- The table to load after a finding.
abbrev pub table_in : Finding → Option TokenFile
table_in (Ok table) = table
table_in (Err why) = None

-- True if the checked bytes are those of a loaded table, after a finding.
abbrev pub is_valid_after : (valid : Bool) → (misses : ℕ) → Finding → Bool
is_valid_after valid misses (Ok None) = valid
is_valid_after valid misses (Ok (Some table)) = true
is_valid_after valid misses (Err why) = valid && nat_lt 0 misses

-- Holds if the source was read once, and the result and the flags are those of what was found.
abbrev pub LooksAtFile : {T : Type 0} → sources.Ghosts T → (first : TokenFile) → TokenWatch T
    → TokenWatch T → (result : Option TokenFile) → Type 0
LooksAtFile t first old new result = (found : Finding) × ReadsFile t first old new found
    × (result ≡ table_in found) × (is_lacking_in new ≡ lacks found)
    × (is_valid_in new ≡ is_valid_after (is_valid_in old) (misses_of new) found)

-- Holds if the watch looked at the file at this time, with this result. If a reading was due, the
-- source was read once. Otherwise nothing was found, and the watch stays.
abbrev pub LooksOnce : {T : Type 0} → sources.Ghosts T → (first : TokenFile) → (now : Duration)
    → TokenWatch T → TokenWatch T → (result : Option TokenFile) → Type 0
LooksOnce t first now old new result =
    (IsReadingEarly old now → IsNone result × (new ≡ old))
    × (IsReadingDue old now → (looked_of new ≡ as_nanos now) × LooksAtFile t first old new result)
