-- When a trusted time is stored.
use Rattle.std.specs.Prelude.{◌≡◌, ◌<◌, ◌≤◌, ◌⊎◌, ℕ, Option, Some, None, ⊤}
use Rattle.std.specs.Duration.{as_nanos}
use Rattle.std.specs.declared.time.Duration.{Duration}
use Rattle.server_base.specs.declared.trusted_time.LastTime.{LastTime}
use Rattle.server_base.specs.declared.trusted_time.LastTime.TheVariants as known
use Rattle.server_base.specs.declared.trusted_time.TrustedTime.{TrustedTime}
use Rattle.server_watch.specs.Saturating.{add}
use Rattle.server_watch.specs.declared.time_record.TimeRecord.{TimeRecord}

abbrev pub stored_of : TimeRecord → Option TrustedTime
stored_of it = it.stored

-- The time of the monotonic clock before which nothing is stored, in nanoseconds.
abbrev pub pause_of : TimeRecord → ℕ
pause_of it = as_nanos it.pause

-- Returns the time that is stored at a start.
abbrev pub stored_before : Option LastTime → Option TrustedTime
stored_before None = None
stored_before (Some (known.Changed moment)) = None
stored_before (Some (known.Trusted time)) = Some time

-- Holds if a time is to take the place of the stored one: none is stored; the clock has jumped or
-- returned since then; the stored time is later, or ten minutes earlier.
abbrev pub Replaces : (time : TrustedTime) → (stored : Option TrustedTime) → Type 0
Replaces time None = ⊤
Replaces time (Some stored) = (stored.jumped_to ≡ time.jumped_to → ⊥)
    ⊎ (time.moment < stored.moment) ⊎ (add stored.moment 600 ≤ time.moment)

-- Holds if a time is to be stored now.
abbrev pub IsStoreDue : TimeRecord → TrustedTime → (now : Duration) → Type 0
IsStoreDue it time now = (pause_of it ≤ as_nanos now) × Replaces time (stored_of it)
