-- Deadlines on the monotonic clock.
use Rattle.std.specs.Prelude.{◌+◌, ℕ, min}
use Rattle.std.specs.Duration.{max_nanos}

-- A minute later, in nanoseconds, saturating at the maximum duration.
abbrev pub a_minute_after : (now : ℕ) → ℕ
a_minute_after now = min (now + 60_000_000_000) max_nanos
