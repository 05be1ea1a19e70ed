-- The readings of the system clock.
use Rattle.std.specs.Prelude.{ℕ}
use Rattle.dss.specs.declared.clock.SystemClock.{SystemClock}

-- A reading can be any time: nothing is claimed of it.
abbrev pub GivesMoment : SystemClock → ℕ → SystemClock → Type 0
GivesMoment old moment new = Unit {0}

-- The number of failed readings.
abbrev pub failures_of : SystemClock → ℕ
failures_of clock = clock.failures
