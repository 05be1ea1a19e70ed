-- The readings of a simulated clock.
use Rattle.std.specs.Prelude.{ℕ}
use Rattle.test_simulation.specs.declared.clock.SimClock.{SimClock}

-- A reading can be any time: nothing is claimed of it.
abbrev pub GivesMoment : SimClock → ℕ → SimClock → Type 0
GivesMoment old moment new = Unit {0}

-- The number of failed readings.
abbrev pub failures_of : SimClock → ℕ
failures_of clock = clock.failures
