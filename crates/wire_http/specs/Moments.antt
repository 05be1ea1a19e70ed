-- The parts of clocks, and a clock of which nothing is claimed.
use Rattle.std.specs.Prelude.{ℕ}
use Rattle.wire_http.specs.declared.moments.FixedClock.{FixedClock}

-- The time of a fixed clock.
abbrev pub moment_of : FixedClock → ℕ
moment_of clock = clock.moment

-- Holds for any time.
abbrev pub AnyMoment : Unit {0} → ℕ → Unit {0} → Type 0
AnyMoment clock moment clock' = Unit {0}
