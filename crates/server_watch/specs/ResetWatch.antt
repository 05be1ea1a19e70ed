-- When reset connections are reported.
use Rattle.std.specs.Prelude.{ℕ}
use Rattle.std.specs.Duration.{as_nanos}
use Rattle.server_watch.specs.declared.reset_watch.ResetWatch.{ResetWatch}

-- How many reset connections are not reported yet.
abbrev pub unreported_by : ResetWatch → ℕ
unreported_by watch = watch.unreported

-- The time until which further reset connections are not reported, in nanoseconds.
abbrev pub quiet_until : ResetWatch → ℕ
quiet_until watch = as_nanos watch.quiet_until
