-- The parts of a counted device.
use Rattle.std.specs.Prelude.{ℕ, Bool}
use Rattle.wire_http.specs.declared.counted.Counted.{Counted}

-- The device.
abbrev pub inner_of : {T : Type 0} → Counted T → T
inner_of c = c.inner

-- The number of calls of the device.
abbrev pub calls_of : {T : Type 0} → Counted T → ℕ
calls_of c = c.calls

-- The number of failures of the device.
abbrev pub failures_of : {T : Type 0} → Counted T → ℕ
failures_of c = c.failures

-- Returns true if the last call of the device failed.
abbrev pub has_failed : {T : Type 0} → Counted T → Bool
has_failed c = c.failed
