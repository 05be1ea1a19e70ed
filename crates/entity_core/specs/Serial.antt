-- Serials.
use Rattle.std.specs.Prelude.{ℕ}

-- The maximum serial of an airspace.
abbrev pub max_serial : ℕ
max_serial = 9223372036854775807
