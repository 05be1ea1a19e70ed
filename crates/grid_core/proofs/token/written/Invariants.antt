use Rattle.std.proofs.Common.{string_bytes}
use Rattle.grid_core.specs.Token.{Written}
use Rattle.grid_core.proofs.token.written.Given as goal

abbrev pub invariant-loop-place : goal.invariant-loop-place
invariant-loop-place l = Written l.raw l.place (string_bytes l.text)
