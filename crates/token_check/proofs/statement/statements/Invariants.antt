use Rattle.std.specs.List.{All}
use Rattle.token_check.specs.Statement.{IsWrittenIn}
use Rattle.token_check.proofs.statement.statements.Given as goal

abbrev pub invariant-loop-statement : goal.invariant-loop-statement
invariant-loop-statement l = All (IsWrittenIn l.text) l.found.items
