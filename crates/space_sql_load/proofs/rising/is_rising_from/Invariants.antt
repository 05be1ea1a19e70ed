use Rattle.std.proofs.Common.{drop}
use Rattle.space_sql_load.proofs.Risings.{RisesOn}
use Rattle.space_sql_load.proofs.rising.is_rising_from.Given as goal

abbrev pub invariant-loop-id : goal.invariant-loop-id
invariant-loop-id l = RisesOn l.fn.first l.rest l.last (drop l.id-index l.rest)
