use Rattle.std.proofs.Common.{drop}
use Rattle.space_sql_load.proofs.Risings.{RisesOn}
use Rattle.space_sql_check.specs.Parts.{nums_of}
use Rattle.space_sql_check.proofs.subscriptions.is_rising_from.Given as goal

abbrev pub invariant-loop-next : goal.invariant-loop-next
invariant-loop-next l = RisesOn l.fn.first (nums_of l.rest) l.last (nums_of (drop l.next-index l.rest))
