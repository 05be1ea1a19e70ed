use Rattle.std.proofs.Common.{drop}
use Rattle.entity_maps.specs.Subscriptions.{subscription_map}
use Rattle.space_sql_load.proofs.SubGatherings.{SubsOn}
use Rattle.space_sql_load.proofs.subscriptions.gather_subs.Given as goal

abbrev pub invariant-loop-row : goal.invariant-loop-row
invariant-loop-row l = SubsOn l.serial l.rows l.cells l.last (drop l.row-index l.rows) l.cells_left (subscription_map l.subscriptions, l.numbers.items)
