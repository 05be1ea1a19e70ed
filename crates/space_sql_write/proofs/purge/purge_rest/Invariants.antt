use Rattle.std.proofs.Common.{◌≡◌, Ok}
use Rattle.sqlite.specs.Held.{state}
use Rattle.space_sql_write.specs.Statements.{Runs}
use Rattle.space_sql_write.proofs.Purging.{LeadsTo}
use Rattle.space_sql_write.proofs.purge.purge_rest.Given as goal

abbrev pub invariant-loop-next : goal.invariant-loop-next
invariant-loop-next g l = record {
  same_reference : l.tx.conn.ghost_name ≡ l.fn.tx.conn.ghost_name;
  so_far : Runs {X = Unit {0}} (λ _ a b. LeadsTo l.next-index l.rest a b) (state g.S.Store l.fn.tx.conn.now) (state g.S.Store l.tx.conn.now) (Ok tt);
}
