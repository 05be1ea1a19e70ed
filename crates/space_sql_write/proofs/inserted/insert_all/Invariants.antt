use Rattle.std.proofs.Common.{◌≡◌, take, Ok}
use Rattle.sqlite.specs.Held.{state}
use Rattle.space_sql_write.specs.Layout.{Always, Relays}
use Rattle.space_sql_write.specs.Statements.{Runs}
use Rattle.space_sql_write.proofs.inserted.insert_all.Given as goal

abbrev pub invariant-loop-row : goal.invariant-loop-row
invariant-loop-row g l = record {
  same_reference : l.tx.conn.ghost_name ≡ l.fn.tx.conn.ghost_name;
  so_far : Runs {X = Unit {0}} (λ _. Relays Always (g.R.Inserted.join (take l.row-index l.rows))) (state g.S.Store l.fn.tx.conn.now) (state g.S.Store l.tx.conn.now) (Ok tt);
}
