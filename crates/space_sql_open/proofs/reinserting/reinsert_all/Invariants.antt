use Rattle.std.proofs.Common.{◌≡◌, take, Ok}
use Rattle.sqlite.specs.Held.{state}
use Rattle.space_sql_open.specs.Relaying.{Carries, Puts}
use Rattle.space_sql_open.proofs.reinserting.reinsert_all.Given as goal

abbrev pub invariant-loop-row : goal.invariant-loop-row
invariant-loop-row g l = record {
  same_reference : l.tx.conn.ghost_name ≡ l.fn.tx.conn.ghost_name;
  so_far : Carries {X = Unit {0}} (Puts (g.R.Reinserted.join (take l.row-index l.rows))) (state g.S.Store l.fn.tx.conn.now) (state g.S.Store l.tx.conn.now) (Ok tt);
}
