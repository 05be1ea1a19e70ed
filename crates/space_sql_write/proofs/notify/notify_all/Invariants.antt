use Rattle.std.proofs.Common.{◌≡◌, Ok}
use Rattle.sqlite.specs.Held.{state}
use Rattle.space_sql_write.specs.Statements.{Runs}
use Rattle.space_sql_write.proofs.NotifiedAll.{TellsFirst}
use Rattle.space_sql_write.proofs.notify.notify_all.Given as goal

abbrev pub invariant-loop-id : goal.invariant-loop-id
invariant-loop-id g l = record {
  same_reference : l.tx.conn.ghost_name ≡ l.fn.tx.conn.ghost_name;
  so_far : Runs {X = Unit {0}} (λ _ a b. TellsFirst l.id-index l.ids a b) (state g.S.Store l.fn.tx.conn.now) (state g.S.Store l.tx.conn.now) (Ok tt);
}
