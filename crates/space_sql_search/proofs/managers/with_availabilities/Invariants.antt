use Rattle.std.proofs.Common.{◌≡◌, length, Ok}
use Rattle.std.specs.Vec.Iter.{into_iter_items, into_iter_len}
use Rattle.sqlite.specs.Held.{state}
use Rattle.space_sql_select.specs.Reading.{Reads}
use Rattle.space_sql_search.proofs.MetLists.{MakesAll}
use Rattle.space_sql_search.proofs.managers.with_availabilities.Given as goal

abbrev pub invariant-loop-entity : goal.invariant-loop-entity
invariant-loop-entity g l = record {
  same_reference : l.tx.conn.ghost_name ≡ l.fn.tx.conn.ghost_name;
  so_far : Reads {X = Unit {0}} (λ db _. MakesAll l.fn.entities.items l.met.items (into_iter_items l.entity-iterator) db) (state g.S.Store l.fn.tx.conn.now) (state g.S.Store l.tx.conn.now) (Ok tt);
  left : into_iter_len l.entity-iterator ≡ length (into_iter_items l.entity-iterator);
}
