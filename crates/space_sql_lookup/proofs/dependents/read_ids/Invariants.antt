use Rattle.std.proofs.Common.{◌≡◌, take, Ok}
use Rattle.sqlite.specs.Held.{state}
use Rattle.space_sql_select.specs.Reading.{Reads}
use Rattle.space_sql_lookup.specs.Dependents.{FindsIds}
use Rattle.space_sql_lookup.proofs.dependents.read_ids.Given as goal

abbrev pub invariant-loop-num : goal.invariant-loop-num
invariant-loop-num g l = record {
  same_reference : l.tx.conn.ghost_name ≡ l.fn.tx.conn.ghost_name;
  so_far : Reads {X = Unit {0}} (λ db _. FindsIds (take l.num-index l.numbers) db l.ids.items) (state g.S.Store l.fn.tx.conn.now) (state g.S.Store l.tx.conn.now) (Ok tt);
}
