use Rattle.std.proofs.Common.{◌≡◌, take, Ok}
use Rattle.sqlite.specs.Held.{state}
use Rattle.space_sql_select.specs.Reading.{Reads}
use Rattle.space_sql_search.proofs.candidates.read_all.Given as goal

abbrev pub invariant-loop-num : goal.invariant-loop-num
invariant-loop-num g l = record {
  same_reference : l.tx.conn.ghost_name ≡ l.fn.tx.conn.ghost_name;
  so_far : Reads {X = Unit {0}} (λ db _. g.C.Candidates.holds (take l.num-index l.numbers) db l.found) (state g.S.Store l.fn.tx.conn.now) (state g.S.Store l.tx.conn.now) (Ok tt);
}
