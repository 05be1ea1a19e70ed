use Rattle.std.proofs.Common.{◌≡◌, ◌≤ℤ◌, List, Ok}
use Rattle.sqlite.specs.Effect.{IsDatabase}
use Rattle.sqlite.specs.Held.{state}
use Rattle.space_sql_schema.specs.Spelling.{SubGroup}
use Rattle.space_sql_select.specs.Reading.{Reads}
use Rattle.space_sql_check.specs.Parts.{AreNumbered, HasEntities, is_within, least}
use Rattle.space_sql_check.proofs.entities.are_entities.Given as goal

abbrev pub invariant-loop : goal.invariant-loop
invariant-loop g l = record {
  same_reference : l.tx.conn.ghost_name ≡ l.fn.tx.conn.ghost_name;
  low : least ≤ℤ l.over;
  so_far : Reads {X = Unit {0}} (λ db _. IsDatabase db → (subs : List SubGroup) → AreNumbered subs l.numbers → HasEntities l.serial subs (is_within least l.over) db) (state g.S.Store l.fn.tx.conn.now) (state g.S.Store l.tx.conn.now) (Ok tt);
}
