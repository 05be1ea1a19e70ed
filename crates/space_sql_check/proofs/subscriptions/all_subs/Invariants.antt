use Rattle.std.proofs.Common.{◌≡◌, ◌≤ℤ◌, Ok}
use Rattle.sqlite.specs.Effect.{IsDatabase}
use Rattle.sqlite.specs.Held.{state}
use Rattle.space_sql_select.specs.Reading.{Reads}
use Rattle.space_sql_check.specs.Parts.{HasSubs, is_within, least}
use Rattle.space_sql_check.proofs.subscriptions.all_subs.Given as goal

abbrev pub invariant-loop : goal.invariant-loop
invariant-loop g l = record {
  same_reference : l.tx.conn.ghost_name ≡ l.fn.tx.conn.ghost_name;
  low : least ≤ℤ l.over;
  so_far : Reads {X = Unit {0}} (λ db _. IsDatabase db → HasSubs l.serial (is_within least l.over) db l.numbers.items) (state g.S.Store l.fn.tx.conn.now) (state g.S.Store l.tx.conn.now) (Ok tt);
}
