use Rattle.std.proofs.Common.{Ok, refl}
use Rattle.sqlite.specs.Held.{state}
use Rattle.space_sql_schema.specs.Tables.{old_unindexed_schema}
use Rattle.space_sql_open.specs.Relaying.{MovesSecond, RelaysAll, listed}
use Rattle.space_sql_open.proofs.Relays.{inside_carries}
use Rattle.space_sql_open.proofs.laying.move_second.Goals as goal

pub returns-in-Ok-clause-moves : goal.returns-in-Ok-clause-moves
returns-in-Ok-clause-moves g c =
    let old = state g.S.Store c.args.tx.now.conn.now in
    let new = state g.S.Store c.relay_all.new.tx.conn.now in
    let rows = listed c.args.aside.now in
    inside_carries old_unindexed_schema (RelaysAll rows) (MovesSecond rows) old new _ (Ok tt) (λ has relays. relays old.now.trees (has, (refl, (refl, (refl, (refl, (refl, (refl, (refl, (refl, tt)))))))))) c.in-Ok.ensures.relays
