use Rattle.std.proofs.Common.{Ok, refl}
use Rattle.sqlite.specs.Held.{state}
use Rattle.space_sql_schema.specs.Tables.{old_first_schema}
use Rattle.space_sql_open.specs.Relaying.{MovesFirst, RelaysFormat}
use Rattle.space_sql_open.proofs.Relays.{inside_carries}
use Rattle.space_sql_open.proofs.laying.move_first.Goals as goal

pub returns-in-Ok-clause-moves : goal.returns-in-Ok-clause-moves
returns-in-Ok-clause-moves g c =
    let old = state g.S.Store c.args.tx.now.conn.now in
    let new = state g.S.Store c.relay_format_1.new.tx.conn.now in
    inside_carries old_first_schema (RelaysFormat c.args.settings.now) (MovesFirst c.args.settings.now) old new _ (Ok tt) (λ has relays. relays old.now.trees (has, (refl, (refl, (refl, (refl, (refl, tt))))))) c.in-Ok.ensures.relays
