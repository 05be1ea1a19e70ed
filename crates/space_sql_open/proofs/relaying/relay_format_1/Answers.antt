use Rattle.sqlite.specs.Held.{state}
use Rattle.space_sql_schema.specs.Making.{SetsFormat}
use Rattle.space_sql_open.specs.Relaying.{RelaysFirst, RelaysFormat}
use Rattle.space_sql_open.proofs.Relays.{bare, carried, carries_then}
use Rattle.space_sql_open.proofs.relaying.relay_format_1.Goals as goal

pub returns-clause-relays : goal.returns-clause-relays
returns-clause-relays g c =
    let a = state g.S.Store c.args.tx.now.conn.now in
    let b = state g.S.Store c.relay_first.new.tx.conn.now in
    let d = state g.S.Store c.set_format.new.tx.conn.now in
    carries_then (RelaysFirst c.args.settings.now) (SetsFormat) (RelaysFormat c.args.settings.now) a b d _ _ _ (λ relays sets trees has. let it = relays trees has in (b.now, it, sets b.now.trees (bare trees c.args.settings.now b.now it))) c.in_ok-relay_first.ensures.relays (carried (SetsFormat) _ _ _ c.in_ok-set_format.ensures.sets)
