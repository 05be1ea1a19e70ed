use Rattle.sqlite.specs.Held.{state}
use Rattle.space_sql_schema.specs.Making.{KeepsTables}
use Rattle.space_sql_schema.specs.Tables.{old_first_schema, old_unindexed_schema}
use Rattle.space_sql_open.specs.Relaying.{RelaysFirst, RelaysSettings, listed}
use Rattle.space_sql_open.proofs.Relays.{carried, carries_then}
use Rattle.space_sql_open.proofs.relaying.relay_settings.Goals as goal

pub returns-clause-relays : goal.returns-clause-relays
returns-clause-relays g c =
    let rows = listed c.args.aside.now in
    let a = state g.S.Store c.args.tx.now.conn.now in
    let b = state g.S.Store c.drop_later.new.tx.conn.now in
    let d = state g.S.Store c.relay_first.new.tx.conn.now in
    carries_then (KeepsTables old_unindexed_schema old_first_schema) (RelaysFirst rows.settings) (RelaysSettings rows.settings) a b d _ _ _ (λ keeps relays trees has. relays trees (keeps trees has)) (carried (KeepsTables old_unindexed_schema old_first_schema) _ _ _ c.in_ok-drop_later.ensures.keeps) (rw c.as_slice.ensures.value at c.in_ok-relay_first.ensures.relays)
