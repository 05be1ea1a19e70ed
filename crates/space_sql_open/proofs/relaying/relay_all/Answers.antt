use Rattle.sqlite.specs.Held.{state}
use Rattle.space_sql_open.specs.Relaying.{Puts, RelaysAll, RelaysSettings, listed, nothing, with_later, with_settings}
use Rattle.space_sql_open.proofs.Relays.{carries_then}
use Rattle.space_sql_open.proofs.relaying.relay_all.Goals as goal

pub returns-clause-relays : goal.returns-clause-relays
returns-clause-relays g c =
    let rows = listed c.args.aside.now in
    let a = state g.S.Store c.args.tx.now.conn.now in
    let b = state g.S.Store c.relay_settings.new.tx.conn.now in
    let d = state g.S.Store c.reinsert_later.new.tx.conn.now in
    carries_then (RelaysSettings rows.settings) (Puts (with_later rows)) (RelaysAll rows) a b d _ _ _ (λ relays puts trees has. puts trees (with_settings rows.settings nothing) (relays trees has)) c.in_ok-relay_settings.ensures.relays c.in_ok-reinsert_later.ensures.puts
