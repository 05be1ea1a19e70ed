use Rattle.sqlite.specs.Held.{state}
use Rattle.space_sql_schema.specs.Making.{LaysAnew}
use Rattle.space_sql_open.specs.Relaying.{Puts, RelaysFirst, nothing, with_settings}
use Rattle.space_sql_open.proofs.Relays.{carried, carries_then, laid}
use Rattle.space_sql_open.proofs.relaying.relay_first.Goals as goal

pub returns-clause-relays : goal.returns-clause-relays
returns-clause-relays g c =
    let a = state g.S.Store c.args.tx.now.conn.now in
    let b = state g.S.Store c.lay_anew.new.tx.conn.now in
    let d = state g.S.Store c.reinsert_all.new.tx.conn.now in
    carries_then (LaysAnew) (Puts (with_settings c.args.settings.now)) (RelaysFirst c.args.settings.now) a b d _ _ _ (λ lays puts trees has. puts trees nothing (laid trees b.now (lays trees has))) (carried (LaysAnew) _ _ _ c.in_ok-lay_anew.ensures.lays) c.in_ok-reinsert_all.ensures.puts
