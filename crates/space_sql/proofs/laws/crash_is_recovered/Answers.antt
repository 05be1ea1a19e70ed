use Rattle.sqlite.specs.Held.{state}
use Rattle.space_sql.proofs.Crashes.{refused_again, taken_again}
use Rattle.space_sql.proofs.laws.crash_is_recovered.Goals as goal

pub returns : goal.returns
returns g c = λ result taken refused.
    let before = state g.S.Store c.args.before.now.conn in
    let opened = state g.T.Store c.args.conn.now in
    let settled = c.connection_facts.ensures.settled c.requires in
    record {
      found = taken_again before opened c.connection_facts.ensures.live settled result _ (λ sees. (sees.is_open, sees.left)) _ _ taken;
      refused = refused_again before opened c.connection_facts.ensures.live settled result _ (λ sees. (sees.is_open, sees.left)) _ refused;
    }
