use Rattle.sqlite.specs.Held.{state}
use Rattle.space_sql.proofs.Outcomes.{spelt_alone, spelt_is_held}
use Rattle.space_sql.proofs.open.space_over.Goals as goal

pub returns-clause-content : goal.returns-clause-content
returns-clause-content g c = λ sound rest a spelt.
    let s = state g.S.Store c.args.conn in
    record { held = spelt_is_held s c.at_rest.ensures rest.0 a spelt; only = λ b. spelt_alone s c.at_rest.ensures rest.0 a b spelt }
