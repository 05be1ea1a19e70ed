use Rattle.sqlite.specs.Held.{state}
use Rattle.space_sql.proofs.Crashes.{leaves_content, leaves_held}
use Rattle.space_sql.proofs.laws.crash_leaves_what_is_held.Goals as goal

pub returns-clause-held : goal.returns-clause-held
returns-clause-held g c = λ whole db may. leaves_held (state g.S.Store c.args.space.now.conn) whole db may

pub returns-clause-content : goal.returns-clause-content
returns-clause-content g c = λ a is whole db may. leaves_content (state g.S.Store c.args.space.now.conn) a is.only whole db may
