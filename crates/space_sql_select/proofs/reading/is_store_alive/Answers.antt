use Rattle.sqlite.specs.Held.{state}
use Rattle.sqlite.proofs.StateLemmas.{survives_weaker}
use Rattle.space_sql_select.proofs.Alive.{alive_is_same, commits_none}
use Rattle.space_sql_select.proofs.reading.is_store_alive.Goals as goal

pub returns-clause-same : goal.returns-clause-same
returns-clause-same g c = λ clean. alive_is_same (state g.S.Store c.args.conn.now) (state g.S.Store c.query_row.new.self) c.refused.result c.query_row.result c.refused.ensures (c.query_row.ensures.row clean)

pub returns-clause-survives : goal.returns-clause-survives
returns-clause-survives g c = survives_weaker (state g.S.Store c.args.conn.now) (state g.S.Store c.query_row.new.self) _ _ (λ clean db may. absurd (commits_none (state g.S.Store c.args.conn.now) db may)) c.query_row.ensures.survives
