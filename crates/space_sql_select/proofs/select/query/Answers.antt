use Rattle.sqlite.specs.Held.{state}
use Rattle.sqlite.specs.Values.{bound}
use Rattle.space_sql_select.specs.Selecting.{Answers}
use Rattle.space_sql_select.proofs.Readings.{reads_on}
use Rattle.space_sql_select.proofs.Selects.{answers_as}
use Rattle.space_sql_select.proofs.select.query.Goals as goal

pub returns-clause-reads : goal.returns-clause-reads
returns-clause-reads g c =
    let old = state g.S.Store c.args.tx.now.conn.now in
    let new = state g.S.Store c.query_all.new.self.conn.now in
    let params = bound c.args.params.now in
    reads_on c.args.sql.now c.requires.plain params old new (λ db rows. Answers c.args.sql.now params db rows) c.query_all.result c.query_all.ensures.ok c.query_all.ensures.err c.query_all.ensures.survives
    (answers_as c.args.sql.now params old new c.requires)
