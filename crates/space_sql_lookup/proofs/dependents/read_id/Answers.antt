use Rattle.std.proofs.Common.{to_z-of_z}
use Rattle.sqlite.specs.Held.{state}
use Rattle.space_sql_select.proofs.Readings.{reads_judged}
use Rattle.space_sql_lookup.specs.Dependents.{AnswersId, FindsId}
use Rattle.space_sql_lookup.proofs.Ids.{id_told}
use Rattle.space_sql_lookup.proofs.dependents.read_id.Goals as goal

pub returns-clause-reads : goal.returns-clause-reads
returns-clause-reads g c =
    let num = c.args.num in
    let rows = c.in_ok-rows.rows in
    reads_judged (λ db rows. AnswersId num db rows.items) (FindsId num) (state g.S.Store c.args.tx.now.conn.now) (state g.S.Store c.query_id.new.tx.conn.now) rows c.id_among.result
    (λ db h. id_told num rows.items c.as_slice.result.now c.id_among.result c.as_slice.ensures.value c.id_among.ensures db h) (rw (to_z-of_z c.ranges.num) at c.in_ok-rows.ensures.reads)
