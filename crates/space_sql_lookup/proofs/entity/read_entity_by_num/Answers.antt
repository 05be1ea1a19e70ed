use Rattle.std.proofs.Common.{List, subst, to_z-of_z}
use Rattle.sqlite.specs.Held.{state}
use Rattle.sqlite.specs.Order.{Row}
use Rattle.space_sql_select.proofs.Readings.{reads_then}
use Rattle.space_sql_lookup.specs.Entity.{AnswersNumber, FindsNumbered}
use Rattle.space_sql_lookup.specs.EntityRows.{FindsOfHead}
use Rattle.space_sql_lookup.proofs.Still.{reads_weaker}
use Rattle.space_sql_lookup.proofs.OwnEntity.{numbered_told}
use Rattle.space_sql_lookup.proofs.entity.read_entity_by_num.Goals as goal

pub returns-clause-reads : goal.returns-clause-reads
returns-clause-reads g c =
    let num = c.args.num in
    let a = state g.S.Store c.args.tx.now.conn.now in
    let b = state g.S.Store c.query_numbered.new.tx.conn.now in
    let d = state g.S.Store c.entity_of_head.new.tx.conn.now in
    let rows = c.in_ok-rows.rows in
    reads_weaker _ (FindsNumbered num) a d c.entity_of_head.result
    (λ db found h. numbered_told num db rows.items found h.0 (subst (λ (l : List Row). FindsOfHead l db found) c.as_slice.ensures.value h.1))
    (reads_then (λ db rows. AnswersNumber num db rows.items) (FindsOfHead c.as_slice.result.now) a b d rows c.entity_of_head.result (rw (to_z-of_z c.ranges.num) at c.in_ok-rows.ensures.reads) c.entity_of_head.ensures.reads)
