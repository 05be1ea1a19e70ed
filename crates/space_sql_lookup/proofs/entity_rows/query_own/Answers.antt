use Rattle.std.proofs.Common.{to_z-of_z}
use Rattle.sqlite.specs.Held.{state}
use Rattle.space_sql_select.proofs.Readings.{reads_as, reads_then}
use Rattle.space_sql_lookup.specs.Naming.{FindsNaming}
use Rattle.space_sql_lookup.specs.EntityRows.{AnswersVolumes, AnswersCells, AnswersOwn}
use Rattle.space_sql_lookup.proofs.entity_rows.query_own.Goals as goal

pub returns-clause-reads : goal.returns-clause-reads
returns-clause-reads g c =
    let num = c.args.num in
    let a = state g.S.Store c.args.tx.now.conn.now in
    let b = state g.S.Store c.query_volumes.new.tx.conn.now in
    let d = state g.S.Store c.query_cells.new.tx.conn.now in
    let e = state g.S.Store c.read_naming.new.tx.conn.now in
    let volumes = rw (to_z-of_z c.ranges.num) at c.in_ok-query_volumes.ensures.reads in
    let cells = rw (to_z-of_z c.ranges.num) at c.in_ok-query_cells.ensures.reads in
    let named = rw (to_z-of_z c.ranges.num) at c.in_ok-read_naming.ensures.reads in
    reads_as _ (AnswersOwn num) a e _ _ (λ db h. record { volumes = h.0.0; cells = h.0.1; named = h.1 })
    (reads_then _ (FindsNaming num) a d e _ _ (reads_then (λ db rows. AnswersVolumes num db rows.items) (λ db rows. AnswersCells num db rows.items) a b d _ _ volumes cells) named)
