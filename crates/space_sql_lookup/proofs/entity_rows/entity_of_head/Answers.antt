use Rattle.std.proofs.Common.{◌≡◌, None, to_z, of_z, w64, rules}
use Rattle.sqlite.specs.Held.{state}
use Rattle.space_sql_select.proofs.Readings.{reads_as}
use Rattle.space_sql_lookup.specs.EntityRows.{AnswersOwn, FindsOfHead}
use Rattle.space_sql_lookup.proofs.Entire.{no_entity_told, entity_told}
use Rattle.space_sql_lookup.proofs.Still.{reads_still}
use Rattle.space_sql_lookup.proofs.entity_rows.entity_of_head.Goals as goal

pub returns-in_default-clause-reads : goal.returns-in_default-clause-reads
returns-in_default-clause-reads g c =
    let heads = c.args.heads.now in
    reads_still (FindsOfHead heads) (state g.S.Store c.args.tx.now.conn.now) None (no_entity_told heads c.in_ok-head.field-0 c.in_ok-head.ensures.none c.in_ok-head.ensures.one c.in_default.is)

pub returns-clause-reads : goal.returns-clause-reads
returns-clause-reads g c =
    let heads = c.args.heads.now in
    let head = c.in-Some.head in
    let n : to_z w64 (of_z w64 head.num) ≡ head.num = search rules in
    reads_as (AnswersOwn head.num) (FindsOfHead heads) (state g.S.Store c.args.tx.now.conn.now) (state g.S.Store c.query_own.new.tx.conn.now) c.in_ok-own.own _
    (λ db h. entity_told heads c.in_ok-head.field-0 c.in_ok-head.ensures.none c.in_ok-head.ensures.one head c.in-Some.is c.in_ok-own.own c.in_ok-entity.entity c.in_ok-entity.ensures db h) (rw n at c.in_ok-own.ensures.reads)
