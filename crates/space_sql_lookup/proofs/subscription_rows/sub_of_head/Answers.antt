use Rattle.std.proofs.Common.{◌≡◌, None, to_z, of_z, w64, rules}
use Rattle.sqlite.specs.Held.{state}
use Rattle.space_sql_select.proofs.Readings.{reads_as}
use Rattle.space_sql_lookup.specs.SubscriptionRows.{AnswersSubCells, FindsSubOfHead}
use Rattle.space_sql_lookup.proofs.OwnSubs.{no_sub_told, sub_told}
use Rattle.space_sql_lookup.proofs.Still.{reads_still}
use Rattle.space_sql_lookup.proofs.subscription_rows.sub_of_head.Goals as goal

pub returns-in_default-clause-reads : goal.returns-in_default-clause-reads
returns-in_default-clause-reads g c =
    let heads = c.args.heads.now in
    reads_still (FindsSubOfHead heads) (state g.S.Store c.args.tx.now.conn.now) None (no_sub_told heads c.in_ok-head.field-0 c.in_ok-head.ensures.none c.in_ok-head.ensures.one c.in_default.is)

pub returns-clause-reads : goal.returns-clause-reads
returns-clause-reads g c =
    let heads = c.args.heads.now in
    let head = c.in-Some.head in
    let cells = c.in_ok-cells.cells in
    let n : to_z w64 (of_z w64 head.num) ≡ head.num = search rules in
    reads_as (λ db rows. AnswersSubCells head.num db rows.items) (FindsSubOfHead heads) (state g.S.Store c.args.tx.now.conn.now) (state g.S.Store c.query_sub_cells.new.tx.conn.now) cells _
    (λ db h. sub_told heads c.in_ok-head.field-0 c.in_ok-head.ensures.none c.in_ok-head.ensures.one head c.in-Some.is cells.items c.in_ok-sub.sub (rw c.as_slice.ensures.value at c.in_ok-sub.ensures) db h) (rw n at c.in_ok-cells.ensures.reads)
