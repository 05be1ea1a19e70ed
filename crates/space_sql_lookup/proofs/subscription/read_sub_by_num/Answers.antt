use Rattle.std.proofs.Common.{List, subst, to_z-of_z}
use Rattle.sqlite.specs.Held.{state}
use Rattle.sqlite.specs.Order.{Row}
use Rattle.space_sql_select.proofs.Readings.{reads_then}
use Rattle.space_sql_lookup.specs.Subscription.{AnswersSubNumber, FindsSubNumbered}
use Rattle.space_sql_lookup.specs.SubscriptionRows.{FindsSubOfHead}
use Rattle.space_sql_lookup.proofs.Still.{reads_weaker}
use Rattle.space_sql_lookup.proofs.OwnSubs.{sub_numbered_told}
use Rattle.space_sql_lookup.proofs.subscription.read_sub_by_num.Goals as goal

pub returns-clause-reads : goal.returns-clause-reads
returns-clause-reads g c =
    let num = c.args.num in
    let a = state g.S.Store c.args.tx.now.conn.now in
    let b = state g.S.Store c.query_sub_numbered.new.tx.conn.now in
    let d = state g.S.Store c.sub_of_head.new.tx.conn.now in
    let rows = c.in_ok-rows.rows in
    reads_weaker _ (FindsSubNumbered num) a d c.sub_of_head.result
    (λ db found h. sub_numbered_told num db rows.items found h.0 (subst (λ (l : List Row). FindsSubOfHead l db found) c.as_slice.ensures.value h.1))
    (reads_then (λ db rows. AnswersSubNumber num db rows.items) (FindsSubOfHead c.as_slice.result.now) a b d rows c.sub_of_head.result (rw (to_z-of_z c.ranges.num) at c.in_ok-rows.ensures.reads) c.sub_of_head.ensures.reads)
