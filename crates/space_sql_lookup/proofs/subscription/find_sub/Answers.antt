use Rattle.std.proofs.Common.{◌<◌, ◌^◌, ℕ, List, subst}
use Rattle.sqlite.specs.Held.{state}
use Rattle.sqlite.specs.Order.{Row}
use Rattle.space_sql_select.proofs.Readings.{reads_then}
use Rattle.space_sql_lookup.specs.Subscription.{AnswersSub, FindsSub}
use Rattle.space_sql_lookup.specs.SubscriptionRows.{FindsSubOfHead}
use Rattle.space_sql_lookup.proofs.Still.{reads_weaker}
use Rattle.space_sql_lookup.proofs.OwnSubs.{sub_named_told}
use Rattle.space_sql_lookup.proofs.subscription.find_sub.Goals as goal

pub returns-clause-reads : goal.returns-clause-reads
returns-clause-reads g c =
    let fits = subst (λ (n : ℕ). n < 2 ^ 128) c.number-number.ensures c.number-number.type_inv in
    let id = c.args.id in
    let a = state g.S.Store c.args.tx.now.conn.now in
    let b = state g.S.Store c.query_sub.new.tx.conn.now in
    let d = state g.S.Store c.sub_of_head.new.tx.conn.now in
    let rows = c.in_ok-rows.rows in
    reads_weaker _ (FindsSub id) a d c.sub_of_head.result
    (λ db found h. sub_named_told db id fits rows.items found h.0 (subst (λ (l : List Row). FindsSubOfHead l db found) c.as_slice.ensures.value h.1))
    (reads_then (λ db rows. AnswersSub id db rows.items) (FindsSubOfHead c.as_slice.result.now) a b d rows c.sub_of_head.result c.in_ok-rows.ensures.reads c.sub_of_head.ensures.reads)
