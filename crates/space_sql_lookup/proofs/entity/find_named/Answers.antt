use Rattle.std.proofs.Common.{◌<◌, ◌^◌, ℕ, List, subst}
use Rattle.sqlite.specs.Held.{state}
use Rattle.sqlite.specs.Order.{Row}
use Rattle.entity_core.specs.Airspace.{EntityKey}
use Rattle.space_sql_select.proofs.Readings.{reads_then}
use Rattle.space_sql_lookup.specs.Entity.{AnswersNamed, FindsNamed}
use Rattle.space_sql_lookup.specs.EntityRows.{FindsOfHead}
use Rattle.space_sql_lookup.proofs.Still.{reads_weaker}
use Rattle.space_sql_lookup.proofs.Entire.{named_told}
use Rattle.space_sql_lookup.proofs.entity.find_named.Goals as goal

pub returns-clause-reads : goal.returns-clause-reads
returns-clause-reads g c =
    let fits = subst (λ (n : ℕ). n < 2 ^ 128) c.number-number.ensures c.number-number.type_inv in
    let k : EntityKey = (c.args.kind, c.args.id) in
    let a = state g.S.Store c.args.tx.now.conn.now in
    let b = state g.S.Store c.query_named.new.tx.conn.now in
    let d = state g.S.Store c.entity_of_head.new.tx.conn.now in
    let rows = c.in_ok-rows.rows in
    reads_weaker _ (FindsNamed k) a d c.entity_of_head.result
    (λ db found h. named_told db k fits rows.items found h.0 (subst (λ (l : List Row). FindsOfHead l db found) c.as_slice.ensures.value h.1))
    (reads_then (λ db rows. AnswersNamed k db rows.items) (FindsOfHead c.as_slice.result.now) a b d rows c.entity_of_head.result c.in_ok-rows.ensures.reads c.entity_of_head.ensures.reads)
