use Rattle.sqlite.specs.Held.{state}
use Rattle.space_sql_select.proofs.Readings.{reads_judged}
use Rattle.space_sql_search.specs.Numbers.{ShowsNumbers, HasNumbers}
use Rattle.space_sql_search.proofs.Counted.{numbers_told}
use Rattle.space_sql_search.proofs.numbers.find.Goals as goal

pub returns-clause-finds : goal.returns-clause-finds
returns-clause-finds g c =
    let i = c.args.interval.now in
    let after = c.add_numbers.new.found.items in
    reads_judged (λ db rows. ShowsNumbers c.args.table c.args.range i db rows.items) (λ db _. HasNumbers c.args.table c.args.range db after i) (state g.S.Store c.args.tx.now.conn.now) (state g.S.Store c.query_numbers.new.tx.conn.now) c.in_ok-rows.rows c.add_numbers.result
    (λ db h. numbers_told c.args.table c.args.range i db c.in_ok-rows.rows.items c.as_slice.result.now after c.add_numbers.result c.as_slice.ensures.value c.add_numbers.ensures.each h) c.in_ok-rows.ensures.reads
