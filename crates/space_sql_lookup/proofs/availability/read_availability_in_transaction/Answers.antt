use Rattle.std.proofs.Common.{refl}
use Rattle.sqlite.specs.Held.{state}
use Rattle.space_sql_lookup.specs.Availability.{AnswersStated, FindsStated}
use Rattle.space_sql_lookup.proofs.Found.{availability_told}
use Rattle.space_sql_select.proofs.Readings.{reads_judged}
use Rattle.space_sql_lookup.proofs.availability.read_availability_in_transaction.Goals as goal

pub returns-clause-reads : goal.returns-clause-reads
returns-clause-reads g c =
    let uss = c.args.uss.now in
    reads_judged (λ db rows. AnswersStated uss db rows.items) (FindsStated uss) (state g.S.Store c.args.tx.now.conn.now) (state g.S.Store c.query_stated.new.tx.conn.now) c.in_ok-rows.rows c.availability_of.result
    (λ db h. availability_told db uss uss _ c.availability_of.result c.in_ok-rows.rows.items c.as_slice.result.now refl refl c.as_slice.ensures.value c.availability_of.ensures (λ is. h)) c.in_ok-rows.ensures.reads
