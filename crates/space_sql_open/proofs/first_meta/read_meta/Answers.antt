use Rattle.sqlite.specs.Held.{state}
use Rattle.space_sql_open.proofs.FirstMetas.{reads_meta}
use Rattle.space_sql_open.proofs.first_meta.read_meta.Goals as goal

pub returns-clause-reads : goal.returns-clause-reads
returns-clause-reads g c = λ format. reads_meta format (state g.S.Store c.args.tx.now.conn.now) (state g.S.Store c.query_all.new.self.conn.now) c.query_all.result c.query_all.ensures.ok c.query_all.ensures.err c.query_all.ensures.survives
