use Rattle.sqlite.specs.Held.{state}
use Rattle.space_sql_search.specs.declared.cell_table.CellTable.TheVariants.{OfSubscriptions}
use Rattle.space_sql_search.specs.Candidates.{HoldsFound, HoldsSubs}
use Rattle.space_sql_select.proofs.Readings.{reads_alive}
use Rattle.space_sql_search.proofs.subscriptions.read_subs_alive.Goals as goal

pub returns-clause-reads : goal.returns-clause-reads
returns-clause-reads g c =
    reads_alive (HoldsFound OfSubscriptions c.args.searched.now HoldsSubs) (state g.S.Store c.args.conn.now) (state g.S.Store c.read_subs_alone.new.conn) (state g.S.Store c.is_store_alive.new.conn) c.in_ok-found.found
    (c.connection_facts.ensures.settled c.requires) c.in_ok-found.ensures.reads c.in_ok-is_store_alive.ensures.same c.is_store_alive.ensures.survives
