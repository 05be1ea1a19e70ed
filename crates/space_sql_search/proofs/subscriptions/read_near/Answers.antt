use Rattle.sqlite.specs.Held.{state}
use Rattle.entity_maps.specs.Subscriptions.{subscription_map}
use Rattle.space_sql_search.specs.declared.cell_table.CellTable.TheVariants.{OfSubscriptions}
use Rattle.space_sql_search.specs.Candidates.{HoldsFound, HoldsNearSubs, HoldsSubs}
use Rattle.space_sql_select.proofs.Readings.{reads_spelt}
use Rattle.space_sql_search.proofs.Exact.{near_subs}
use Rattle.space_sql_search.proofs.subscriptions.read_near.Goals as goal

pub returns-clause-reads : goal.returns-clause-reads
returns-clause-reads g c =
    let areas = c.args.areas.now in
    let searched = c.in_ok-searched.searched in
    reads_spelt (HoldsFound OfSubscriptions searched HoldsSubs) (λ a found. HoldsNearSubs areas a.subscriptions found) (state g.S.Store c.args.conn.now) (state g.S.Store c.read_subs_alive.new.conn) c.read_subs_alive.result
    (λ db found held a s. near_subs db a s areas searched c.in_ok-searched.ensures.each held.numbers held.finds (subscription_map found) (held.holds a s)) c.read_subs_alive.ensures.reads
