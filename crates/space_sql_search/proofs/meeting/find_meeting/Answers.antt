use Rattle.std.proofs.Common.{List, map, ap, ◌∙◌}
use Rattle.sqlite.specs.Held.{state}
use Rattle.entity_core.specs.declared.entity.Entity.{Entity}
use Rattle.entity_maps.specs.Entities.{entity_map}
use Rattle.space_core.specs.Met.{met_of}
use Rattle.space_sql_select.proofs.Readings.{reads_then}
use Rattle.space_sql_search.specs.declared.cell_table.CellTable.TheVariants.{OfEntities}
use Rattle.space_sql_search.specs.Candidates.{HoldsEntities, HoldsFound}
use Rattle.space_sql_search.specs.Met.{AreWithAvailabilities, FindsMet}
use Rattle.space_sql_lookup.proofs.Still.{reads_weaker}
use Rattle.space_sql_search.proofs.Exact.{near_entities, one_meeting}
use Rattle.space_sql_search.proofs.meeting.find_meeting.Goals as goal

pub returns-clause-reads : goal.returns-clause-reads
returns-clause-reads g c =
    let searched = c.args.searched.now in
    let areas = c.args.areas.now in
    let a = state g.S.Store c.args.tx.now.conn.now in
    let b = state g.S.Store c.read_candidates.new.tx.conn.now in
    let d = state g.S.Store c.with_availabilities.new.tx.conn.now in
    let found = c.in_ok-found.found in
    let range = c.in_ok-range.range.items in
    reads_weaker (λ db met. HoldsFound OfEntities searched HoldsEntities db found × AreWithAvailabilities range db met.items) (λ db met. FindsMet c.args.kind areas c.args.except db met.items) a d c.with_availabilities.result
    (λ db met h x s.
    let near = near_entities db x s areas searched c.requires h.0.numbers h.0.finds (entity_map found) (h.0.holds x s) in
    h.1 x s ∙ ap (λ (es : List Entity). map (met_of x) es) (c.in_ok-range.ensures ∙ one_meeting c.args.kind areas c.args.except (entity_map found) x.entities near))
    (reads_then (HoldsFound OfEntities searched HoldsEntities) (λ db met. AreWithAvailabilities range db met.items) a b d found c.with_availabilities.result c.in_ok-found.ensures.reads c.with_availabilities.ensures.reads)
