use Rattle.std.proofs.Common.{refl, to_z-of_z}
use Rattle.std.specs.Prelude.{[], ◌∷◌}
use Rattle.sqlite.specs.Held.{state}
use Rattle.sqlite.specs.declared.types.Value.TheVariants.{Int}
use Rattle.space_sql_lookup.specs.Texts.{own_volumes_read}
use Rattle.space_sql_lookup.proofs.OwnRows.{own_volumes_select}
use Rattle.space_sql_select.proofs.Readings.{reads_asked}
use Rattle.space_sql_lookup.proofs.entity_rows.query_volumes.Goals as goal

pub query-requires : goal.query-requires
query-requires g c = own_volumes_select

pub returns-clause-reads : goal.returns-clause-reads
returns-clause-reads g c =
    let old = state g.S.Store c.args.tx.now.conn.now in
    let new = state g.S.Store c.query.new.tx.conn.now in
    reads_asked old new c.query.result _ own_volumes_read _ (Int c.args.num ∷ []) refl (rw (c.params-to_sql.ensures, to_z-of_z c.ranges.num) refl) c.query.ensures.reads
