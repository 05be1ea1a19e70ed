use Rattle.std.proofs.Common.{refl}
use Rattle.std.specs.Prelude.{[], ◌∷◌}
use Rattle.sqlite.specs.Held.{state}
use Rattle.sqlite.specs.declared.types.Value.TheVariants.{Text}
use Rattle.entity_core.specs.EntityId.{printed}
use Rattle.space_sql_select.proofs.Readings.{reads_asked}
use Rattle.space_sql_lookup.specs.Texts.{sub_read}
use Rattle.space_sql_lookup.proofs.Commands.{sub_select}
use Rattle.space_sql_lookup.proofs.subscription.query_sub.Goals as goal

pub query-requires : goal.query-requires
query-requires g c = sub_select

pub returns-clause-reads : goal.returns-clause-reads
returns-clause-reads g c =
    let old = state g.S.Store c.args.tx.now.conn.now in
    let new = state g.S.Store c.query.new.tx.conn.now in
    reads_asked old new c.query.result _ sub_read _ (Text (printed c.args.id) ∷ []) refl (rw (c.params-to_sql.ensures, c.as_str.ensures.value, c.in_ok-text.ensures.text) refl) c.query.ensures.reads
