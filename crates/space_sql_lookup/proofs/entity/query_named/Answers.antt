use Rattle.std.proofs.Common.{◌≡◌, ◌∙◌, ap, refl, ℤ, to_z, of_z, w64, rules}
use Rattle.std.specs.Prelude.{[], ◌∷◌}
use Rattle.sqlite.specs.Held.{state}
use Rattle.sqlite.specs.declared.types.Value.TheVariants.{Int, Text}
use Rattle.entity_core.specs.EntityId.{printed}
use Rattle.space_rows.specs.Rows.{kind_number}
use Rattle.space_sql_lookup.specs.Texts.{head_read}
use Rattle.space_sql_lookup.proofs.Heads.{head_select}
use Rattle.space_sql_select.proofs.Readings.{reads_asked}
use Rattle.space_sql_lookup.proofs.entity.query_named.Goals as goal

pub query-requires : goal.query-requires
query-requires g c = head_select

pub returns-clause-reads : goal.returns-clause-reads
returns-clause-reads g c =
    let n : to_z w64 (of_z w64 c.kind_number.result) ≡ c.kind_number.result = search rules in
    let old = state g.S.Store c.args.tx.now.conn.now in
    let new = state g.S.Store c.query.new.tx.conn.now in
    reads_asked old new c.query.result _ head_read _ (Int (kind_number c.args.kind) ∷ Text (printed c.args.id) ∷ []) refl (rw (c.params-to_sql.ensures, c.params-to_sql-2.ensures, c.as_str.ensures.value, c.in_ok-text.ensures.text) (ap (λ (m : ℤ). Int m ∷ Text (printed c.args.id) ∷ []) (n ∙ c.kind_number.ensures))) c.query.ensures.reads
