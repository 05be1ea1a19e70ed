use Rattle.sqlite.specs.Held.{state}
use Rattle.sqlite.specs.declared.types.Value.TheVariants.{Text}
use Rattle.std.specs.Prelude.{[], ◌∷◌}
use Rattle.space_sql_write.specs.Statements.{ShowsSubs}
use Rattle.space_sql_write.proofs.Texts.{sub_number_text}
use Rattle.space_sql_write.proofs.Running.{query_runs}
use Rattle.space_sql_write.proofs.Numbers.{shows_sub_numbers}
use Rattle.space_sql_write.proofs.number.sub_numbers.Goals as goal

pub returns-clause-shows : goal.returns-clause-shows
returns-clause-shows g c =
    let old = state g.S.Store c.args.tx.now.conn.now in
    let new = state g.S.Store c.query_all.new.self.conn.now in
    let id = c.args.id.now in
    let facts = rw c.params-to_sql.ensures at c.query_all.ensures.ok in
    let fails = rw c.params-to_sql.ensures at c.query_all.ensures.err in
    query_runs old new sub_number_text (Text id ∷ []) (λ rows. rows.items) (λ rows. ShowsSubs id rows.items) c.query_all.result facts fails c.query_all.ensures.survives (λ rows shown. shows_sub_numbers old new id rows.items shown)
