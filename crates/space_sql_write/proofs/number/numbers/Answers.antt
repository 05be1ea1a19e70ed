use Rattle.std.proofs.Common.{to_z-of_z}
use Rattle.sqlite.specs.Held.{state}
use Rattle.sqlite.specs.declared.types.Value.TheVariants.{Int, Text}
use Rattle.std.specs.Prelude.{[], ◌∷◌}
use Rattle.space_sql_write.specs.Statements.{ShowsEntities}
use Rattle.space_sql_write.proofs.Texts.{number_text}
use Rattle.space_sql_write.proofs.Running.{query_runs}
use Rattle.space_sql_write.proofs.Numbers.{shows_numbers}
use Rattle.space_sql_write.proofs.number.numbers.Goals as goal

pub returns-clause-shows : goal.returns-clause-shows
returns-clause-shows g c =
    let old = state g.S.Store c.args.tx.now.conn.now in
    let new = state g.S.Store c.query_all.new.self.conn.now in
    let kind = c.args.kind in
    let id = c.args.id.now in
    let facts = rw (c.params-to_sql.ensures, c.params-to_sql-2.ensures, to_z-of_z c.ranges.kind) at c.query_all.ensures.ok in
    let fails = rw (c.params-to_sql.ensures, c.params-to_sql-2.ensures, to_z-of_z c.ranges.kind) at c.query_all.ensures.err in
    query_runs old new number_text (Int kind ∷ Text id ∷ []) (λ rows. rows.items) (λ rows. ShowsEntities kind id rows.items) c.query_all.result facts fails c.query_all.ensures.survives (λ rows shown. shows_numbers old new kind id rows.items shown)
