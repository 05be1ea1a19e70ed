use Rattle.std.proofs.Common.{ap, refl}
use Rattle.sqlite.specs.Effect.{IsDatabase}
use Rattle.sqlite.specs.Held.{state}
use Rattle.space_sql_schema.specs.Tables.{unindexed_schema, second_schema, naming, naming_subscription}
use Rattle.space_sql_schema.proofs.Texts.{naming_index_text}
use Rattle.space_sql_schema.specs.Making.{AddsIndex, HasRows}
use Rattle.space_sql_schema.proofs.Steps.{steps_by, of_all}
use Rattle.space_sql_schema.proofs.Means.{naming_index_made, naming_index_is}
use Rattle.space_sql_schema.proofs.Making.{makes_sound_index}
use Rattle.space_sql_schema.proofs.upgrade.make_naming_index.Goals as goal

pub returns-clause-adds : goal.returns-clause-adds
returns-clause-adds g c =
    let old = state g.S.Store c.args.tx.now.conn.now in
    let new = state g.S.Store c.execute.new.self.conn.now in
    steps_by old new naming_index_text _ c.execute.result _ _ AddsIndex c.execute.ensures.ended (λ off. ap (state g.S.Store) (c.execute.ensures.ended off).1) c.execute.ensures.runs c.execute.ensures.survives
    (λ h. of_all c.execute.result (λ trees. HasRows unindexed_schema trees old.now) (λ trees. HasRows second_schema trees new.now × IsDatabase new.now) (λ trees. makes_sound_index unindexed_schema second_schema trees (naming 13) 7 (naming_subscription 0 13) naming_index_text old new c.execute.result naming_index_made.0 naming_index_made.1 naming_index_made.2 refl naming_index_is naming_index_made.3 refl h))
