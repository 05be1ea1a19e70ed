use Rattle.std.proofs.Common.{◌≡◌, [], ◌∷◌, ap, rules, w64, to_z, of_z}
use Rattle.sqlite.specs.Held.{state}
use Rattle.space_sql_schema.proofs.Steps.{steps_by}
use Rattle.space_sql_write.proofs.Texts.{insert_naming_text}
use Rattle.space_sql_open.specs.Relaying.{Puts, with_namings}
use Rattle.space_sql_open.proofs.Reinserts.{puts_naming}
use Rattle.space_sql_open.proofs.Relays.{carried}
use Rattle.space_sql_open.proofs.reinserting.NamingRowReinserted.reinsert.Goals as goal

pub returns-clause-puts : goal.returns-clause-puts
returns-clause-puts g c =
    let old = state g.S.Store c.args.tx.now.conn.now in
    let new = state g.S.Store c.execute.new.self.conn.now in
    let entity : to_z w64 (of_z w64 c.args.self.now.entity) ≡ c.args.self.now.entity = search rules in
    let subscription : to_z w64 (of_z w64 c.args.self.now.subscription) ≡ c.args.self.now.subscription = search rules in
    let ran = rw (c.params-to_sql.ensures, c.params-to_sql-2.ensures, entity, subscription) at c.execute.ensures.runs in
    carried (Puts (with_namings (c.args.self.now ∷ []))) old new c.execute.result
    (steps_by old new insert_naming_text _ c.execute.result _ _ (Puts (with_namings (c.args.self.now ∷ []))) c.execute.ensures.ended (λ off. ap (state g.S.Store) (c.execute.ensures.ended off).1) ran c.execute.ensures.survives
    (λ h. puts_naming old new c.args.self.now c.execute.result h))
