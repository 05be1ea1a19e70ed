use Rattle.std.proofs.Common.{◌≡◌, [], ◌∷◌, ap, rules, w64, to_z, of_z}
use Rattle.sqlite.specs.Held.{state}
use Rattle.space_sql_schema.proofs.Steps.{steps_by}
use Rattle.space_sql_write.proofs.Texts.{insert_availability_text}
use Rattle.space_sql_open.specs.Relaying.{Puts, with_settings}
use Rattle.space_sql_open.proofs.Reinserts.{puts_setting}
use Rattle.space_sql_open.proofs.Relays.{carried}
use Rattle.space_sql_schema.specs.Spelling.{availability_number}
use Rattle.space_sql_open.proofs.reinserting.AvailabilityRecordReinserted.reinsert.Goals as goal

pub returns-clause-puts : goal.returns-clause-puts
returns-clause-puts g c =
    let old = state g.S.Store c.args.tx.now.conn.now in
    let new = state g.S.Store c.execute.new.self.conn.now in
    let number : to_z w64 (of_z w64 c.availability_number.result) ≡ availability_number c.args.self.now.availability = search rules in
    let ran = rw (c.params-to_sql.ensures, c.params-to_sql-2.ensures, c.params-to_sql-3.ensures, c.text.ensures.same, c.text-2.ensures.same, number) at c.execute.ensures.runs in
    carried (Puts (with_settings (c.args.self.now ∷ []))) old new c.execute.result
    (steps_by old new insert_availability_text _ c.execute.result _ _ (Puts (with_settings (c.args.self.now ∷ []))) c.execute.ensures.ended (λ off. ap (state g.S.Store) (c.execute.ensures.ended off).1) ran c.execute.ensures.survives
    (λ h. puts_setting old new c.args.self.now c.execute.result h))
