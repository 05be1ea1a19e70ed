use Rattle.std.proofs.Common.{◌≡◌, [], ◌∷◌, ap, rules, w64, to_z, of_z}
use Rattle.sqlite.specs.Held.{state}
use Rattle.space_sql_schema.proofs.Steps.{steps_by}
use Rattle.space_sql_write.proofs.Texts.{insert_sub_row_text}
use Rattle.space_sql_open.specs.Relaying.{Puts, with_subs}
use Rattle.space_sql_open.proofs.Reinserts.{puts_sub}
use Rattle.space_sql_open.proofs.Relays.{carried}
use Rattle.space_sql_open.proofs.reinserting.SubRowReinserted.reinsert.Goals as goal

pub returns-clause-puts : goal.returns-clause-puts
returns-clause-puts g c =
    let old = state g.S.Store c.args.tx.now.conn.now in
    let new = state g.S.Store c.execute.new.self.conn.now in
    let num : to_z w64 (of_z w64 c.args.self.now.num) ≡ c.args.self.now.num = search rules in
    let serial : to_z w64 (of_z w64 c.args.self.now.serial) ≡ c.args.self.now.serial = search rules in
    let notes : to_z w64 (of_z w64 c.args.self.now.notes) ≡ c.args.self.now.notes = search rules in
    let for_intents : to_z w64 (of_z w64 c.args.self.now.for_intents) ≡ c.args.self.now.for_intents = search rules in
    let for_constraints : to_z w64 (of_z w64 c.args.self.now.for_constraints) ≡ c.args.self.now.for_constraints = search rules in
    let alt_lower : to_z w64 (of_z w64 c.args.self.now.alt_lower) ≡ c.args.self.now.alt_lower = search rules in
    let alt_upper : to_z w64 (of_z w64 c.args.self.now.alt_upper) ≡ c.args.self.now.alt_upper = search rules in
    let time_start : to_z w64 (of_z w64 c.args.self.now.time_start) ≡ c.args.self.now.time_start = search rules in
    let time_end : to_z w64 (of_z w64 c.args.self.now.time_end) ≡ c.args.self.now.time_end = search rules in
    let ran = rw (c.params-to_sql.ensures, c.params-to_sql-2.ensures, c.params-to_sql-3.ensures, c.params-to_sql-4.ensures, c.params-to_sql-5.ensures, c.params-to_sql-6.ensures, c.params-to_sql-7.ensures, c.params-to_sql-8.ensures, c.params-to_sql-9.ensures, c.params-to_sql-10.ensures, c.params-to_sql-11.ensures, c.params-to_sql-12.ensures, c.params-to_sql-13.ensures, c.text.ensures, c.text-2.ensures, c.text-3.ensures, c.text-4.ensures, num, serial, notes, for_intents, for_constraints, alt_lower, alt_upper, time_start, time_end) at c.execute.ensures.runs in
    carried (Puts (with_subs (c.args.self.now ∷ []))) old new c.execute.result
    (steps_by old new insert_sub_row_text _ c.execute.result _ _ (Puts (with_subs (c.args.self.now ∷ []))) c.execute.ensures.ended (λ off. ap (state g.S.Store) (c.execute.ensures.ended off).1) ran c.execute.ensures.survives
    (λ h. puts_sub old new c.args.self.now c.execute.result h))
