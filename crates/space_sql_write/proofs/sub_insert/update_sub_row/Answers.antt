use Rattle.std.proofs.Common.{◌≡◌, rules, w64, to_z, of_z}
use Rattle.sqlite.specs.Held.{state}
use Rattle.space_sql_write.specs.Layout.{HasSub, Relays, with_sub_row, without_sub_row}
use Rattle.space_sql_write.proofs.Texts.{update_sub_row_text}
use Rattle.space_sql_write.proofs.Running.{runs_on}
use Rattle.space_sql_write.proofs.Updating.{updates_sub_row}
use Rattle.space_sql_write.proofs.sub_insert.update_sub_row.Goals as goal

pub returns-clause-updates : goal.returns-clause-updates
returns-clause-updates g c =
    let old = state g.S.Store c.args.tx.now.conn.now in
    let new = state g.S.Store c.execute.new.self.conn.now in
    let num : to_z w64 (of_z w64 c.args.row.now.num) ≡ c.args.row.now.num = search rules in
    let serial : to_z w64 (of_z w64 c.args.row.now.serial) ≡ c.args.row.now.serial = search rules in
    let notes : to_z w64 (of_z w64 c.args.row.now.notes) ≡ c.args.row.now.notes = search rules in
    let for_intents : to_z w64 (of_z w64 c.args.row.now.for_intents) ≡ c.args.row.now.for_intents = search rules in
    let for_constraints : to_z w64 (of_z w64 c.args.row.now.for_constraints) ≡ c.args.row.now.for_constraints = search rules in
    let alt_lower : to_z w64 (of_z w64 c.args.row.now.alt_lower) ≡ c.args.row.now.alt_lower = search rules in
    let alt_upper : to_z w64 (of_z w64 c.args.row.now.alt_upper) ≡ c.args.row.now.alt_upper = search rules in
    let time_start : to_z w64 (of_z w64 c.args.row.now.time_start) ≡ c.args.row.now.time_start = search rules in
    let time_end : to_z w64 (of_z w64 c.args.row.now.time_end) ≡ c.args.row.now.time_end = search rules in
    let ran = rw (c.params-to_sql.ensures, c.params-to_sql-2.ensures, c.params-to_sql-3.ensures, c.params-to_sql-4.ensures, c.params-to_sql-5.ensures, c.params-to_sql-6.ensures, c.params-to_sql-7.ensures, c.params-to_sql-8.ensures, c.params-to_sql-9.ensures, c.params-to_sql-10.ensures, c.params-to_sql-11.ensures, c.params-to_sql-12.ensures, c.params-to_sql-13.ensures, c.text.ensures, c.text-2.ensures, c.text-3.ensures, c.text-4.ensures, num, serial, notes, for_intents, for_constraints, alt_lower, alt_upper, time_start, time_end) at c.execute.ensures.runs in
    runs_on old new update_sub_row_text _ c.execute.result (Relays (HasSub c.args.row.now.num) (λ l. with_sub_row c.args.row.now (without_sub_row c.args.row.now.num l))) ran c.execute.ensures.survives
    (λ h. updates_sub_row old new c.args.row.now c.execute.result h)
