use Rattle.std.proofs.Common.{◌≡◌, rules, w64, to_z, of_z}
use Rattle.sqlite.specs.Held.{state}
use Rattle.space_sql_write.specs.Layout.{Always, Relays, with_entity_row}
use Rattle.space_sql_write.proofs.Texts.{insert_row_text}
use Rattle.space_sql_write.proofs.Running.{runs_on}
use Rattle.space_sql_write.proofs.Inserting.{inserts_row}
use Rattle.space_sql_write.proofs.insert.insert_row.Goals as goal

pub returns-clause-inserts : goal.returns-clause-inserts
returns-clause-inserts g c =
    let old = state g.S.Store c.args.tx.now.conn.now in
    let new = state g.S.Store c.execute.new.self.conn.now in
    let num : to_z w64 (of_z w64 c.args.row.now.num) ≡ c.args.row.now.num = search rules in
    let kind : to_z w64 (of_z w64 c.args.row.now.kind) ≡ c.args.row.now.kind = search rules in
    let state : to_z w64 (of_z w64 c.args.row.now.state) ≡ c.args.row.now.state = search rules in
    let version : to_z w64 (of_z w64 c.args.row.now.version) ≡ c.args.row.now.version = search rules in
    let serial : to_z w64 (of_z w64 c.args.row.now.serial) ≡ c.args.row.now.serial = search rules in
    let ran = rw (c.params-to_sql.ensures, c.params-to_sql-2.ensures, c.params-to_sql-3.ensures, c.params-to_sql-4.ensures, c.params-to_sql-5.ensures, c.params-to_sql-6.ensures, c.params-to_sql-7.ensures, c.params-to_sql-8.ensures, c.params-to_sql-9.ensures, c.text.ensures, c.text-2.ensures, c.text-3.ensures, c.text-4.ensures, num, kind, state, version, serial) at c.execute.ensures.runs in
    runs_on old new insert_row_text _ c.execute.result (Relays Always (with_entity_row c.args.row.now)) ran c.execute.ensures.survives
    (λ h. inserts_row old new c.args.row.now c.execute.result h)
