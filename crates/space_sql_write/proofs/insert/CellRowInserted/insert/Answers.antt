use Rattle.std.proofs.Common.{◌≡◌, [], ◌∷◌, rules, w64, to_z, of_z}
use Rattle.sqlite.specs.Held.{state}
use Rattle.space_sql_write.specs.Layout.{Always, Relays, with_cells}
use Rattle.space_sql_write.proofs.Texts.{insert_cell_text}
use Rattle.space_sql_write.proofs.Running.{runs_on}
use Rattle.space_sql_write.proofs.Inserting.{inserts_cell}
use Rattle.space_sql_write.proofs.insert.CellRowInserted.insert.Goals as goal

pub returns-clause-inserts : goal.returns-clause-inserts
returns-clause-inserts g c =
    let old = state g.S.Store c.args.tx.now.conn.now in
    let new = state g.S.Store c.execute.new.self.conn.now in
    let entity : to_z w64 (of_z w64 c.args.self.now.entity) ≡ c.args.self.now.entity = search rules in
    let volume : to_z w64 (of_z w64 c.args.self.now.volume) ≡ c.args.self.now.volume = search rules in
    let place : to_z w64 (of_z w64 c.args.self.now.place) ≡ c.args.self.now.place = search rules in
    let lo : to_z w64 (of_z w64 c.args.self.now.lo) ≡ c.args.self.now.lo = search rules in
    let hi : to_z w64 (of_z w64 c.args.self.now.hi) ≡ c.args.self.now.hi = search rules in
    let ran = rw (c.params-to_sql.ensures, c.params-to_sql-2.ensures, c.params-to_sql-3.ensures, c.params-to_sql-4.ensures, c.params-to_sql-5.ensures, c.params-to_sql-6.ensures, c.text.ensures, entity, volume, place, lo, hi) at c.execute.ensures.runs in
    runs_on old new insert_cell_text _ c.execute.result (Relays Always (with_cells (c.args.self.now ∷ []))) ran c.execute.ensures.survives
    (λ h. inserts_cell old new c.args.self.now c.execute.result h)
