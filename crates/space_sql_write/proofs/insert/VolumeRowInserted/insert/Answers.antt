use Rattle.std.proofs.Common.{◌≡◌, [], ◌∷◌, rules, w64, to_z, of_z}
use Rattle.sqlite.specs.Held.{state}
use Rattle.space_sql_write.specs.Layout.{Always, Relays, with_volumes}
use Rattle.space_sql_write.proofs.Texts.{insert_volume_text}
use Rattle.space_sql_write.proofs.Running.{runs_on}
use Rattle.space_sql_write.proofs.Inserting.{inserts_volume}
use Rattle.space_sql_write.proofs.insert.VolumeRowInserted.insert.Goals as goal

pub returns-clause-inserts : goal.returns-clause-inserts
returns-clause-inserts g c =
    let old = state g.S.Store c.args.tx.now.conn.now in
    let new = state g.S.Store c.execute.new.self.conn.now in
    let entity : to_z w64 (of_z w64 c.args.self.now.entity) ≡ c.args.self.now.entity = search rules in
    let place : to_z w64 (of_z w64 c.args.self.now.place) ≡ c.args.self.now.place = search rules in
    let alt_lower : to_z w64 (of_z w64 c.args.self.now.alt_lower) ≡ c.args.self.now.alt_lower = search rules in
    let alt_upper : to_z w64 (of_z w64 c.args.self.now.alt_upper) ≡ c.args.self.now.alt_upper = search rules in
    let time_start : to_z w64 (of_z w64 c.args.self.now.time_start) ≡ c.args.self.now.time_start = search rules in
    let time_end : to_z w64 (of_z w64 c.args.self.now.time_end) ≡ c.args.self.now.time_end = search rules in
    let ran = rw (c.params-to_sql.ensures, c.params-to_sql-2.ensures, c.params-to_sql-3.ensures, c.params-to_sql-4.ensures, c.params-to_sql-5.ensures, c.params-to_sql-6.ensures, entity, place, alt_lower, alt_upper, time_start, time_end) at c.execute.ensures.runs in
    runs_on old new insert_volume_text _ c.execute.result (Relays Always (with_volumes (c.args.self.now ∷ []))) ran c.execute.ensures.survives
    (λ h. inserts_volume old new c.args.self.now c.execute.result h)
