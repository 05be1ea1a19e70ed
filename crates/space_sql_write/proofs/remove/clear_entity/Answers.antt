use Rattle.std.proofs.Common.{to_z-of_z}
use Rattle.sqlite.specs.Held.{state}
use Rattle.space_rows.specs.declared.rows.VolumeRow.{VolumeRow}
use Rattle.space_sql_write.specs.Layout.{Always, Layout, Naming, Relays, LacksParts, without_parts, without_entity_row, without_rows}
use Rattle.space_sql_write.specs.Statements.{RelaysSound}
use Rattle.space_sql_write.proofs.Rows.{none_left_of}
use Rattle.space_sql_write.proofs.Running.{runs_then}
use Rattle.space_sql_write.proofs.remove.clear_entity.Goals as goal

pub returns-clause-clears : goal.returns-clause-clears
returns-clause-clears g c =
    let num = c.args.num in
    runs_then (λ _. Relays Always (without_parts num)) (λ _. RelaysSound (LacksParts num) (without_entity_row num)) (λ _. RelaysSound Always (without_rows num))
    (state g.S.Store c.args.tx.now.conn.now) (state g.S.Store c.clear_parts.new.tx.conn.now) (state g.S.Store c.clear_row.new.tx.conn.now) _ _ _
    (λ first second.
    let gone : (l : Layout) → LacksParts num (without_parts num l) = λ l. (none_left_of (λ (r : VolumeRow). r.entity) num l.volumes, none_left_of (λ (n : Naming). n.0) num l.namings) in
    ((λ l p has. second.0 (without_parts num l) (gone l) (first l p has)), (λ l p has. second.1 (without_parts num l) (gone l) (first l p has))))
    (rw (to_z-of_z c.ranges.num) at c.in_ok-clear_parts.ensures.clears) (rw (to_z-of_z c.ranges.num) at c.in_ok-clear_row.ensures.clears)
