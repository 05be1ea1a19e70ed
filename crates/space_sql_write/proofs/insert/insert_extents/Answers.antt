use Rattle.sqlite.specs.Held.{state}
use Rattle.space_sql_write.specs.Layout.{Always, Layout, Relays, with_cells, with_entity_row, with_extents, with_volumes}
use Rattle.space_sql_write.proofs.Running.{runs_then, runs_last}
use Rattle.space_sql_write.proofs.insert.insert_extents.Goals as goal

pub returns-clause-inserts : goal.returns-clause-inserts
returns-clause-inserts g c =
    let row = c.args.row.now in
    let vs = c.args.volumes.now in
    let cs = c.args.cells.now in
    let a = state g.S.Store c.args.tx.now.conn.now in
    let b = state g.S.Store c.insert_row.new.tx.conn.now in
    let d = state g.S.Store c.insert_all.new.tx.conn.now in
    let new = state g.S.Store c.insert_all-2.new.tx.conn.now in
    let volumes = λ (l : Layout). with_volumes vs (with_entity_row row l) in
    let first = runs_then (λ _. Relays Always (with_entity_row row)) (λ (_ : Unit {0}). Relays Always (with_volumes vs)) (λ (_ : Unit {0}). Relays Always volumes) a b d _ tt tt (λ h more l any has. more (with_entity_row row l) tt (h l tt has)) c.in_ok-insert_row.ensures.inserts c.in_ok-insert_all.ensures.inserts in
    runs_last (λ (_ : Unit {0}). Relays Always volumes) (λ _. Relays Always (with_cells cs)) (λ _. Relays Always (with_extents row vs cs)) a d new tt c.insert_all-2.result (λ _ h more l any has. more (volumes l) tt (h l tt has)) first c.insert_all-2.ensures.inserts
