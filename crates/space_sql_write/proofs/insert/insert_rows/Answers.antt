use Rattle.std.proofs.Common.{to_z, of_z, w64, ◌≡◌, Some, None, append-nil, rules, sym, subst}
use Rattle.sqlite.specs.Held.{state}
use Rattle.space_sql_write.specs.Layout.{Always, LaysOut, Relays, with_extents, with_naming, with_rows}
use Rattle.space_sql_write.proofs.Running.{runs_then, runs_as_well}
use Rattle.space_sql_write.proofs.insert.insert_rows.Goals as goal

pub returns-in_ok-insert_naming-in-Some-clause-inserts : goal.returns-in_ok-insert_naming-in-Some-clause-inserts
returns-in_ok-insert_naming-in-Some-clause-inserts g c =
    let row = c.args.row.now in
    let volumes = c.args.volumes.now in
    let cells = c.args.cells.now in
    let subscription = c.in-Some.subscription in
    let num : to_z w64 (of_z w64 row.num) ≡ row.num = search rules in
    let own : to_z w64 (of_z w64 subscription) ≡ subscription = search rules in
    rw c.in-Some.is (runs_then (λ _. Relays Always (with_extents row volumes cells)) (λ _. Relays Always (with_naming row.num (Some subscription))) (λ _. Relays Always (with_rows row volumes cells (Some subscription)))
    (state g.S.Store c.args.tx.now.conn.now) (state g.S.Store c.insert_extents.new.tx.conn.now) (state g.S.Store c.insert_naming.new.tx.conn.now) tt _ tt
    (λ extents names l any has. names (with_extents row volumes cells l) tt (extents l tt has))
    c.in_ok-insert_extents.ensures.inserts (rw (num, own) at c.in_ok-insert_naming-in-Some.ensures.inserts))

pub returns-in-None-clause-inserts : goal.returns-in-None-clause-inserts
returns-in-None-clause-inserts g c =
    let row = c.args.row.now in
    let volumes = c.args.volumes.now in
    let cells = c.args.cells.now in
    let new = state g.S.Store c.insert_extents.new.tx.conn.now in
    rw c.in-None.is (runs_as_well (λ _. Relays Always (with_extents row volumes cells)) (λ _. Relays Always (with_rows row volumes cells None))
    (state g.S.Store c.args.tx.now.conn.now) (state g.S.Store c.insert_extents.new.tx.conn.now) tt tt
    (λ extents l any has. subst (λ ns. LaysOut new.now (record (with_extents row volumes cells l) { namings = ns })) (sym (append-nil l.namings)) (extents l tt has))
    c.in_ok-insert_extents.ensures.inserts)
