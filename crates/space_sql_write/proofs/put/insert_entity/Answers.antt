use Rattle.std.proofs.Common.{to_z, of_z, w64, ◌≡◌, ◌∙◌, rules}
use Rattle.sqlite.specs.Held.{state}
use Rattle.space_sql_write.specs.Layout.{Always, Relays, with_rows}
use Rattle.space_sql_write.specs.Putting.{InsertsEntity}
use Rattle.space_sql_write.proofs.Running.{runs_weaker}
use Rattle.space_sql_write.proofs.put.insert_entity.Goals as goal

pub returns-clause-inserts : goal.returns-clause-inserts
returns-clause-inserts g c =
    let old = state g.S.Store c.args.tx.now.conn.now in
    let new = state g.S.Store c.insert_rows.new.tx.conn.now in
    let row = c.in_ok-row.row in
    let volumes = c.in_ok-row.volumes.items in
    let cells = c.in_ok-row.cells.items in
    let own : to_z w64 (of_z w64 c.args.num) ≡ c.args.num = search rules in
    runs_weaker (λ _. Relays Always (with_rows row volumes cells c.args.named)) (λ _. InsertsEntity c.args.entity.now c.args.num c.args.named) old new c.insert_rows.result
    (λ _ joins. record { row = row; volumes = volumes; cells = cells; number = c.in_ok-row.ensures.num ∙ own; spelt = c.in_ok-row.ensures.spells; relays = joins })
    (rw (c.deref.ensures.value, c.deref-2.ensures.value) at c.insert_rows.ensures.inserts)
