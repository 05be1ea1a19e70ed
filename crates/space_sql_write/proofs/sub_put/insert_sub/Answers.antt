use Rattle.std.proofs.Common.{to_z, of_z, w64, ◌≡◌, ◌∙◌, rules}
use Rattle.sqlite.specs.Held.{state}
use Rattle.space_sql_write.specs.Layout.{Always, Relays, with_sub_cells, with_sub_row}
use Rattle.space_sql_write.specs.SubPutting.{InsertsSub}
use Rattle.space_sql_write.proofs.Running.{runs_last}
use Rattle.space_sql_write.proofs.SubStored.{inserts_all}
use Rattle.space_sql_write.proofs.sub_put.insert_sub.Goals as goal

pub returns-clause-inserts : goal.returns-clause-inserts
returns-clause-inserts g c =
    let old = state g.S.Store c.args.tx.now.conn.now in
    let inserted = state g.S.Store c.insert_sub_row.new.tx.conn.now in
    let new = state g.S.Store c.insert_all.new.tx.conn.now in
    let s = c.args.sub.now in
    let num = c.args.num in
    let row = c.in_ok-row.row in
    let cells = c.in_ok-row.cells.items in
    let own : to_z w64 (of_z w64 num) ≡ num = search rules in
    runs_last (λ _. Relays Always (with_sub_row row)) (λ _. Relays Always (with_sub_cells cells)) (λ _. InsertsSub s num) old inserted new _ c.insert_all.result
    (λ _ inserts joins. inserts_all s num old.now inserted.now new.now row cells (c.in_ok-row.ensures.num ∙ own) c.in_ok-row.ensures.spells inserts joins) c.in_ok-insert_sub_row.ensures.inserts (rw c.deref.ensures.value at c.insert_all.ensures.inserts)
