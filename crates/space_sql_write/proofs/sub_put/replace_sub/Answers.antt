use Rattle.std.proofs.Common.{to_z, of_z, w64, ◌≡◌, ◌∙◌, rules}
use Rattle.sqlite.specs.Held.{state}
use Rattle.sqlite.specs.Effect.{Database}
use Rattle.space_sql_write.specs.Layout.{Always, HasSub, Relays, with_sub_cells, with_sub_row, without_sub_cells, without_sub_row}
use Rattle.space_sql_write.specs.SubPutting.{ReplacesSub}
use Rattle.space_sql_write.proofs.Running.{runs_then, runs_last}
use Rattle.space_sql_write.proofs.SubStored.{replaces_all}
use Rattle.space_sql_write.proofs.sub_put.replace_sub.Goals as goal

pub returns-clause-replaces : goal.returns-clause-replaces
returns-clause-replaces g c =
    let old = state g.S.Store c.args.tx.now.conn.now in
    let cleared = state g.S.Store c.clear_sub_cells.new.tx.conn.now in
    let updated = state g.S.Store c.update_sub_row.new.tx.conn.now in
    let new = state g.S.Store c.insert_all.new.tx.conn.now in
    let s = c.args.sub.now in
    let num = c.args.num in
    let row = c.in_ok-row.row in
    let cells = c.in_ok-row.cells.items in
    let own : to_z w64 (of_z w64 num) ≡ num = search rules in
    let Both = λ (_ : Unit {0}) (a d : Database). (b : Database) × Relays Always (without_sub_cells num) a b × Relays (HasSub row.num) (λ l. with_sub_row row (without_sub_row row.num l)) b d in
    let first = runs_then (λ _. Relays Always (without_sub_cells num)) (λ _. Relays (HasSub row.num) (λ l. with_sub_row row (without_sub_row row.num l))) Both old cleared updated _ _ tt
    (λ clears updates. (cleared.now, clears, updates)) (rw own at c.in_ok-clear_sub_cells.ensures.clears) c.in_ok-update_sub_row.ensures.updates in
    runs_last Both (λ _. Relays Always (with_sub_cells cells)) (λ _. ReplacesSub s num) old updated new tt c.insert_all.result
    (λ _ both joins. replaces_all s num old.now both.0 updated.now new.now row cells (c.in_ok-row.ensures.num ∙ own) c.in_ok-row.ensures.spells both.1 both.2 joins) first (rw c.deref.ensures.value at c.insert_all.ensures.inserts)
