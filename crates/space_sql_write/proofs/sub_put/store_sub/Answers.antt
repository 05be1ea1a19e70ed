use Rattle.std.proofs.Common.{to_z, of_z, w64, Some, None, ◌≡◌, ap, subst, pos, rules}
use Rattle.sqlite.specs.Held.{state}
use Rattle.space_sql_write.specs.Statements.{FindsSubNumber, Runs}
use Rattle.space_sql_write.specs.SubPutting.{InsertsSub, ReplacesSub, StoresSub}
use Rattle.space_sql_write.proofs.Running.{runs_last}
use Rattle.space_sql_write.proofs.SubStored.{finds_inserted, finds_stored}
use Rattle.space_sql_write.proofs.sub_put.store_sub.Goals as goal

pub returns-else-num-serial-clause-stores : goal.returns-else-num-serial-clause-stores
returns-else-num-serial-clause-stores g c =
    let old = state g.S.Store c.args.tx.now.conn.now in
    let found = state g.S.Store c.sub_number_of.new.tx.conn.now in
    let new = state g.S.Store c.replace_sub.new.tx.conn.now in
    let s = c.args.sub.now in
    let num = c.in-Some.num in
    let own : to_z w64 (of_z w64 num) ≡ num = search rules in
    let finds = rw c.in-Some.is at c.in_ok-num.ensures.finds in
    runs_last (FindsSubNumber s.id) (λ _. ReplacesSub s num) (λ _. StoresSub s) old found new (Some num) c.replace_sub.result
    (λ _ finds replaces. finds_stored s num old.now found.now new.now finds replaces) finds (rw own at c.replace_sub.ensures.replaces)

pub returns-in-None-clause-stores : goal.returns-in-None-clause-stores
returns-in-None-clause-stores g c =
    let old = state g.S.Store c.args.tx.now.conn.now in
    let found = state g.S.Store c.sub_number_of.new.tx.conn.now in
    let new = state g.S.Store c.insert_sub.new.tx.conn.now in
    let s = c.args.sub.now in
    let serial = c.number-serial.result in
    let own : to_z w64 serial ≡ pos serial = search rules in
    let finds = rw c.in-None.is at c.in_ok-num.ensures.finds in
    let inserts = subst (λ n. Runs (λ _. InsertsSub s n) found new c.insert_sub.result) (ap pos c.number-serial.ensures.number) (rw own at c.insert_sub.ensures.inserts) in
    runs_last (FindsSubNumber s.id) (λ _. InsertsSub s (pos s.serial)) (λ _. StoresSub s) old found new None c.insert_sub.result
    (λ _ finds inserts. finds_inserted s old.now found.now new.now finds inserts) finds inserts
