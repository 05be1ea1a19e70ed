use Rattle.std.proofs.Common.{to_z, of_z, w64, Some, ◌≡◌, rules}
use Rattle.sqlite.specs.Held.{state}
use Rattle.entity_purge.specs.declared.purge_item.PurgeItem.TheVariants.{Subscription}
use Rattle.space_sql_write.specs.Layout.{IsUnnamed, without_sub_rows}
use Rattle.space_sql_write.specs.Statements.{FindsSubNumber, RelaysSound, MakesLess}
use Rattle.space_sql_write.proofs.Running.{runs_last}
use Rattle.space_sql_write.proofs.SubRemoved.{lets_sub_go}
use Rattle.space_sql_write.proofs.purge.purge_sub.Goals as goal

pub returns-clause-goes : goal.returns-clause-goes
returns-clause-goes g c =
    let a = state g.S.Store c.args.tx.now.conn.now in
    let b = state g.S.Store c.sub_number_of.new.tx.conn.now in
    let d = state g.S.Store c.clear_sub.new.tx.conn.now in
    let id = c.args.id in
    let num = c.in-Some.num in
    let own : to_z w64 (of_z w64 num) ≡ num = search rules in
    let found = rw c.in-Some.is at c.in_ok-num.ensures.finds in
    let cleared = rw own at c.clear_sub.ensures.clears in
    runs_last (FindsSubNumber id) (λ _. RelaysSound (IsUnnamed num) (without_sub_rows num)) (λ _. MakesLess (Subscription id)) a b d (Some num) c.clear_sub.result
    (λ _ finds clears. lets_sub_go a.now b.now d.now id num finds clears) found cleared
