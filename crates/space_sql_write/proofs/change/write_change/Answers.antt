use Rattle.std.proofs.Common.{[]}
use Rattle.sqlite.specs.Held.{state}
use Rattle.space_sql_write.specs.Statements.{MakesChange}
use Rattle.space_sql_write.specs.SubPutting.{NotifiesRows}
use Rattle.space_sql_write.proofs.Running.{runs_last}
use Rattle.space_sql_write.proofs.NotifiedAll.{changes_told}
use Rattle.space_sql_write.proofs.change.write_change.Goals as goal

pub returns-clause-changes : goal.returns-clause-changes
returns-clause-changes g c =
    let a = state g.S.Store c.args.tx.now.conn.now in
    let b = state g.S.Store c.write_one.new.tx.conn.now in
    let d = state g.S.Store c.notify_all.new.tx.conn.now in
    let change = c.args.change.now in
    let told = c.args.notify.now in
    runs_last (λ _. MakesChange change []) (λ _. NotifiesRows told) (λ _. MakesChange change told) a b d _ c.notify_all.result
    (λ _ makes tells. changes_told change told a.now b.now d.now makes tells) c.in_ok-write_one.ensures.changes c.notify_all.ensures.tells
