use Rattle.std.proofs.Common.{to_z, of_z, w64, ◌≡◌, ◌∙◌, Some, None, sym, rules}
use Rattle.sqlite.specs.Held.{state}
use Rattle.space_sql_write.specs.Putting.{FindsNaming}
use Rattle.space_sql_write.specs.Statements.{FindsSubNumber}
use Rattle.space_sql_write.proofs.Running.{runs_as_well, runs_none}
use Rattle.space_sql_write.proofs.Putting.{names_none, names_one}
use Rattle.space_sql_write.proofs.put.naming_of.Goals as goal

pub returns-in-None-clause-finds : goal.returns-in-None-clause-finds
returns-in-None-clause-finds g c =
    let old = state g.S.Store c.args.tx.now.conn.now in
    runs_none (FindsNaming c.args.entity.now) old None (names_none c.args.entity.now old.now (sym c.subscription.ensures ∙ c.in-None.is))

pub returns-in-Some-2-clause-finds : goal.returns-in-Some-2-clause-finds
returns-in-Some-2-clause-finds g c =
    let old = state g.S.Store c.args.tx.now.conn.now in
    let new = state g.S.Store c.sub_number_of.new.tx.conn.now in
    let e = c.args.entity.now in
    let id = c.in-Some.id in
    let num = c.in-Some-2.num in
    let own : to_z w64 (of_z w64 num) ≡ num = search rules in
    let finds = rw c.in-Some-2.is at c.in_ok-num-in-Some.ensures.finds in
    rw own (runs_as_well (FindsSubNumber id) (FindsNaming e) old new (Some num) (Some num) (names_one e id num old.now new.now (sym c.subscription.ensures ∙ c.in-Some.is)) finds)
