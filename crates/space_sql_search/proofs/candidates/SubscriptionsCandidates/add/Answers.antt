use Rattle.std.proofs.Common.{Some, None, to_z-of_z}
use Rattle.sqlite.specs.Held.{state}
use Rattle.space_sql_lookup.specs.Subscription.{FindsSubNumbered}
use Rattle.space_sql_select.proofs.Readings.{reads_as}
use Rattle.space_sql_search.specs.Candidates.{AddsNumbered, HoldsSubs}
use Rattle.space_sql_search.proofs.Numbered.{adds_sub, adds_no_sub}
use Rattle.space_sql_search.proofs.candidates.SubscriptionsCandidates.add.Goals as goal

pub returns-in_ok-put-in-Some-clause-adds : goal.returns-in_ok-put-in-Some-clause-adds
returns-in_ok-put-in-Some-clause-adds g c =
    let num = c.args.num in
    let old = c.args.self.now in
    let new = c.put.new.self in
    reads_as (FindsSubNumbered num) (λ db _. AddsNumbered HoldsSubs num db old new) (state g.S.Store c.args.tx.now.conn.now) (state g.S.Store c.read_sub_by_num.new.tx.conn.now) (Some c.in-Some.sub) tt
    (λ db h. adds_sub num db old new c.in-Some.sub c.in_ok-put-in-Some.ensures.ok h) (rw (to_z-of_z c.ranges.num, c.in-Some.is) at c.in_ok-sub.ensures.reads)

pub returns-in-None-clause-adds : goal.returns-in-None-clause-adds
returns-in-None-clause-adds g c =
    let num = c.args.num in
    let old = c.args.self.now in
    reads_as (FindsSubNumbered num) (λ db _. AddsNumbered HoldsSubs num db old old) (state g.S.Store c.args.tx.now.conn.now) (state g.S.Store c.read_sub_by_num.new.tx.conn.now) None tt
    (λ db h. adds_no_sub num db old h) (rw (to_z-of_z c.ranges.num, c.in-None.is) at c.in_ok-sub.ensures.reads)
