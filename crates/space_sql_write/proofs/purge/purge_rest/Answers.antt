use Rattle.std.proofs.Common.{◌+◌, ◌∙◌, arith, refl}
use Rattle.sqlite.specs.Held.{state}
use Rattle.space_sql_write.specs.Statements.{MakesLessRest}
use Rattle.space_sql_write.proofs.Purging.{LeadsTo, leads_start, leads_on, leads_end}
use Rattle.space_sql_write.proofs.Running.{runs_then, runs_as_well, runs_none}
use Rattle.space_sql_write.proofs.purge.purge_rest.Goals as goal

pub loop-next-init : goal.loop-next-init
loop-next-init g c =
    let a = state g.S.Store c.args.tx.now.conn.now in
    record { same_reference = refl; so_far = runs_none (λ (_ : Unit {0}) x y. LeadsTo 0 c.args.rest.now x y) a tt (leads_start c.args.rest.now a.now) }

pub loop-next-preserved : goal.loop-next-preserved
loop-next-preserved g c =
    let rest = c.args.rest.now in
    let i = c.loop-next.next-index in
    let a = state g.S.Store c.args.tx.now.conn.now in
    let b = state g.S.Store c.loop-next.tx.conn.now in
    let d = state g.S.Store c.purge_one.new.tx.conn.now in
    let next = c.next-item.result in
    record {
      same_reference = c.purge_one.ensures.same_reference ∙ c.loop-next.invariant.same_reference;
      so_far = runs_then _ _ (λ _ x y. LeadsTo (i + 1) rest x y) a b d tt _ tt (λ before one. leads_on rest i next a.now b.now d.now (omega arith) c.next-item.is before one) c.loop-next.invariant.so_far c.in_ok-purge_one.ensures.goes;
    }

pub returns-clause-goes : goal.returns-clause-goes
returns-clause-goes g c =
    let rest = c.args.rest.now in
    let a = state g.S.Store c.args.tx.now.conn.now in
    let b = state g.S.Store c.loop-next.tx.conn.now in
    runs_as_well _ (λ _ x y. MakesLessRest rest x y) a b tt tt (leads_end rest c.loop-next.next-index a.now b.now (omega arith)) c.loop-next.invariant.so_far
