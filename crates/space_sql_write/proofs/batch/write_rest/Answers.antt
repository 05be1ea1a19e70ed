use Rattle.std.proofs.Common.{◌+◌, ◌∙◌, arith, refl, subst}
use Rattle.sqlite.specs.Held.{state}
use Rattle.space_sql_write.specs.Statements.{MakesChange, MakesRest}
use Rattle.space_sql_write.proofs.Batches.{LeadsTo, leads_start, leads_on, leads_end}
use Rattle.space_sql_write.proofs.Running.{runs_then, runs_as_well, runs_none}
use Rattle.space_sql_write.proofs.batch.write_rest.Goals as goal

pub loop-next-init : goal.loop-next-init
loop-next-init g c =
    let a = state g.S.Store c.args.tx.now.conn.now in
    record { same_reference = refl; so_far = runs_none (λ (_ : Unit {0}) x y. LeadsTo 0 c.args.rest.now x y) a tt (leads_start c.args.rest.now a.now) }

pub loop-next-preserved : goal.loop-next-preserved
loop-next-preserved g c =
    let rest = c.args.rest.now in
    let i = c.loop-next.next-index in
    let a = state g.S.Store c.args.tx.now.conn.now in
    let b = state g.S.Store c.loop-next.tx.conn.now in
    let d = state g.S.Store c.write_change.new.tx.conn.now in
    let next = c.next-item.result in
    record {
      same_reference = c.write_change.ensures.same_reference ∙ c.loop-next.invariant.same_reference;
      so_far = runs_then _ _ (λ _ x y. LeadsTo (i + 1) rest x y) a b d tt _ tt (λ before one. leads_on rest i next a.now b.now d.now (omega arith) c.next-item.is before (subst (λ told. MakesChange next.change told b.now d.now) c.as_slice.ensures.value one)) c.loop-next.invariant.so_far c.in_ok-write_change.ensures.changes;
    }

pub returns-clause-changes : goal.returns-clause-changes
returns-clause-changes g c =
    let rest = c.args.rest.now in
    let a = state g.S.Store c.args.tx.now.conn.now in
    let b = state g.S.Store c.loop-next.tx.conn.now in
    runs_as_well _ (λ _ x y. MakesRest rest x y) a b tt tt (leads_end rest c.loop-next.next-index a.now b.now (omega arith)) c.loop-next.invariant.so_far
