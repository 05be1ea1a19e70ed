use Rattle.std.proofs.Common.{◌+◌, ◌∙◌, arith, refl, subst}
use Rattle.std.proofs.lemmas.List.{take_all}
use Rattle.sqlite.specs.Held.{state}
use Rattle.entity_core.specs.Airspace.{is_one_of, with_notified_subs}
use Rattle.space_sql_write.specs.Numbering.{Makes}
use Rattle.space_sql_write.specs.SubPutting.{NotifiesRows}
use Rattle.space_sql_write.proofs.Running.{runs_then, runs_as_well, runs_none}
use Rattle.space_sql_write.proofs.NotifiedAll.{TellsFirst, tells_more, tells_none}
use Rattle.space_sql_write.proofs.notify.notify_all.Goals as goal

pub loop-id-init : goal.loop-id-init
loop-id-init g c =
    let a = state g.S.Store c.args.tx.now.conn.now in
    record { same_reference = refl; so_far = runs_none (λ (_ : Unit {0}) x y. TellsFirst 0 c.args.ids.now x y) a tt (tells_none c.args.ids.now a.now) }

pub loop-id-preserved : goal.loop-id-preserved
loop-id-preserved g c =
    let ids = c.args.ids.now in
    let i = c.loop-id.id-index in
    let a = state g.S.Store c.args.tx.now.conn.now in
    let b = state g.S.Store c.loop-id.tx.conn.now in
    let d = state g.S.Store c.notify_one.new.tx.conn.now in
    record {
      same_reference = c.notify_one.ensures.same_reference ∙ c.loop-id.invariant.same_reference;
      so_far = runs_then _ _ (λ _ x y. TellsFirst (i + 1) ids x y) a b d tt _ tt (λ first one. tells_more ids i c.id-item.result a.now b.now d.now (omega arith) c.id-item.is first one) c.loop-id.invariant.so_far c.in_ok-notify_one.ensures.tells;
    }

pub returns-clause-tells : goal.returns-clause-tells
returns-clause-tells g c =
    let ids = c.args.ids.now in
    let a = state g.S.Store c.args.tx.now.conn.now in
    let b = state g.S.Store c.loop-id.tx.conn.now in
    let all = take_all c.loop-id.id-index ids (omega arith) in
    runs_as_well _ (λ _ x y. NotifiesRows ids x y) a b tt tt (λ h s p can sound. subst (λ xs. Makes s (with_notified_subs s (is_one_of xs)) a.now b.now) all (h s p can sound)) c.loop-id.invariant.so_far
