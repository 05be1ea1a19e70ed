use Rattle.std.proofs.Common.{arith, ◌≡◌, ◌∙◌, sym, ap, subst, ◌+◌, List, [], ◌∷◌, ◌++◌, take, length, length-append}
use Rattle.std.proofs.lemmas.List.{take_more, take_all}
use Rattle.entity_core.specs.Airspace.{empty_at}
use Rattle.service_calls.specs.Run.{AskedInOrder, TimedCall}
use Rattle.service_calls.proofs.Awares.{held_aware, run_numbered, same_numbered}
use Rattle.service_calls.proofs.Counts.{held_counts}
use Rattle.service_calls.proofs.Runs.{answered, asked_more}
use Rattle.service_calls.proofs.service.Service.run.Goals as goal

pub loop-entry-preserved : goal.loop-entry-preserved
loop-entry-preserved g c =
    let i = c.loop-entry.entry-index in
    let cs = take i c.args.calls.now in
    let rs = c.loop-entry.replies.items in
    let d = c.entry-item.result in
    let r = c.call-reply.result in
    let inv = c.loop-entry.invariant in
    let calls : take (i + 1) c.args.calls.now ≡ cs ++ d ∷ [] = take_more c.args.calls.now i d c.loop-entry-test.true ∙ ap (λ (x : TimedCall). cs ++ x ∷ []) (sym c.entry-item.is) in
    let items : c.push.new.self.items ≡ rs ++ r ∷ [] = c.in-Ok.ensures.items in
    record {
      count = ap length items ∙ omega (arith, length-append rs (r ∷ []), inv.count);
      room = omega (arith, inv.room, c.in-Ok.ensures.capacity);
      in_order = rw (calls, items) (asked_more g.S.Space c.args.self.now cs rs c.loop-entry.self c.call-reply.new.self d r inv.in_order c.call-reply.ensures.reply);
    }

pub returns-clause-answered : goal.returns-clause-answered
returns-clause-answered g c =
    let all : take c.loop-entry.entry-index c.args.calls.now ≡ c.args.calls.now = take_all c.loop-entry.entry-index c.args.calls.now (omega arith) in
    answered g.S.Space c.args.self.now c.args.calls.now c.loop-entry.replies.items c.loop-entry.self
    (subst (λ (cs : List TimedCall). AskedInOrder g.S.Space c.args.self.now cs c.loop-entry.replies.items c.loop-entry.self) all c.loop-entry.invariant.in_order)

pub returns-clause-aware : goal.returns-clause-aware
returns-clause-aware g c n s stops serial content a held =
    held_aware g.S.Space c.args.self.now.salt serial c.args.calls.now c.loop-entry.replies.items c.loop-entry.self.space
    ((returns-clause-answered g c).runs n s (empty_at serial) content) stops a held

pub returns-clause-numbered : goal.returns-clause-numbered
returns-clause-numbered g c s serial content a held =
    run_numbered g.S.Space c.args.self.now c.args.calls.now c.loop-entry.replies.items c.loop-entry.self (returns-clause-answered g c) s serial content a held

pub returns-in_err-replies-clause-numbered : goal.returns-in_err-replies-clause-numbered
returns-in_err-replies-clause-numbered g c s serial content a held = same_numbered g.S.Space c.args.self.now.salt serial c.args.self.now.space content a held

pub returns-clause-counted : goal.returns-clause-counted
returns-clause-counted g c n s stops serial content a held =
    held_counts g.S.Space c.args.self.now.salt serial c.args.calls.now c.loop-entry.replies.items c.loop-entry.self.space
    ((returns-clause-answered g c).runs n s (empty_at serial) content) stops a held
