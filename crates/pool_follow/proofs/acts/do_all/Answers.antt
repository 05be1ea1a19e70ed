use Rattle.std.proofs.Common.{◌≡◌, OnOk, List, ap, sym, subst, ◌∙◌}
use Rattle.service_calls.specs.Run.{TimedCall}
use Rattle.pool_core.specs.Acts.{Act, makes_all}
use Rattle.pool_entry.specs.Acts.{acts_read}
use Rattle.pool_entry.specs.declared.entry.EntryActs.{EntryActs}
use Rattle.pool_follow.specs.Acts.{DoesActs}
use Rattle.pool_follow.proofs.acts.do_all.Goals as goal

pub returns-in-Calls-clause-done : goal.returns-in-Calls-clause-done
returns-in-Calls-clause-done g c goes =
    let same : makes_all c.as_slice.result.now ≡ acts_read c.args.acts.now =
    ap (λ (v : List TimedCall). makes_all v) c.as_slice.ensures.value ∙ ap (λ (v : EntryActs). acts_read v) (sym c.in-Calls.is) in
    subst (λ (v : List Act). OnOk c.make_all.result (DoesActs g.S.Space v c.args.service.now c.make_all.new.service)) same (c.make_all.ensures.done goes)
