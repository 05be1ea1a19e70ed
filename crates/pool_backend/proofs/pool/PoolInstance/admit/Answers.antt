use Rattle.std.proofs.Common.{◌≡◌, ◌∙◌, sym, subst, None}
use Rattle.std.specs.Prelude.{find}
use Rattle.policy_core.specs.declared.call.Call.{Call}
use Rattle.policy_core.specs.Policy.{breaks, early_rules}
use Rattle.pool_backend.specs.Pool.{ReceivesAs}
use Rattle.pool_backend.proofs.Does.{for_same}
use Rattle.pool_backend.proofs.Receive.{call_is_given}
use Rattle.pool_backend.proofs.pool.PoolInstance.admit.Goals as goal

pub returns-then-not-is_assigned : goal.returns-then-not-is_assigned
returns-then-not-is_assigned g c = for_same g.L.Log g.S.Space c.args.self.now c.note_refused.new.self c.note_refused.ensures

pub queue-requires-clause-early : goal.queue-requires-clause-early
queue-requires-clause-early g c a time =
    let same = c.in-Ok.ensures.call ∙ sym (call_is_given c.args.request c.requires.made c.requires.early) in
    subst (λ (v : Call). find (breaks a time v) early_rules ≡ None) (sym same) (c.requires.early a time)

pub returns-in-Ok : goal.returns-in-Ok
returns-in-Ok g c =
    let same = c.in-Ok.ensures.call ∙ sym (call_is_given c.args.request c.requires.made c.requires.early) in
    subst (λ (v : Call). ReceivesAs g.L.Log g.S.Space c.args.moment v c.queue.result c.args.self.now c.queue.new.self) same c.queue.ensures
