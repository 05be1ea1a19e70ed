use Rattle.std.proofs.Common.{ℕ, List, subst, refl}
use Rattle.pool_core.specs.Log.{entry_of}
use Rattle.pool_entry.specs.Acts.{acts_of}
use Rattle.pool_follow.specs.Acts.{DoesActs}
use Rattle.pool_follow.proofs.Events.{did_take}
use Rattle.pool_follow.proofs.follower.Follower.take_next.Goals as goal

pub returns-in_ok-do_acts-in-Ok-Some-clause-takes : goal.returns-in_ok-do_acts-in-Ok-Some-clause-takes
returns-in_ok-do_acts-in-Ok-Some-clause-takes g c =
    let old = c.args.self.now in
    let new = record old { log = c.next.new.self; service = c.do_acts.new.service; taken = c.in-Some.taken } in (
      entry_of c.in-Ok-Some.entry,
      did_take g.L.Log g.S.Space old new (entry_of c.in-Ok-Some.entry) c.in-Some.ensures.1 (rw c.in-Ok-Some.field-0-is at c.in-Ok-Some.ensures.history) refl c.do_acts.ensures.keeps
          (λ goes. subst (λ (v : List ℕ). DoesActs g.S.Space (acts_of v) old.service c.do_acts.new.service) c.as_slice.ensures.value (c.in_ok-do_acts-in-Ok-Some.ensures.done goes)),
    )
