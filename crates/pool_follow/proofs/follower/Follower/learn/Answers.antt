use Rattle.std.proofs.Common.{Some, refl}
use Rattle.pool_follow.proofs.Events.{did_learn}
use Rattle.pool_follow.proofs.follower.Follower.learn.Goals as goal

pub returns-in-Some-clause-learns : goal.returns-in-Some-clause-learns
returns-in-Some-clause-learns g c =
    let old = c.args.self.now in
    let new = record old { log = c.end.new.self; end = c.after-self.result } in
    (Some c.in-Some.end, did_learn g.L.Log g.S.Space old new c.in-Some.end.question c.in-Some.end.count refl refl c.in-Some.ensures.history c.after-self.ensures)
