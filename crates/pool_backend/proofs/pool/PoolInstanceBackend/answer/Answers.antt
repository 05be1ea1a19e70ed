use Rattle.std.proofs.Common.{refl}
use Rattle.pool_backend.proofs.Does.{answers_then, for_same}
use Rattle.pool_backend.proofs.pool.PoolInstanceBackend.answer.Goals as goal

pub returns : goal.returns
returns g c =
    let y = c.answer_waiting.new.self in
    answers_then g.L.Log g.S.Space c.args.moment c.args.ticket c.in-Some.outcome c.args.self.now y (record y { waiting = c.remove.new.self }) c.in-Some.ensures refl c.remove.ensures.given

pub returns-then-not-has : goal.returns-then-not-has
returns-then-not-has g c = (for_same g.L.Log g.S.Space c.args.self.now c.args.self.now (record { instance = refl; outcomes = refl }), tt)

pub returns-in_default : goal.returns-in_default
returns-in_default g c = (c.in_default.ensures, tt)
