use Rattle.pool_backend.proofs.Own.{own_learned, own_none, own_then}
use Rattle.pool_backend.proofs.pool.learn_ends.Goals as goal

pub loop-count-init : goal.loop-count-init
loop-count-init g c moment held = own_none g.L.Log g.S.Space moment held c.args.instance.now

pub loop-count-preserved : goal.loop-count-preserved
loop-count-preserved g c moment held =
    own_then g.L.Log g.S.Space moment held c.args.instance.now c.loop-count.instance c.learn.new.self (c.loop-count.invariant moment held)
    (own_learned g.L.Log g.S.Space moment held c.loop-count.instance c.learn.new.self c.learn.result c.learn.ensures)

pub returns-then-not-learn : goal.returns-then-not-learn
returns-then-not-learn g c moment held =
    own_then g.L.Log g.S.Space moment held c.args.instance.now c.loop-count.instance c.learn.new.self (c.loop-count.invariant moment held)
    (own_learned g.L.Log g.S.Space moment held c.loop-count.instance c.learn.new.self c.learn.result c.learn.ensures)
