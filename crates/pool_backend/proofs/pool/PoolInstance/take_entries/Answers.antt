use Rattle.std.proofs.Common.{◌∙◌, Ok, ap, refl}
use Rattle.pool_backend.specs.Pool.{MayDo, retention_of}
use Rattle.pool_backend.proofs.Does.{advance_then, does_none, does_not_take, does_take}
use Rattle.pool_backend.proofs.pool.PoolInstance.take_entries.Goals as goal

pub loop-count-init : goal.loop-count-init
loop-count-init g c moment held = does_none g.L.Log g.S.Space (MayDo (retention_of c.args.self.now) moment held) c.args.self.now

pub loop-count-preserved : goal.loop-count-preserved
loop-count-preserved g c moment held =
    advance_then g.L.Log g.S.Space moment held c.args.self.now c.loop-count.self c.give_all.new.self (c.loop-count.invariant moment held)
    (does_take g.L.Log g.S.Space moment held c.loop-count.self c.give_all.new.self c.take.new.self c.take.result c.in-Ok-Some.told c.take.ensures (c.in-Ok-Some.is ∙ ap Ok c.in-Ok-Some.field-0-is) c.give_all.ensures.instance c.give_all.ensures.outcomes)

pub returns-in_default : goal.returns-in_default
returns-in_default g c moment held =
    advance_then g.L.Log g.S.Space moment held c.args.self.now c.loop-count.self (record c.loop-count.self { instance = c.take.new.self }) (c.loop-count.invariant moment held)
    (does_not_take g.L.Log g.S.Space moment held c.loop-count.self (record c.loop-count.self { instance = c.take.new.self }) c.take.result c.take.ensures refl)
