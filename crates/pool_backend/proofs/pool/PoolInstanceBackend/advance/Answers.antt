use Rattle.std.proofs.Common.{refl}
use Rattle.pool_backend.specs.Pool.{MayDo, retention_of}
use Rattle.pool_backend.proofs.Does.{advance_fails, advance_then, does_same, does_then}
use Rattle.pool_backend.proofs.pool.PoolInstanceBackend.advance.Goals as goal

pub returns : goal.returns
returns g c =
    let m = c.args.moment in
    let held = c.args.is_held in
    let x = c.args.self.now in
    let x1 = c.log_refused.new.self in
    let x2 = c.check_waiting.new.self in
    let x3 = c.advance_log-did.new.self in
    let y3 = record x3 { did = c.advance_log-did.result; advanced = c.replace-before.new.dest } in
    let x4 = c.fail_late.new.self in
    let x5 = c.fail_if_ended.new.self in
    let x6 = c.report_purges.new.self in
    let r = retention_of x in
    let may = MayDo r m held in
    does_then g.L.Log g.S.Space may x x5 x6
    (does_then g.L.Log g.S.Space may x x4 x5
    (does_then g.L.Log g.S.Space may x y3 x4
    (does_then g.L.Log g.S.Space may x x3 y3
    (advance_then g.L.Log g.S.Space m held x x2 x3
    (does_then g.L.Log g.S.Space may x x1 x2 (does_same g.L.Log g.S.Space may x x1 c.log_refused.ensures) (advance_fails g.L.Log g.S.Space m held r x1 x2 c.check_waiting.ensures))
    c.advance_log-did.ensures)
    (does_same g.L.Log g.S.Space may x3 y3 (record { instance = refl; outcomes = refl })))
    (advance_fails g.L.Log g.S.Space m held r y3 x4 c.fail_late.ensures))
    (advance_fails g.L.Log g.S.Space m held r x4 x5 c.fail_if_ended.ensures))
    (does_same g.L.Log g.S.Space may x5 x6 (record { instance = c.report_purges.ensures.instance; outcomes = c.report_purges.ensures.outcomes }))
