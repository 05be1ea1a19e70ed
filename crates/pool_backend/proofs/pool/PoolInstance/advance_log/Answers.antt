use Rattle.std.proofs.Common.{refl}
use Rattle.pool_backend.proofs.Does.{advance_then, does_own}
use Rattle.pool_backend.proofs.Own.{own_nothing, own_then}
use Rattle.pool_backend.proofs.pool.PoolInstance.advance_log.Goals as goal

pub returns : goal.returns
returns g c =
    let m = c.args.moment in
    let held = c.args.is_held in
    let x = c.args.self.now in
    let i = x.instance in
    let i1 = c.ask_and_offer.new.instance in
    let i2 = c.advance_log-log_patience.new.self in
    let i3 = c.learn_ends-learned.new.instance in
    let y = record x { instance = i3; log_io = c.advance_log-log_patience.new.io; log_patience = c.advance_log-log_patience.result } in
    advance_then g.L.Log g.S.Space m held x y c.take_entries-took.new.self
    (does_own g.L.Log g.S.Space m held x y
    (own_then g.L.Log g.S.Space m held i i2 i3
    (own_then g.L.Log g.S.Space m held i i1 i2 c.ask_and_offer.ensures (own_nothing g.L.Log g.S.Space m held i1 i2 c.advance_log-log_patience.ensures))
    (c.learn_ends-learned.ensures m held)) refl)
    (c.take_entries-took.ensures m held)
