use Rattle.std.proofs.Common.{Bool, Some, subst, sym}
use Rattle.pool_backend.specs.Own.{DoesOwn}
use Rattle.pool_backend.proofs.Own.{own_none, own_purge_offered}
use Rattle.pool_backend.proofs.pool.offer_purge.Goals as goal

pub returns-then-is_held : goal.returns-then-is_held
returns-then-is_held g c = own_none g.L.Log g.S.Space (Some c.args.moment) c.args.is_held c.args.instance.now

pub returns : goal.returns
returns g c =
    subst (λ (v : Bool). DoesOwn g.L.Log g.S.Space (Some c.args.moment) v c.args.instance.now c.offer_purge.new.self) (sym c.if-is_held.false)
    (own_purge_offered g.L.Log g.S.Space c.args.moment c.args.instance.now c.offer_purge.new.self c.offer_purge.result c.offer_purge.ensures)
