use Rattle.std.proofs.Common.{Option, ℕ, Some, subst, sym}
use Rattle.pool_backend.specs.Own.{DoesOwn}
use Rattle.pool_backend.proofs.Own.{own_asked, own_offered, own_then}
use Rattle.pool_backend.proofs.pool.ask_and_offer.Goals as goal

pub returns-in_default : goal.returns-in_default
returns-in_default g c = own_asked g.L.Log g.S.Space c.args.moment c.args.is_held c.args.instance.now c.ask.new.self c.ask.result c.ask.ensures

pub returns-then-not-is_read : goal.returns-then-not-is_read
returns-then-not-is_read g c = own_asked g.L.Log g.S.Space c.args.moment c.args.is_held c.args.instance.now c.ask.new.self c.ask.result c.ask.ensures

pub returns : goal.returns
returns g c =
    let m = c.in-Some.moment in
    let held = c.args.is_held in
    let i = c.args.instance.now in
    subst (λ (v : Option ℕ). DoesOwn g.L.Log g.S.Space v held i c.offer.new.self) (sym c.in-Some.is)
    (own_then g.L.Log g.S.Space (Some m) held i c.offer_purge.new.instance c.offer.new.self
    (own_then g.L.Log g.S.Space (Some m) held i c.ask.new.self c.offer_purge.new.instance
    (own_asked g.L.Log g.S.Space (Some m) held i c.ask.new.self c.ask.result c.ask.ensures)
    c.offer_purge.ensures)
    (own_offered g.L.Log g.S.Space m held c.offer_purge.new.instance c.offer.new.self c.offer.result c.offer.ensures))
