use Rattle.std.proofs.Common.{◌∙◌, Some, refl, subst, sym}
use Rattle.pool_entry.specs.Spelling.{SpellsPurge}
use Rattle.pool_instance.proofs.Offered.{none_flies, offered_purge}
use Rattle.pool_instance.proofs.instance.Instance.offer_purge.Goals as goal

pub returns-in-Ok-offer : goal.returns-in-Ok-offer
returns-in-Ok-offer g c =
    let old = c.args.self.now in
    offered_purge g.L.Log g.S.Space old (record old { log = c.offer.new.self; in_flight = Some c.new.result }) c.args.now c.in-Some.until c.as_slice.result.now c.new.result c.in-Some.ensures.some
    (subst (λ v. SpellsPurge v c.in-Some.until) (sym c.as_slice.ensures.value) c.in-Ok.ensures)
    (record { service = refl; history = c.in-Ok-offer.ensures.history; writer = c.offer.ensures.writer; taken = refl; ended = refl; retention = refl; heard = refl })
    (none_flies old.in_flight (sym c.is_some.ensures ∙ c.if-is_some.false)) refl c.new.ensures.items refl refl refl
