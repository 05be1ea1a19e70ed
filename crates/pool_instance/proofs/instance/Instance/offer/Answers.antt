use Rattle.std.proofs.Common.{◌∙◌, List, Some, refl, sym, subst, arith}
use Rattle.pool_instance.specs.Lists.{IsFirstBatch}
use Rattle.pool_instance.specs.declared.waiting.Held.{Held}
use Rattle.pool_instance.proofs.Offered.{none_flies, offered_first, some_waits}
use Rattle.pool_instance.proofs.instance.Instance.offer.Goals as goal

pub returns-in-Ok-offer : goal.returns-in-Ok-offer
returns-in-Ok-offer g c =
    let old = c.args.self.now in
    let draft = c.in-Ok.field-0 in
    offered_first g.L.Log g.S.Space old (record old { log = c.offer.new.self; unsent = c.drop-drain.new.self.0; in_flight = Some draft.sent }) c.args.now draft c.bytes.result.now
    (subst (λ (v : List Held). IsFirstBatch c.args.now v draft) c.as_slice.ensures.value c.in-Ok.ensures) c.bytes.ensures
    (omega (arith, some_waits old.unsent.len c.if-is_empty.ensures, old.unsent.ok.0))
    (record { service = refl; history = c.in-Ok-offer.ensures.history; writer = c.offer.ensures.writer; taken = refl; ended = refl; retention = refl; heard = refl })
    (none_flies old.in_flight (sym c.is_some.ensures ∙ c.if-is_some.false)) refl refl refl
    c.len-count.result (omega (arith, c.len-count.ensures, draft.sent.ok.0)) (c.drop-drain.ensures.items ∙ c.drain.ensures.kept)
