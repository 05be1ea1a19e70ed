use Rattle.std.proofs.Common.{ℕ, List, subst, ap, ◌∙◌}
use Rattle.std.proofs.lemmas.Result.{IfOk-weaker}
use Rattle.std.specs.Map.{values_of}
use Rattle.std.specs.Prelude.{filter}
use Rattle.entity_core.specs.declared.entity.Entity.{Entity}
use Rattle.entity_core.specs.declared.subscription.Sub.{Sub}
use Rattle.entity_maps.specs.declared.availabilities.AvailabilityEntry.{AvailabilityEntry}
use Rattle.entity_maps.specs.Entities as entities
use Rattle.entity_maps.specs.Entities.{entity_map}
use Rattle.entity_maps.specs.Lists.{airspace_of}
use Rattle.entity_maps.specs.Subscriptions as subscriptions
use Rattle.space_memory.specs.Purged.{AreFirst, IsChunkIfAny, ended_in, free_in}
use Rattle.space_memory.proofs.EndedChunks.{entities_go, subscriptions_go}
use Rattle.space_memory.proofs.purged.chunk_from.Goals as goal

pub returns-in-Entity : goal.returns-in-Entity
returns-in-Entity c =
    let among = entities.comes_from (c.in-Entity.kind, c.in-Entity.id) in
    IfOk-weaker c.first_ended.result
    (λ gone. AreFirst c.args.most gone.items (ended_in c.args.until (values_of c.range_from-next.result)))
    (λ gone. (settings : List AvailabilityEntry) (serial : ℕ) → IsChunkIfAny c.args.until c.args.most gone.items (airspace_of c.args.entities.now c.args.subscriptions.now settings serial))
    (λ gone first settings serial.
    entities_go c.args.until c.args.most c.args.entities.now c.args.subscriptions.now settings serial among gone.items (subst entities.InOrder c.entities.ensures c.range_from-next.ensures.order)
    (subst (λ (es : List Entity). AreFirst c.args.most gone.items (ended_in c.args.until es)) (c.range_from-next.ensures.items ∙ ap (filter among) c.entities.ensures) first))
    c.first_ended.ensures

pub returns-in-Subscription : goal.returns-in-Subscription
returns-in-Subscription c =
    let m = entity_map c.args.entities.now in
    let among = subscriptions.comes_from c.in-Subscription.id in
    IfOk-weaker c.first_free.result
    (λ gone. AreFirst c.args.most gone.items (free_in c.args.until m (values_of c.range_from-next-in-Subscription.result)))
    (λ gone. (settings : List AvailabilityEntry) (serial : ℕ) → IsChunkIfAny c.args.until c.args.most gone.items (airspace_of c.args.entities.now c.args.subscriptions.now settings serial))
    (λ gone first settings serial.
    subscriptions_go c.args.until c.args.most c.args.entities.now c.args.subscriptions.now settings serial among gone.items c.range_from-next-in-Subscription.ensures.order
    (subst (λ (ss : List Sub). AreFirst c.args.most gone.items (free_in c.args.until m ss)) c.range_from-next-in-Subscription.ensures.items first))
    c.first_free.ensures
