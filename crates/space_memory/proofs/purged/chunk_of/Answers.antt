use Rattle.std.proofs.Common.{ℕ, List, true, subst, ◌∙◌}
use Rattle.std.proofs.lemmas.Result.{IfOk-weaker}
use Rattle.std.specs.Map.{values_of}
use Rattle.entity_core.specs.declared.entity.Entity.{Entity}
use Rattle.entity_core.specs.declared.subscription.Sub.{Sub}
use Rattle.entity_maps.specs.declared.availabilities.AvailabilityEntry.{AvailabilityEntry}
use Rattle.entity_maps.specs.Entities.{InOrder, entity_map}
use Rattle.entity_maps.specs.Lists.{airspace_of}
use Rattle.entity_purge.specs.PurgeItem.{IsPurgeChunk}
use Rattle.space_memory.specs.Purged.{AreFirst, ended_in, free_in}
use Rattle.space_memory.proofs.EndedChunks.{all_go, entities_go, no_entity, of_all, some_entity}
use Rattle.space_memory.proofs.purged.chunk_of.Goals as goal

pub returns-then-not-is_empty : goal.returns-then-not-is_empty
returns-then-not-is_empty c settings serial =
    c.in_ok-next.ensures settings serial (some_entity c.in_ok-next.next.items c.in_ok-next.next.len c.is_empty.result c.in_ok-next.next.ok.0 c.is_empty.ensures c.if-not-is_empty.true)

pub returns-then-not-is_empty-2 : goal.returns-then-not-is_empty-2
returns-then-not-is_empty-2 c settings serial =
    entities_go c.args.until c.args.most c.args.entities.now c.args.subscriptions.now settings serial (λ e. true) c.in_ok-gone.gone.items (subst InOrder c.entities.ensures c.entries.ensures.order)
    (of_all (ended_in c.args.until) c.args.most c.in_ok-gone.gone.items (values_of c.entries.result) c.args.entities.now (c.entries.ensures.items ∙ c.entities.ensures) c.in_ok-gone.ensures)
    (some_entity c.in_ok-gone.gone.items c.in_ok-gone.gone.len c.is_empty-2.result c.in_ok-gone.gone.ok.0 c.is_empty-2.ensures c.if-not-is_empty-2.true)

pub returns : goal.returns
returns c =
    let m = entity_map c.args.entities.now in
    IfOk-weaker c.first_free.result
    (λ gone. AreFirst c.args.most gone.items (free_in c.args.until m (values_of c.entries-2.result)))
    (λ gone. (settings : List AvailabilityEntry) (serial : ℕ) → IsPurgeChunk c.args.until c.args.most gone.items (airspace_of c.args.entities.now c.args.subscriptions.now settings serial))
    (λ gone free settings serial.
    all_go c.args.until c.args.most c.args.entities.now c.args.subscriptions.now settings serial c.in_ok-gone.gone.items gone.items
    (subst (λ (es : List Entity). AreFirst c.args.most c.in_ok-gone.gone.items (ended_in c.args.until es)) (c.entries.ensures.items ∙ c.entities.ensures) c.in_ok-gone.ensures)
    (no_entity c.in_ok-gone.gone.items c.in_ok-gone.gone.len c.is_empty-2.result c.in_ok-gone.gone.ok.0 c.is_empty-2.ensures c.if-not-is_empty-2.false)
    c.requires c.entries-2.ensures.order
    (subst (λ (ss : List Sub). AreFirst c.args.most gone.items (free_in c.args.until m ss)) c.entries-2.ensures.items free))
    c.first_free.ensures
