-- Purging items one after another.
use Rattle.std.specs.Prelude.{◌≡◌, ℕ, ◌||◌, Bool, true, false, cond, List, [], ◌∷◌, map, filter, Some, IsSome, refl}
use Rattle.std.proofs.Common.{sym, ap, ◌∙◌, subst}
use Rattle.std.specs.List.{list_any}
use Rattle.std.specs.FinMap.{entries, get}
use Rattle.entity_core.specs.Airspace.{Airspace, Entities, EntityKey, IsAirspace}
use Rattle.entity_core.specs.Search.{dependents_in, is_naming}
use Rattle.entity_core.specs.declared.entity.Entity.{Entity}
use Rattle.entity_core.proofs.Changes.{stayed, stayed_sub}
use Rattle.entity_purge.specs.declared.purge_item.PurgeItem.{PurgeItem}
use Rattle.entity_purge.specs.declared.purge_item.PurgeItem.TheVariants as gone
use Rattle.entity_purge.specs.PurgeItem.{CanPurgeAll, AreDueForPurge, CanPurge, IsDueForPurge, GoneIsPurged, without_items, without_item}
use Rattle.entity_purge.specs.Purge.{IsPartlyPurged, is_referenced_in}
use Rattle.entity_purge.proofs.Chunks.{chunks_make}

none_pass : {X : Type 0} (p : X → Bool) (xs : List X) → list_any p xs ≡ false → filter p xs ≡ []
none_pass p [] h = refl
none_pass {X} p (x ∷ xs) h =
    elim (p x) as (λ b. b || list_any p xs ≡ false → cond b (x ∷ filter p xs) (filter p xs) ≡ []) [
      | true ↦ λ g. cc
      | false ↦ λ g. none_pass p xs g
    ] h

pub unnamed_alone : (m : Entities) (id : ℕ) → is_referenced_in m id ≡ false → dependents_in m id ≡ []
unfolding dependents_in
unnamed_alone m id h = ap (λ (es : List (EntityKey × Entity)). map (λ e. e.id) (map (λ e. e.1) es)) (none_pass (is_naming id) (entries m) h)

one_partly : (until : ℕ) (g : PurgeItem) (a : Airspace) → IsDueForPurge until g a → IsPartlyPurged until a (without_item a g)
one_partly until (gone.Entity kind id) a goes =
    (chunks_make.more until a a (chunks_make.nothing until a)).entity (kind, id) goes.0 goes.1 goes.2
one_partly until (gone.Subscription id) a goes =
    (chunks_make.more until a a (chunks_make.nothing until a)).unnamed id goes.0 goes.1 goes.2 goes.3

one_can : (until : ℕ) (g : PurgeItem) (a : Airspace) → IsDueForPurge until g a → CanPurge g a
one_can until (gone.Entity kind id) a goes = subst IsSome (sym goes.1) refl
one_can until (gone.Subscription id) a goes = (subst IsSome (sym goes.1) refl, unnamed_alone a.entities id goes.3)

one_kept : (g : PurgeItem) (a : Airspace) → IsAirspace a → IsAirspace (without_item a g)
one_kept (gone.Entity kind id) a proper = record {
  keyed = λ k e there. proper.keyed k e (stayed a.entities (kind, id) k e there);
  own = proper.own;
  told = proper.told;
}
one_kept (gone.Subscription id) a proper = record {
  keyed = proper.keyed;
  own = λ j s there. proper.own j s (stayed_sub a.subscriptions id j s there);
  told = λ j s there. proper.told j s (stayed_sub a.subscriptions id j s there);
}

all_partly : (until : ℕ) (gs : List PurgeItem) (a : Airspace) → AreDueForPurge until gs a → IsPartlyPurged until a (without_items gs a)
all_partly until [] a go = chunks_make.nothing until a
all_partly until (g ∷ gs) a go =
    (chunks_make.more until a (without_item a g) (one_partly until g a go.0)).further (without_items gs (without_item a g)) (all_partly until gs (without_item a g) go.1)

all_can : (until : ℕ) (gs : List PurgeItem) (a : Airspace) → AreDueForPurge until gs a → CanPurgeAll gs a
all_can until [] a go = tt
all_can until (g ∷ gs) a go = (one_can until g a go.0, all_can until gs (without_item a g) go.1)

all_kept : (gs : List PurgeItem) (a : Airspace) → IsAirspace a → IsAirspace (without_items gs a)
all_kept [] a proper = proper
all_kept (g ∷ gs) a proper = all_kept gs (without_item a g) (one_kept g a proper)

pub gone_purged : GoneIsPurged
gone_purged = record { partly = all_partly; can = all_can; kept = all_kept }
