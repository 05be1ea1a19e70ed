-- The content of an in-memory space is a valid airspace. All of it is proved. It is in `specs/`
-- because a law of an `impl` can cite only `specs/`.
use Rattle.std.specs.Prelude.{◌≡◌, ℕ, true, false, List, [], ◌∷◌, Some, cond, refl}
use Rattle.std.proofs.Common.{sym, ap, ◌∙◌}
use Rattle.std.proofs.lemmas.Option.{same_Some}
use Rattle.std.specs.Ordering.{eq_by_cmp, nat_cmp}
use Rattle.std.proofs.lemmas.Cmp.{nat_cmp_total}
use Rattle.std.specs.FinMap as maps
use Rattle.std.specs.FinMap.{get-from_entries}
use Rattle.entity_core.specs.Airspace.{IsAirspace}
use Rattle.entity_core.specs.declared.subscription.Sub.{Sub}
use Rattle.entity_core.proofs.Changes.{one_id}
use Rattle.entity_core.proofs.Keys.{key_total}
use Rattle.entity_maps.specs.OwnKeys.{own_key}
use Rattle.space_memory.specs.declared.memory.MemorySpace.{MemorySpace}
use Rattle.entity_maps.specs.Entities.{pair_of}
use Rattle.entity_maps.specs.Subscriptions.{pair_of as sub_pair}
use Rattle.space_memory.specs.Memory.{content_of}
use Rattle.entity_maps.specs.Sorted.{keyed}

pub own_id : (ss : List Sub) (id : ℕ) (s : Sub) → maps.find nat_cmp id (keyed sub_pair ss) ≡ Some s → s.id ≡ id
own_id [] id s h = cc
own_id (x ∷ ss) id s h =
    elim (eq_by_cmp nat_cmp id x.id) as (λ b. eq_by_cmp nat_cmp id x.id ≡ b → cond b (Some x) (maps.find nat_cmp id (keyed sub_pair ss)) ≡ Some s → s.id ≡ id) [
      | true ↦ λ t e. ap (λ (y : Sub). y.id) (sym (same_Some x s e)) ∙ sym (one_id id x.id t)
      | false ↦ λ t e. own_id ss id s e
    ] refl h

pub content_is_proper : (s : MemorySpace) → IsAirspace (content_of s)
content_is_proper s = record {
  keyed = λ k x h. own_key s.entities k x (sym (get-from_entries key_total (keyed pair_of s.entities) k) ∙ h);
  own = λ id x h. own_id s.subscriptions id x (sym (get-from_entries nat_cmp_total (keyed sub_pair s.subscriptions) id) ∙ h);
  told = s.told;
}
