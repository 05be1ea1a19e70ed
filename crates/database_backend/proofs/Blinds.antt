-- Purges tell a USS nothing of OVNs that it does not know.
use Rattle.std.specs.Prelude.{◌≡◌, ℕ, not, Bool, true, false, List, [], ◌∷◌, ◌++◌, map, cond, refl}
use Rattle.std.proofs.Common.{sym, ap, ◌∙◌}
use Rattle.std.specs.Ordering.{eq_by_cmp, nat_cmp}
use Rattle.std.proofs.lemmas.Cmp.{nat_cmp_total}
use Rattle.std.specs.FinMap.{remove, entries, nat_cmp-IsAntisymmetric}
use Rattle.std.specs.FinMap.Entries.{where_key}
use Rattle.entity_core.specs.Airspace.{Airspace, EntityKey, key_cmp}
use Rattle.entity_core.specs.declared.entity.Entity.{Entity}
use Rattle.entity_core.specs.declared.subscription.Sub.{Sub}
use Rattle.entity_core.proofs.Entries.{entries-remove}
use Rattle.entity_core.proofs.Keys.{key_exact, key_total}
use Rattle.entity_purge.specs.declared.purge_item.PurgeItem.TheVariants as items
use Rattle.entity_purge.specs.Purge.{less_entity, less_subscription}
use Rattle.policy_core.specs.Blind.{IsLike, redacted_entry, redacted_sub_entry}
use Rattle.service_calls.specs.Blind.{replies_to}
use Rattle.service_calls.specs.Run.{replies_of}
use Rattle.service_calls.proofs.Blinds.{run_blind}
use Rattle.database_backend.specs.Blind.{PurgeIsBlind, PurgedRunIsBlind, after_purge, replies_over}

-- An item is removed from redacted entries as from the entries.
entities_kept : (m : List ℕ) (p : EntityKey → Bool) (es : List (EntityKey × Entity)) → map (redacted_entry m) (where_key key_cmp p es) ≡ where_key key_cmp p (map (redacted_entry m) es)
entities_kept m p [] = refl
entities_kept m p (x ∷ es) =
    elim (p x.0) as (λ b. map (redacted_entry m) (cond b (x ∷ where_key key_cmp p es) (where_key key_cmp p es)) ≡ cond b (redacted_entry m x ∷ where_key key_cmp p (map (redacted_entry m) es)) (where_key key_cmp p (map (redacted_entry m) es))) [
      | true ↦ ap (λ (ys : List (EntityKey × Entity)). redacted_entry m x ∷ ys) (entities_kept m p es)
      | false ↦ entities_kept m p es
    ]

subs_kept : (m : List ℕ) (p : ℕ → Bool) (ss : List (ℕ × Sub)) → map (redacted_sub_entry m) (where_key nat_cmp p ss) ≡ where_key nat_cmp p (map (redacted_sub_entry m) ss)
subs_kept m p [] = refl
subs_kept m p (x ∷ ss) =
    elim (p x.0) as (λ b. map (redacted_sub_entry m) (cond b (x ∷ where_key nat_cmp p ss) (where_key nat_cmp p ss)) ≡ cond b (redacted_sub_entry m x ∷ where_key nat_cmp p (map (redacted_sub_entry m) ss)) (where_key nat_cmp p (map (redacted_sub_entry m) ss))) [
      | true ↦ ap (λ (ys : List (ℕ × Sub)). redacted_sub_entry m x ∷ ys) (subs_kept m p ss)
      | false ↦ subs_kept m p ss
    ]

less_entity_like : (m : List ℕ) (a b : Airspace) (k : EntityKey) → IsLike m a b → IsLike m (less_entity a k) (less_entity b k)
less_entity_like m a b k l =
    let p : EntityKey → Bool = λ x. not (eq_by_cmp key_cmp k x) in
    let side : (x : Airspace) → map (redacted_entry m) (entries (remove x.entities k)) ≡ where_key key_cmp p (map (redacted_entry m) (entries x.entities)) =
    λ x. ap (map (redacted_entry m)) (entries-remove key_total key_exact x.entities k) ∙ entities_kept m p (entries x.entities) in
    record {
      entities = side a ∙ (ap (where_key key_cmp p) l.entities ∙ sym (side b));
      subscriptions = l.subscriptions;
      availabilities = l.availabilities;
      serial = l.serial;
    }

less_subscription_like : (m : List ℕ) (a b : Airspace) (k : ℕ) → IsLike m a b → IsLike m (less_subscription a k) (less_subscription b k)
less_subscription_like m a b k l =
    let p : ℕ → Bool = λ x. not (eq_by_cmp nat_cmp k x) in
    let side : (x : Airspace) → map (redacted_sub_entry m) (entries (remove x.subscriptions k)) ≡ where_key nat_cmp p (map (redacted_sub_entry m) (entries x.subscriptions)) =
    λ x. ap (map (redacted_sub_entry m)) (entries-remove nat_cmp_total nat_cmp-IsAntisymmetric x.subscriptions k) ∙ subs_kept m p (entries x.subscriptions) in
    record {
      entities = l.entities;
      subscriptions = side a ∙ (ap (where_key nat_cmp p) l.subscriptions ∙ sym (side b));
      availabilities = l.availabilities;
      serial = l.serial;
    }

pub purge_blind : PurgeIsBlind
purge_blind m [] a b l = l
purge_blind m (items.Entity kind id ∷ gone) a b l = purge_blind m gone (less_entity a (kind, id)) (less_entity b (kind, id)) (less_entity_like m a b (kind, id) l)
purge_blind m (items.Subscription id ∷ gone) a b l = purge_blind m gone (less_subscription a id) (less_subscription b id) (less_subscription_like m a b id l)

pub purged_run_blind : PurgedRunIsBlind
purged_run_blind salt m [] a b l h = (refl, l)
purged_run_blind salt m (these ∷ more) a b l h =
    let first = run_blind salt m these.calls a b l h.0 in
    let purged = purge_blind m these.gone _ _ first.1 in
    let rest = purged_run_blind salt m more (after_purge salt a these) (after_purge salt b these) purged h.1 in
    (ap (λ v. v ++ replies_over salt m (after_purge salt a these) more) first.0 ∙ ap (λ v. replies_to m these.calls (replies_of salt b these.calls) ++ v) rest.0, rest.1)
