-- Lemmas: properties of all stored entries, after changes.
use Rattle.std.specs.Prelude.{◌≡◌, Bool, true, false, List, [], ◌∷◌, Some, cond}
use Rattle.std.proofs.Common.{subst}
use Rattle.std.proofs.lemmas.Option.{same_Some}
use Rattle.std.specs.Ordering.{eq_by_cmp}
use Rattle.std.specs.declared.cmp.Ordering.TheVariants.{Less, Equal, Greater}
use Rattle.std.specs.List.{AllByRecursion}
use Rattle.std.specs.FinMap as maps
use Rattle.std.specs.FinMap.Entries.{put, where_key, by_order}
use Rattle.entity_core.specs.Airspace.{EntityKey, key_cmp}
use Rattle.entity_core.specs.declared.entity.Entity.{Entity}

-- ---- properties of entries

pub all_found : (P : Entity → Type 0) (es : List (EntityKey × Entity)) (q : EntityKey) (x : Entity) → AllByRecursion (λ e. P e.1) es → maps.find key_cmp q es ≡ Some x → P x
all_found P [] q x all h = cc
all_found P (e ∷ es) q x all h =
    elim (eq_by_cmp key_cmp q e.0) as (λ b. cond b (Some e.1) (maps.find key_cmp q es) ≡ Some x → P x) [
      | true ↦ λ s. subst P (same_Some e.1 x s) all.0
      | false ↦ λ s. all_found P es q x all.1 s
    ] h

pub all_put : (P : Entity → Type 0) (k : EntityKey) (x : Entity) (es : List (EntityKey × Entity)) → P x → AllByRecursion (λ e. P e.1) es → AllByRecursion (λ e. P e.1) (put key_cmp k x es)
all_put P k x [] p all = (p, tt)
all_put P k x (e ∷ es) p all =
    elim (key_cmp k e.0) as (λ r. AllByRecursion (λ e. P e.1) (by_order r ((k, x) ∷ e ∷ es) ((e.0, x) ∷ es) (e ∷ put key_cmp k x es))) [
      | Less ↦ (p, all)
      | Equal ↦ (p, all.1)
      | Greater ↦ (all.0, all_put P k x es p all.1)
    ]

pub all_where : (P : Entity → Type 0) (p : EntityKey → Bool) (es : List (EntityKey × Entity)) → AllByRecursion (λ e. P e.1) es → AllByRecursion (λ e. P e.1) (where_key key_cmp p es)
all_where P p [] all = tt
all_where P p (e ∷ es) all =
    elim (p e.0) as (λ b. AllByRecursion (λ e. P e.1) (cond b (e ∷ where_key key_cmp p es) (where_key key_cmp p es))) [
      | true ↦ (all.0, all_where P p es all.1)
      | false ↦ all_where P p es all.1
    ]

pub all_turned : (P Q : Entity → Type 0) → ((x : Entity) → P x → Q x) → (es : List (EntityKey × Entity)) → AllByRecursion (λ e. P e.1) es → AllByRecursion (λ e. Q e.1) es
all_turned P Q f [] all = tt
all_turned P Q f (e ∷ es) all = (f e.1 all.0, all_turned P Q f es all.1)
