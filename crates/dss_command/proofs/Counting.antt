-- How many fewer entries there are after some were purged.
use Rattle.std.specs.Prelude.{◌≡◌, ℕ, ◌+◌, ◌≤◌, not, Bool, true, false, cond, List, [], ◌∷◌, filter, fold, length, Option, Some, None, IsSome, is_some, refl}
use Rattle.std.proofs.Common.{arith, sym, ap, ◌∙◌, subst}
use Rattle.std.proofs.lemmas.Cmp.{nat_cmp_total}
use Rattle.std.proofs.lemmas.List.{length-map}
use Rattle.std.proofs.Math.Nat.{min-eq_left}
use Rattle.std.specs.Ordering.{eq_by_cmp, nat_cmp}
use Rattle.std.specs.FinMap.{entries, entries_sorted, get, get-entries, len, len-entries, nat_cmp-IsAntisymmetric, remove}
use Rattle.std.specs.FinMap.Entries.{find, find-where_key, is_sorted-where_key, length_without, where_key}
use Rattle.entity_core.specs.Airspace.{Airspace, Entities, EntityKey, key_cmp}
use Rattle.entity_core.specs.Search.{all_in, has_kind}
use Rattle.entity_core.specs.declared.entity.Entity.{Entity}
use Rattle.entity_core.specs.declared.nature.Kind.{Kind}
use Rattle.entity_core.specs.declared.nature.Kind.TheVariants.{Constraint, Intent}
use Rattle.entity_core.proofs.Entries.{entries-remove}
use Rattle.entity_core.proofs.Keys.{key_exact, key_total}
use Rattle.entity_purge.specs.declared.purge_item.PurgeItem.{PurgeItem}
use Rattle.entity_purge.specs.declared.purge_item.PurgeItem.TheVariants as gone
use Rattle.entity_purge.specs.PurgeItem.{CanPurgeAll, CanPurge, without_items, without_item}
use Rattle.space_core.specs.Space.{max_count}
use Rattle.dss_command.specs.PurgeCounts.{IsLess, how_many_subscriptions, nothing, one_more, with_one}
use Rattle.dss_command.specs.declared.purged.PurgeCounts.{PurgeCounts}

-- Two filters can be swapped.
swapped : {X : Type 0} (p q : X → Bool) (xs : List X) → filter p (filter q xs) ≡ filter q (filter p xs)
swapped p q [] = refl
swapped p q (x ∷ xs) =
    let rest = swapped p q xs in
    elim (p x) as (λ b. p x ≡ b → filter p (cond (q x) (x ∷ filter q xs) (filter q xs)) ≡ filter q (cond b (x ∷ filter p xs) (filter p xs))) [
      | true ↦ λ t. elim (q x) as (λ c. q x ≡ c → filter p (cond c (x ∷ filter q xs) (filter q xs)) ≡ cond c (x ∷ filter q (filter p xs)) (filter q (filter p xs))) [
        | true ↦ λ s. ap (λ b. cond b (x ∷ filter p (filter q xs)) (filter p (filter q xs))) t ∙ ap (λ ys. x ∷ ys) rest
        | false ↦ λ s. rest
      ] refl
      | false ↦ λ t. elim (q x) as (λ c. filter p (cond c (x ∷ filter q xs) (filter q xs)) ≡ filter q (filter p xs)) [
        | true ↦ ap (λ b. cond b (x ∷ filter p (filter q xs)) (filter p (filter q xs))) t ∙ rest
        | false ↦ rest
      ]
    ] refl

some_of : {X : Type 0} (b : Bool) (o : Option X) → IsSome o → is_some (cond b o None) ≡ b
some_of true (Some x) is = refl
some_of false (Some x) is = refl
some_of true None is = is
some_of false None is = refl

-- There is one entry less of a kind if the removed one was of that kind.
less_of_kind : (m : Entities) (k : EntityKey) (kind : Kind) → IsSome (get m k) → length (all_in (remove m k) kind) + cond (has_kind kind k) 1 0 ≡ length (all_in m kind)
unfolding all_in
less_of_kind m k kind there =
    let p : EntityKey → Bool = has_kind kind in
    let others : EntityKey → Bool = λ x. not (eq_by_cmp key_cmp k x) in
    let es = entries m in
    let kept = where_key key_cmp p es in
    let sorted = is_sorted-where_key key_cmp p es (entries_sorted m) in
    let left : length (all_in (remove m k) kind) ≡ length (where_key key_cmp others kept) =
    length-map (filter (λ (e : EntityKey × Entity). p e.0) (entries (remove m k))) (λ e. e.1)
    ∙ ap (λ (xs : List (EntityKey × Entity)). length (filter (λ e. p e.0) xs)) (entries-remove key_total key_exact m k)
    ∙ ap length (swapped (λ (e : EntityKey × Entity). p e.0) (λ e. others e.0) es) in
    let was : length (all_in m kind) ≡ length kept = length-map (filter (λ (e : EntityKey × Entity). p e.0) es) (λ e. e.1) in
    let found : is_some (find key_cmp k kept) ≡ p k =
    ap is_some (find-where_key key_cmp p k (λ x t. ap p (sym (key_exact k x t))) es)
    ∙ some_of (p k) (find key_cmp k es) (subst IsSome (get-entries m k) there) in
    let one : cond (p k) 1 0 + length (where_key key_cmp others kept) ≡ length kept =
    subst (λ (b : Bool). cond b 1 0 + length (where_key key_cmp others kept) ≡ length kept) found (length_without key_cmp key_total k kept sorted) in
    omega arith

-- There is one subscription less.
less_subscriptions : (a : Airspace) (id : ℕ) → IsSome (get a.subscriptions id) → how_many_subscriptions (without_item a (gone.Subscription id)) + 1 ≡ how_many_subscriptions a
less_subscriptions a id there =
    let m = a.subscriptions in
    let es = entries m in
    let others : ℕ → Bool = λ x. not (eq_by_cmp nat_cmp id x) in
    let left : len (remove m id) ≡ length (where_key nat_cmp others es) =
    len-entries (remove m id) ∙ ap length (entries-remove nat_cmp_total nat_cmp-IsAntisymmetric m id) in
    let found : is_some (find nat_cmp id es) ≡ true = some_of true (find nat_cmp id es) (subst IsSome (get-entries m id) there) in
    let one : 1 + length (where_key nat_cmp others es) ≡ length es =
    subst (λ (b : Bool). cond b 1 0 + length (where_key nat_cmp others es) ≡ length es) found (length_without nat_cmp nat_cmp_total id es (entries_sorted m)) in
    let was : len m ≡ length es = len-entries m in
    omega arith

-- States that these counts are the difference between two airspaces, and that none is above the
-- maximum.
pub record CountsTo (n : ℕ) (a b : Airspace) (told : PurgeCounts) : Type 0 where
  pub less : IsLess a b told
  pub intents : told.intents ≤ n
  pub constraints : told.constraints ≤ n
  pub subscriptions : told.subscriptions ≤ n

pub counts_nothing : (a : Airspace) → CountsTo 0 a a nothing
counts_nothing a = record {
  less = record { intents = omega arith; constraints = omega arith; subscriptions = omega arith };
  intents = omega arith;
  constraints = omega arith;
  subscriptions = omega arith;
}

-- A count below its maximum increases.
goes_on : (n count : ℕ) → count ≤ n → n + 1 ≤ max_count → one_more count ≡ count + 1
goes_on n count few room = min-eq_left (omega arith)

one_less : (n : ℕ) (a b : Airspace) (told : PurgeCounts) (g : PurgeItem) → n + 1 ≤ max_count → CanPurge g b → CountsTo n a b told → CountsTo (n + 1) a (without_item b g) (with_one told g)
one_less n a b told (gone.Entity Intent id) room can to =
    let m : Entities = b.entities in
    let here = less_of_kind m (Intent, id) Intent can in
    let there = less_of_kind m (Intent, id) Constraint can in
    let on = goes_on n told.intents to.intents room in
    let few = to.intents in
    let i = to.less.intents in
    let c = to.less.constraints in
    let x = to.constraints in
    let y = to.subscriptions in
    record {
      less = record { intents = omega arith; constraints = omega arith; subscriptions = to.less.subscriptions };
      intents = omega arith;
      constraints = omega arith;
      subscriptions = omega arith;
    }
one_less n a b told (gone.Entity Constraint id) room can to =
    let m : Entities = b.entities in
    let here = less_of_kind m (Constraint, id) Constraint can in
    let there = less_of_kind m (Constraint, id) Intent can in
    let on = goes_on n told.constraints to.constraints room in
    let few = to.constraints in
    let i = to.less.intents in
    let c = to.less.constraints in
    let x = to.intents in
    let y = to.subscriptions in
    record {
      less = record { intents = omega arith; constraints = omega arith; subscriptions = to.less.subscriptions };
      intents = omega arith;
      constraints = omega arith;
      subscriptions = omega arith;
    }
one_less n a b told (gone.Subscription id) room can to =
    let here = less_subscriptions b id can.0 in
    let on = goes_on n told.subscriptions to.subscriptions room in
    let few = to.subscriptions in
    let s = to.less.subscriptions in
    let x = to.intents in
    let y = to.constraints in
    record {
      less = record { intents = to.less.intents; constraints = to.less.constraints; subscriptions = omega arith };
      intents = omega arith;
      constraints = omega arith;
      subscriptions = omega arith;
    }

wider : (n m : ℕ) (a b : Airspace) (told : PurgeCounts) → n ≤ m → CountsTo n a b told → CountsTo m a b told
wider n m a b told more to =
    let x = to.intents in
    let y = to.constraints in
    let z = to.subscriptions in
    record { less = to.less; intents = omega arith; constraints = omega arith; subscriptions = omega arith }

-- The counts increase with each purged item, as long as they are below the maximum.
pub all_less : (gs : List PurgeItem) (n m : ℕ) (a b : Airspace) (told : PurgeCounts) → n + length gs ≤ m → m ≤ max_count → CanPurgeAll gs b → CountsTo n a b told → CountsTo m a (without_items gs b) (fold with_one told gs)
all_less [] n m a b told fit room can to = wider n m a b told (omega arith) to
all_less (g ∷ gs) n m a b told fit room can to =
    all_less gs (n + 1) m a (without_item b g) (with_one told g) (omega arith) room can.1 (one_less n a b told g (omega arith) can.0 to)
