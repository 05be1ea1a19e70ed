-- Searches of the entities and subscriptions of an airspace return ascending ids.
use Rattle.std.specs.Prelude.{◌≡◌, ℕ, nat_eq, ◌&&◌, Bool, true, false, cond, T, List, [], ◌∷◌, map, filter, Some, None, refl}
use Rattle.std.proofs.Common.{sym, ap, ◌∙◌}
use Rattle.std.specs.List.{AllByRecursion}
use Rattle.std.specs.List.Sorted.{IsStrictlySortedBy}
use Rattle.std.specs.Ordering.{eq_by_cmp, is_eq, is_lt, nat_cmp}
use Rattle.std.specs.declared.cmp.Ordering.{Ordering}
use Rattle.std.specs.declared.cmp.Ordering.TheVariants.{Less}
use Rattle.std.specs.FinMap as maps
use Rattle.std.specs.FinMap.{entries, entries_sorted, get-entries}
use Rattle.std.specs.FinMap.Entries.{below_all, is_sorted}
use Rattle.std.proofs.lemmas.Cmp.{eq_by_cmp_equiv, nat_cmp_total}
use Rattle.grid_core.specs.Extent.{any_meet}
use Rattle.entity_core.specs.Airspace.{Airspace, EntityKey, IsAirspace, key_cmp, key_of}
use Rattle.entity_core.specs.declared.entity.Entity.{Entity}
use Rattle.entity_core.specs.declared.subscription.Sub.{Sub}
use Rattle.entity_core.specs.declared.nature.Nature.{Nature}
use Rattle.entity_core.specs.declared.nature.Nature.TheVariants as natures
use Rattle.entity_core.specs.Entity.{kind_index, kind_of, subscription_of}
use Rattle.entity_core.proofs.Changes.{no_sub_below, one_id}
use Rattle.entity_core.specs.declared.nature.Kind.{Kind}
use Rattle.entity_core.specs.declared.nature.Kind.TheVariants.{Intent, Constraint}
use Rattle.entity_core.specs.Search.{FoundInOrder, all_in, dependents_in, has_kind, is_for_near, is_id, is_naming, is_not, is_own_near, is_sought, meeting_in, subscribers_in, subscriptions_in}
use Rattle.entity_core.proofs.Keys.{key_total, one_key}
use Rattle.entity_core.proofs.Entries.{first, second, less, sorted_kept}

-- Holds if an entry is stored under its own key.
abbrev Own : EntityKey × Entity → Type 0
Own e = key_of e.1 ≡ e.0

pub none_below : (q : EntityKey) (es : List (EntityKey × Entity)) → T (below_all key_cmp q es) → maps.find key_cmp q es ≡ None
none_below q [] h = refl
none_below q (e ∷ es) h =
    ap (λ (r : Ordering). cond (is_eq r) (Some e.1) (maps.find key_cmp q es)) (less (key_cmp q e.0) (first _ _ h))
    ∙ none_below q es (second (is_lt (key_cmp q e.0)) _ h)

own_entries : (es : List (EntityKey × Entity)) → T (is_sorted key_cmp es) → ((k : EntityKey) (x : Entity) → maps.find key_cmp k es ≡ Some x → key_of x ≡ k) → AllByRecursion Own es
own_entries [] s own = tt
own_entries (e ∷ es) s own =
    let later : (k : EntityKey) (x : Entity) → maps.find key_cmp k es ≡ Some x → eq_by_cmp key_cmp k e.0 ≡ false = λ k x h.
    elim (eq_by_cmp key_cmp k e.0) as (λ b. eq_by_cmp key_cmp k e.0 ≡ b → b ≡ false) [
      | true ↦ λ t. let n : None ≡ Some x = sym (none_below e.0 es (first _ _ s)) ∙ (ap (λ (q : EntityKey). maps.find key_cmp q es) (sym (one_key k e.0 t)) ∙ h) in cc
      | false ↦ λ t. refl
    ] refl in (
      own e.0 e.1 (ap (λ (b : Bool). cond b (Some e.1) (maps.find key_cmp e.0 es)) ((eq_by_cmp_equiv key_total).refl e.0)),
      own_entries es (second (below_all key_cmp e.0 es) _ s) (λ k x h. own k x (ap (λ (b : Bool). cond b (Some e.1) (maps.find key_cmp k es)) (later k x h) ∙ h)),
    )

id_below : (kind k l : Kind) (i j : ℕ) → has_kind kind (k, i) ≡ true → has_kind kind (l, j) ≡ true → key_cmp (k, i) (l, j) ≡ Less → nat_cmp i j ≡ Less
id_below Intent Intent Intent i j a b h = h
id_below Constraint Constraint Constraint i j a b h = h
id_below Intent Intent Constraint i j a b h = cc
id_below Intent Constraint Intent i j a b h = cc
id_below Intent Constraint Constraint i j a b h = cc
id_below Constraint Constraint Intent i j a b h = cc
id_below Constraint Intent Constraint i j a b h = cc
id_below Constraint Intent Intent i j a b h = cc

ids_below : (kind : Kind) (e : EntityKey × Entity) (es : List (EntityKey × Entity)) → T (below_all key_cmp e.0 es) → Own e → has_kind kind e.0 ≡ true → AllByRecursion Own es → AllByRecursion (λ f. has_kind kind f.0 ≡ true) es
    → AllByRecursion (λ n. nat_cmp e.1.id n ≡ Less) (map (λ f. f.id) (map (λ f. f.1) es))
ids_below kind e [] s own is all kinds = tt
ids_below kind e (f ∷ es) s own is all kinds =
    let below = id_below kind e.0.0 f.0.0 e.0.1 f.0.1 is kinds.0 (less (key_cmp e.0 f.0) (first _ _ s)) in (
      ap (λ (n : ℕ). nat_cmp n f.1.id) (ap (λ (q : EntityKey). q.1) own) ∙ (ap (λ (n : ℕ). nat_cmp e.0.1 n) (ap (λ (q : EntityKey). q.1) all.0) ∙ below),
      ids_below kind e es (second (is_lt (key_cmp e.0 f.0)) _ s) own is all.1 kinds.1,
    )

rising : (kind : Kind) (es : List (EntityKey × Entity)) → T (is_sorted key_cmp es) → AllByRecursion Own es → AllByRecursion (λ e. has_kind kind e.0 ≡ true) es → IsStrictlySortedBy nat_cmp (map (λ e. e.id) (map (λ e. e.1) es))
unfolding IsStrictlySortedBy
rising kind [] s own kinds = tt
rising kind (e ∷ es) s own kinds =
    (ids_below kind e es (first _ _ s) own.0 kinds.0 own.1 kinds.1, rising kind es (second (below_all key_cmp e.0 es) _ s) own.1 kinds.1)

-- What holds for all entries holds for those that pass a test.
all_kept : (P : EntityKey × Entity → Type 0) (test : EntityKey × Entity → Bool) (es : List (EntityKey × Entity)) → AllByRecursion P es → AllByRecursion P (filter test es)
all_kept P test [] all = tt
all_kept P test (e ∷ es) all =
    elim (test e) as (λ b. AllByRecursion P (cond b (e ∷ filter test es) (filter test es))) [ true ↦ (all.0, all_kept P test es all.1) | false ↦ all_kept P test es all.1 ]

first_true : (a b : Bool) → (a && b) ≡ true → a ≡ true
first_true true b h = refl
first_true false b h = cc

-- If all entries are stored under their own keys, P holds for each entry that passes the test.
all_own_pass : (P : EntityKey × Entity → Type 0) (test : EntityKey × Entity → Bool) → ((e : EntityKey × Entity) → Own e → test e ≡ true → P e) → (es : List (EntityKey × Entity)) → AllByRecursion Own es → AllByRecursion P (filter test es)
all_own_pass P test f [] own = tt
all_own_pass P test f (e ∷ es) own =
    elim (test e) as (λ b. test e ≡ b → AllByRecursion P (cond b (e ∷ filter test es) (filter test es))) [ true ↦ λ t. (f e own.0 t, all_own_pass P test f es own.1) | false ↦ λ t. all_own_pass P test f es own.1 ] refl

-- If all entries are stored under their own keys, those of a kind that pass a test have ascending
-- ids.
filtered : (kind : Kind) (test : EntityKey × Entity → Bool) → ((e : EntityKey × Entity) → Own e → test e ≡ true → has_kind kind e.0 ≡ true) → (a : Airspace) → IsAirspace a
    → IsStrictlySortedBy nat_cmp (map (λ e. e.id) (map (λ e. e.1) (filter test (entries a.entities))))
filtered kind test f a proper =
    let es = entries a.entities in
    let sorted = entries_sorted a.entities in
    let own = own_entries es sorted (λ k x h. proper.keyed k x (get-entries a.entities k ∙ h)) in
    rising kind (filter test es) (sorted_kept key_cmp test es sorted)
    (all_kept Own test es own)
    (all_own_pass (λ e. has_kind kind e.0 ≡ true) test f es own)

-- An entity that references a subscription is an intent.
naming_intent : (id : ℕ) (k : EntityKey) (nature : Nature) → kind_of nature ≡ k.0 → is_id id (subscription_of nature) ≡ true → has_kind Intent k ≡ true
naming_intent id k (natures.Intent state named) is h = ap (λ (kind : Kind). nat_eq (kind_index kind) 0) (sym is)
naming_intent id k natures.Constraint is h = cc

-- ---- subscriptions

-- Holds if an entry is stored under its own id.
abbrev pub OwnId : ℕ × Sub → Type 0
OwnId s = s.1.id ≡ s.0

-- What holds for each subscription found holds for each entry.
pub each_sub : (P : ℕ × Sub → Type 0) (ss : List (ℕ × Sub)) → T (is_sorted nat_cmp ss) → ((k : ℕ) (x : Sub) → maps.find nat_cmp k ss ≡ Some x → P (k, x)) → AllByRecursion P ss
each_sub P [] s h = tt
each_sub P (e ∷ ss) s h =
    let later : (k : ℕ) (x : Sub) → maps.find nat_cmp k ss ≡ Some x → eq_by_cmp nat_cmp k e.0 ≡ false = λ k x f.
    elim (eq_by_cmp nat_cmp k e.0) as (λ b. eq_by_cmp nat_cmp k e.0 ≡ b → b ≡ false) [
      | true ↦ λ t. let n : None ≡ Some x = sym (no_sub_below e.0 ss (first _ _ s)) ∙ (ap (λ (q : ℕ). maps.find nat_cmp q ss) (sym (one_id k e.0 t)) ∙ f) in cc
      | false ↦ λ t. refl
    ] refl in (
      h e.0 e.1 (ap (λ (b : Bool). cond b (Some e.1) (maps.find nat_cmp e.0 ss)) ((eq_by_cmp_equiv nat_cmp_total).refl e.0)),
      each_sub P ss (second (below_all nat_cmp e.0 ss) _ s) (λ k x f. h k x (ap (λ (b : Bool). cond b (Some e.1) (maps.find nat_cmp k ss)) (later k x f) ∙ f)),
    )

sub_ids_below : (e : ℕ × Sub) (ss : List (ℕ × Sub)) → T (below_all nat_cmp e.0 ss) → OwnId e → AllByRecursion OwnId ss → AllByRecursion (λ n. nat_cmp e.1.id n ≡ Less) (map (λ f. f.id) (map (λ f. f.1) ss))
sub_ids_below e [] s own all = tt
sub_ids_below e (f ∷ ss) s own all = (
  ap (λ (n : ℕ). nat_cmp n f.1.id) own ∙ (ap (λ (n : ℕ). nat_cmp e.0 n) all.0 ∙ less (nat_cmp e.0 f.0) (first _ _ s)),
  sub_ids_below e ss (second (is_lt (nat_cmp e.0 f.0)) _ s) own all.1,
)

rising_subs : (ss : List (ℕ × Sub)) → T (is_sorted nat_cmp ss) → AllByRecursion OwnId ss → IsStrictlySortedBy nat_cmp (map (λ e. e.id) (map (λ e. e.1) ss))
unfolding IsStrictlySortedBy
rising_subs [] s own = tt
rising_subs (e ∷ ss) s own = (sub_ids_below e ss (first _ _ s) own.0 own.1, rising_subs ss (second (below_all nat_cmp e.0 ss) _ s) own.1)

subs_kept : (test : ℕ × Sub → Bool) (ss : List (ℕ × Sub)) → AllByRecursion OwnId ss → AllByRecursion OwnId (filter test ss)
subs_kept test [] all = tt
subs_kept test (e ∷ ss) all =
    elim (test e) as (λ b. AllByRecursion OwnId (cond b (e ∷ filter test ss) (filter test ss))) [ true ↦ (all.0, subs_kept test ss all.1) | false ↦ subs_kept test ss all.1 ]

filtered_subs : (test : ℕ × Sub → Bool) (a : Airspace) → IsAirspace a → IsStrictlySortedBy nat_cmp (map (λ e. e.id) (map (λ e. e.1) (filter test (entries a.subscriptions))))
filtered_subs test a proper =
    let ss = entries a.subscriptions in
    let sorted = entries_sorted a.subscriptions in
    rising_subs (filter test ss) (sorted_kept nat_cmp test ss sorted)
    (subs_kept test ss (each_sub OwnId ss sorted (λ k x h. proper.own k x (get-entries a.subscriptions k ∙ h))))

pub found_in_order : (a : Airspace) → IsAirspace a → FoundInOrder a
unfolding meeting_in all_in dependents_in subscriptions_in subscribers_in
found_in_order a proper = record {
  meeting = λ kind areas except. filtered kind (is_sought kind areas except) (λ e own t. first_true (has_kind kind e.0) (is_not except e.0 && any_meet e.1.volumes areas) t) a proper;
  all = λ kind. filtered kind (λ e. has_kind kind e.0) (λ e own t. t) a proper;
  dependents = λ id. filtered Intent (is_naming id) (λ e own t. naming_intent id e.0 e.1.nature (ap (λ (q : EntityKey). q.0) own) t) a proper;
  subscriptions = λ uss area. filtered_subs (is_own_near uss area) a proper;
  subscribers = λ kind areas. filtered_subs (is_for_near kind areas) a proper;
}
