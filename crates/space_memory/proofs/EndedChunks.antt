-- The entities and subscriptions that have ended, and the chunks in which they are found.
use Rattle.std.specs.Prelude.{◌≡◌, ◌==◌, ℕ, ◌<◌, ◌&&◌, not, Bool, true, false, cond, T, List, [], ◌∷◌, ◌++◌, length, map, filter, Some, None, refl}
use Rattle.std.proofs.Common.{arith, sym, ap, ◌∙◌, subst}
use Rattle.std.proofs.Math.Dec.{eqb-suc-zero}
use Rattle.std.proofs.lemmas.Cmp.{nat_cmp_total, tied_itself}
use Rattle.std.proofs.lemmas.List.{length_push}
use Rattle.std.proofs.lemmas.Option.{same_Some}
use Rattle.std.specs.Cmp.{IsTotalOrder}
use Rattle.std.specs.Ordering.{eq_by_cmp, is_eq, nat_cmp}
use Rattle.std.specs.declared.cmp.Ordering.{Ordering}
use Rattle.std.specs.FinMap as maps
use Rattle.std.specs.FinMap.{FinMap, get, remove, get-from_entries, get-remove}
use Rattle.std.specs.FinMap.Entries.{below_all, is_sorted}
use Rattle.entity_core.proofs.Entries.{first, second, sorted_kept}
use Rattle.entity_core.proofs.Keys.{key_total}
use Rattle.entity_core.specs.Airspace.{Airspace, Entities, EntityKey, key_cmp, key_of}
use Rattle.entity_core.specs.Entity.{kind_of}
use Rattle.entity_core.specs.declared.entity.Entity.{Entity}
use Rattle.entity_core.specs.declared.subscription.Sub.{Sub}
use Rattle.entity_maps.specs.declared.availabilities.AvailabilityEntry.{AvailabilityEntry}
use Rattle.entity_maps.specs.Entities.{InOrder, entity_map, pair_of}
use Rattle.entity_maps.specs.Lists.{airspace_of}
use Rattle.entity_maps.specs.Sorted.{Rise, keyed}
use Rattle.entity_maps.specs.Subscriptions as subs
use Rattle.entity_maps.specs.Subscriptions.{subscription_map}
use Rattle.entity_purge.specs.declared.purge_item.PurgeItem.{PurgeItem}
use Rattle.entity_purge.specs.declared.purge_item.PurgeItem.TheVariants as gone
use Rattle.entity_purge.specs.PurgeItem.{AreDueForPurge, IsPurgeChunk, without_item}
use Rattle.entity_purge.specs.Purge.{has_ended, is_referenced_in, less_entity, less_subscription, sub_has_ended}
use Rattle.entity_purge.proofs.Maps.{below_found, both_hold, turned_true, turned_false}
use Rattle.entity_purge.proofs.Chunks.{chunks_make}
use Rattle.space_memory.specs.Proper.{own_id}
use Rattle.space_memory.specs.Purged.{AreFirst, IsChunkIfAny, ended_in, free_in, is_free}

-- ---- the first elements of a list

pub after_last : {X : Type 0} (xs : List X) (x : X) (ys : List X) → (xs ++ (x ∷ [])) ++ ys ≡ xs ++ (x ∷ ys)
after_last [] x ys = refl
after_last (z ∷ xs) x ys = ap (λ l. z ∷ l) (after_last xs x ys)

not_none : {X : Type 0} (xs : List X) (x : X) → xs ++ (x ∷ []) ≡ [] → ⊥
not_none [] x e = cc
not_none (y ∷ xs) x e = cc

-- A chunk that is full is a prefix of all items.
pub first_full : (most : ℕ) (before : List PurgeItem) (g : PurgeItem) (rest all : List PurgeItem) → before ++ (g ∷ rest) ≡ all → length before < most → AreFirst most (before ++ (g ∷ [])) all
first_full most before g rest all split room = record {
  few = let n = length_push before g in omega (arith, n, room);
  rest = rest;
  split = after_last before g rest ∙ split;
  last = λ none some. absurd (not_none before g none);
}

go_first : (until : ℕ) (xs ys : List PurgeItem) (a : Airspace) → AreDueForPurge until (xs ++ ys) a → AreDueForPurge until xs a
go_first until [] ys a go = tt
go_first until (x ∷ xs) ys a go = (go.0, go_first until xs ys (without_item a x) go.1)

-- ---- lookups in a sorted list

module _ {K X : Type 0} (R : K → K → Ordering) (o : IsTotalOrder R) where
  apart_later : (k q : K) (x : X) (es : List (K × X)) → T (below_all R k es) → maps.find R q es ≡ Some x → eq_by_cmp R q k ≡ false
  apart_later k q x es below h =
      elim (eq_by_cmp R q k) as (λ b. eq_by_cmp R q k ≡ b → b ≡ false) [
        | true ↦ λ t. absurd (below_found R k q x es o below h t)
        | false ↦ λ t. refl
      ] refl

  found_later : (e : K × X) (q : K) (x : X) (es : List (K × X)) → T (below_all R e.0 es) → maps.find R q es ≡ Some x → maps.find R q (e ∷ es) ≡ Some x
  found_later e q x es below h = ap (λ b. cond b (Some e.1) (maps.find R q es)) (apart_later e.0 q x es below h) ∙ h

  found_here : (e : K × X) (es : List (K × X)) → maps.find R e.0 (e ∷ es) ≡ Some e.1
  found_here e es = ap (λ (r : Ordering). cond (is_eq r) (Some e.1) (maps.find R e.0 es)) (tied_itself o e.0)

  left_later : (m : FinMap R X) (e : K × X) (q : K) (x : X) (es : List (K × X)) → T (below_all R e.0 es) → maps.find R q es ≡ Some x → get m q ≡ Some x → get (remove m e.0) q ≡ Some x
  left_later m e q x es below h there = get-remove o m e.0 q ∙ (ap (λ b. cond b None (get m q)) (apart_later e.0 q x es below h) ∙ there)

-- A filtered sorted list.
module _ {K X : Type 0} (R : K → K → Ordering) (o : IsTotalOrder R) (own : X → K) (among : X → Bool) where
  abbrev pair : X → K × X
  pair x = (own x, x)

  keyed_some : (xs : List X) → filter (λ x. among x.1) (keyed pair xs) ≡ keyed pair (filter among xs)
  keyed_some [] = refl
  keyed_some (x ∷ xs) = elim (among x) as (λ b. cond b (pair x ∷ filter (λ y. among y.1) (keyed pair xs)) (filter (λ y. among y.1) (keyed pair xs)) ≡ keyed pair (cond b (x ∷ filter among xs) (filter among xs))) [
    | true ↦ ap (λ l. pair x ∷ l) (keyed_some xs)
    | false ↦ keyed_some xs
  ]

  some_rise : (xs : List X) → Rise R pair xs → Rise R pair (filter among xs)
  some_rise xs rises = subst (λ l. T (is_sorted R l)) (keyed_some xs) (sorted_kept R (λ x. among x.1) (keyed pair xs) rises)

  some_found : (xs : List X) (k : K) (y : X) → Rise R pair xs → maps.find R k (keyed pair (filter among xs)) ≡ Some y → maps.find R k (keyed pair xs) ≡ Some y
  some_found [] k y rises h = h
  some_found (x ∷ xs) k y rises h =
      let below = first _ _ rises in
      let rest = second (below_all R (own x) (keyed pair xs)) _ rises in
      elim (among x) as (λ b. maps.find R k (keyed pair (cond b (x ∷ filter among xs) (filter among xs))) ≡ Some y → maps.find R k (keyed pair (x ∷ xs)) ≡ Some y) [
        | true ↦ λ f. elim (eq_by_cmp R k (own x)) as (λ b. cond b (Some x) (maps.find R k (keyed pair (filter among xs))) ≡ Some y → cond b (Some x) (maps.find R k (keyed pair xs)) ≡ Some y) [
          | true ↦ λ g. g
          | false ↦ λ g. some_found xs k y rest g
        ] f
        | false ↦ λ f. found_later R o (pair x) k y (keyed pair xs) below (some_found xs k y rest f)
      ] h

-- ---- entities

ends : (until : ℕ) (es : List Entity) (a : Airspace) → InOrder es
    → ((k : EntityKey) (e : Entity) → maps.find key_cmp k (keyed pair_of es) ≡ Some e → get a.entities k ≡ Some e) → AreDueForPurge until (ended_in until es) a
ends until [] a rises there = tt
ends until (e ∷ es) a rises there =
    let below = first _ _ rises in
    let rest = second (below_all key_cmp (key_of e) (keyed pair_of es)) _ rises in
    elim (has_ended until e) as (λ b. has_ended until e ≡ b → AreDueForPurge until (map (λ x. gone.Entity (kind_of x.nature) x.id) (cond b (e ∷ filter (λ x. has_ended until x) es) (filter (λ x. has_ended until x) es))) a) [
      | true ↦ λ t. (
        (e, there (key_of e) e (found_here key_cmp key_total (pair_of e) (keyed pair_of es)), t),
        ends until es (less_entity a (key_of e)) rest (λ k x h. left_later key_cmp key_total a.entities (pair_of e) k x (keyed pair_of es) below h
            (there k x (found_later key_cmp key_total (pair_of e) k x (keyed pair_of es) below h))),
      )
      | false ↦ λ t. ends until es a rest (λ k x h. there k x (found_later key_cmp key_total (pair_of e) k x (keyed pair_of es) below h))
    ] refl

-- If no entity of the list has ended, none found has ended.
none_ended : (until : ℕ) (es : List Entity) (k : EntityKey) (e : Entity) → ended_in until es ≡ [] → maps.find key_cmp k (keyed pair_of es) ≡ Some e → has_ended until e ≡ false
none_ended until [] k e none h = cc
none_ended until (x ∷ es) k e none h =
    elim (has_ended until x) as (λ b. has_ended until x ≡ b
    → map (λ y. gone.Entity (kind_of y.nature) y.id) (cond b (x ∷ filter (λ y. has_ended until y) es) (filter (λ y. has_ended until y) es)) ≡ [] → has_ended until e ≡ false) [
      | true ↦ λ t g. cc
      | false ↦ λ t g. elim (eq_by_cmp key_cmp k (key_of x)) as (λ b. cond b (Some x) (maps.find key_cmp k (keyed pair_of es)) ≡ Some e → has_ended until e ≡ false) [
        | true ↦ λ f. ap (has_ended until) (sym (same_Some x e f)) ∙ t
        | false ↦ λ f. none_ended until es k e g f
      ] h
    ] refl none

-- ---- subscriptions

frees : (until : ℕ) (ss : List Sub) (a : Airspace) → subs.InOrder ss
    → ((id : ℕ) (s : Sub) → maps.find nat_cmp id (keyed subs.pair_of ss) ≡ Some s → get a.subscriptions id ≡ Some s) → AreDueForPurge until (free_in until a.entities ss) a
frees until [] a rises there = tt
frees until (s ∷ ss) a rises there =
    let below = first _ _ rises in
    let rest = second (below_all nat_cmp s.id (keyed subs.pair_of ss)) _ rises in
    let later : (id : ℕ) (x : Sub) → maps.find nat_cmp id (keyed subs.pair_of ss) ≡ Some x → get a.subscriptions id ≡ Some x =
    λ id x h. there id x (found_later nat_cmp nat_cmp_total (subs.pair_of s) id x (keyed subs.pair_of ss) below h) in
    elim (is_free until a.entities s) as (λ b. is_free until a.entities s ≡ b → AreDueForPurge until (map (λ x. gone.Subscription x.id) (cond b (s ∷ filter (is_free until a.entities) ss) (filter (is_free until a.entities) ss))) a) [
      | true ↦ λ t.
          let both = both_hold (sub_has_ended until s) (not (is_referenced_in a.entities s.id)) t in (
            (s, there s.id s (found_here nat_cmp nat_cmp_total (subs.pair_of s) (keyed subs.pair_of ss)), both.0, turned_true (is_referenced_in a.entities s.id) both.1),
            frees until ss (less_subscription a s.id) rest (λ id x h. left_later nat_cmp nat_cmp_total a.subscriptions (subs.pair_of s) id x (keyed subs.pair_of ss) below h (later id x h)),
          )
      | false ↦ λ t. frees until ss a rest later
    ] refl

none_free : (until : ℕ) (m : Entities) (ss : List Sub) (id : ℕ) (s : Sub) → free_in until m ss ≡ [] → maps.find nat_cmp id (keyed subs.pair_of ss) ≡ Some s → is_free until m s ≡ false
none_free until m [] id s none h = cc
none_free until m (x ∷ ss) id s none h =
    elim (is_free until m x) as (λ b. is_free until m x ≡ b → map (λ y. gone.Subscription y.id) (cond b (x ∷ filter (is_free until m) ss) (filter (is_free until m) ss)) ≡ [] → is_free until m s ≡ false) [
      | true ↦ λ t g. cc
      | false ↦ λ t g. elim (eq_by_cmp nat_cmp id x.id) as (λ b. cond b (Some x) (maps.find nat_cmp id (keyed subs.pair_of ss)) ≡ Some s → is_free until m s ≡ false) [
        | true ↦ λ f. ap (is_free until m) (sym (same_Some x s f)) ∙ t
        | false ↦ λ f. none_free until m ss id s g f
      ] h
    ] refl none

-- A subscription that has ended and is not free is referenced.
held_by : (ended named : Bool) → ended && not named ≡ false → ended ≡ true → named ≡ true
held_by true named h t = turned_false named h
held_by false named h t = cc

-- ---- chunks

module _ (until most : ℕ) (es : List Entity) (ss : List Sub) (settings : List AvailabilityEntry) (serial : ℕ) where
  found_entity : (k : EntityKey) → get (entity_map es) k ≡ maps.find key_cmp k (keyed pair_of es)
  found_entity k = get-from_entries key_total (keyed pair_of es) k

  found_sub : (id : ℕ) → get (subscription_map ss) id ≡ maps.find nat_cmp id (keyed subs.pair_of ss)
  found_sub id = get-from_entries nat_cmp_total (keyed subs.pair_of ss) id

  -- Entities or subscriptions from a position on are a chunk, if any.
  pub entities_go : (among : Entity → Bool) (found : List PurgeItem) → InOrder es → AreFirst most found (ended_in until (filter among es)) → IsChunkIfAny until most found (airspace_of es ss settings serial)
  entities_go among found rises one some =
      let a : Airspace = airspace_of es ss settings serial in
      record {
        few = one.few;
        go = go_first until found one.rest a
            (subst (λ (gs : List PurgeItem). AreDueForPurge until gs a) (sym one.split)
            (ends until (filter among es) a (some_rise key_cmp key_total key_of among es rises) (λ k e h. found_entity k ∙ some_found key_cmp key_total key_of among es k e rises h)));
        last = λ none room. absurd (some none);
      }

  pub subscriptions_go : (among : Sub → Bool) (found : List PurgeItem) → subs.InOrder ss → AreFirst most found (free_in until (entity_map es) (filter among ss)) → IsChunkIfAny until most found (airspace_of es ss settings serial)
  subscriptions_go among found rises one some =
      let a : Airspace = airspace_of es ss settings serial in
      record {
        few = one.few;
        go = go_first until found one.rest a
            (subst (λ (gs : List PurgeItem). AreDueForPurge until gs a) (sym one.split)
            (frees until (filter among ss) a (some_rise nat_cmp nat_cmp_total (λ (s : Sub). s.id) among ss rises) (λ id s h. found_sub id ∙ some_found nat_cmp nat_cmp_total (λ (s : Sub). s.id) among ss id s rises h)));
        last = λ none room. absurd (some none);
      }

  -- If no entity has ended, the subscriptions found are a chunk.
  pub all_go : (before found : List PurgeItem) → AreFirst most before (ended_in until es) → before ≡ [] → 0 < most → subs.InOrder ss → AreFirst most found (free_in until (entity_map es) ss) → IsPurgeChunk until most found (airspace_of es ss settings serial)
  all_go before found one none room rises two =
      let a : Airspace = airspace_of es ss settings serial in
      record {
        few = two.few;
        go = go_first until found two.rest a (subst (λ (gs : List PurgeItem). AreDueForPurge until gs a) (sym two.split) (frees until ss a rises (λ id s h. found_sub id ∙ h)));
        last = λ empty more. sym ((chunks_make.more until a a (chunks_make.nothing until a)).done
            (λ k e there. none_ended until es k e (one.last none room) (sym (found_entity k) ∙ there))
            (λ id s there ended.
            let h = sym (found_sub id) ∙ there in
            let held = held_by (sub_has_ended until s) (is_referenced_in (entity_map es) s.id) (none_free until (entity_map es) ss id s (two.last empty more) h) ended in
            subst (λ (n : ℕ). is_referenced_in (entity_map es) n ≡ true) (own_id ss id s h) held));
      }

-- Filtering with a test that always passes returns the list.
all_among : {X : Type 0} (xs : List X) → filter (λ (x : X). true) xs ≡ xs
all_among [] = refl
all_among (x ∷ xs) = ap (λ l. x ∷ l) (all_among xs)

pub of_all : {X : Type 0} (f : List X → List PurgeItem) (most : ℕ) (found : List PurgeItem) (xs ys : List X) → xs ≡ ys → AreFirst most found (f xs) → AreFirst most found (f (filter (λ (x : X). true) ys))
of_all {X} f most found xs ys same h = subst (λ (l : List X). AreFirst most found (f l)) (same ∙ sym (all_among ys)) h

-- The chunk of entities is full with this entity.
pub entities_full : (until most : ℕ) (before after : List PurgeItem) (e : Entity) (left rest all es : List Entity) → left ≡ e ∷ rest → has_ended until e ≡ true
    → before ++ ended_in until left ≡ ended_in until all → all ≡ es → length before < most → after ≡ before ++ (gone.Entity (kind_of e.nature) e.id ∷ []) → AreFirst most after (ended_in until es)
entities_full until most before after e left rest all es is ended split same room pushed =
    let g : PurgeItem = gone.Entity (kind_of e.nature) e.id in
    let now : ended_in until (e ∷ rest) ≡ g ∷ ended_in until rest =
    ap (λ b. map (λ x. gone.Entity (kind_of x.nature) x.id) (cond b (e ∷ filter (λ x. has_ended until x) rest) (filter (λ x. has_ended until x) rest))) ended in
    subst (λ (gs : List PurgeItem). AreFirst most gs (ended_in until es)) (sym pushed)
    (first_full most before g (ended_in until rest) (ended_in until es) (ap (λ (gs : List PurgeItem). before ++ gs) (sym now ∙ ap (ended_in until) (sym is)) ∙ (split ∙ ap (ended_in until) same)) room)

-- The chunk of subscriptions is full with this subscription.
pub free_full : (until most : ℕ) (m : Entities) (before after : List PurgeItem) (s : Sub) (left rest all ss : List Sub) → left ≡ s ∷ rest → is_free until m s ≡ true
    → before ++ free_in until m left ≡ free_in until m all → all ≡ ss → length before < most → after ≡ before ++ (gone.Subscription s.id ∷ []) → AreFirst most after (free_in until m ss)
free_full until most m before after s left rest all ss is free split same room pushed =
    let g : PurgeItem = gone.Subscription s.id in
    let now : free_in until m (s ∷ rest) ≡ g ∷ free_in until m rest = ap (λ b. map (λ x. gone.Subscription x.id) (cond b (s ∷ filter (is_free until m) rest) (filter (is_free until m) rest))) free in
    subst (λ (gs : List PurgeItem). AreFirst most gs (free_in until m ss)) (sym pushed)
    (first_full most before g (free_in until m rest) (free_in until m ss) (ap (λ (gs : List PurgeItem). before ++ gs) (sym now ∙ ap (free_in until m) (sym is)) ∙ (split ∙ ap (free_in until m) same)) room)

-- ---- whether anything was found

pub some_entity : (gs : List PurgeItem) (n : ℕ) (empty : Bool) → n ≡ length gs → empty ≡ (n == 0) → empty ≡ false → gs ≡ [] → ⊥
some_entity [] n empty count is some none = cc (ap (λ (k : ℕ). k == 0) count)
some_entity (g ∷ gs) n empty count is some none = cc

pub no_entity : (gs : List PurgeItem) (n : ℕ) (empty : Bool) → n ≡ length gs → empty ≡ (n == 0) → empty ≡ true → gs ≡ []
no_entity [] n empty count is none = refl
no_entity (g ∷ gs) n empty count is none = cc (ap (λ (k : ℕ). k == 0) count, eqb-suc-zero (length gs))
