-- A search by index finds exactly the matching entries of the map.
use Rattle.std.specs.Prelude.{◌≡◌, ℕ, zero, suc, ◌≤◌, ◌<◌, ◌%◌, ◌&&◌, ◌||◌, Bool, true, false, List, [], ◌∷◌, length, map, filter, filter_map, nat_eq, Option, Some, Result, Ok, Err, IfOk, refl}
use Rattle.std.proofs.Common.{arith, sym, ap, ◌∙◌, subst}
use Rattle.std.proofs.lemmas.Bool.Decides.{nat_tests}
use Rattle.std.proofs.lemmas.Cmp.{eq_by_cmp_equiv, nat_cmp_total}
use Rattle.std.proofs.lemmas.Option.{same_Some}
use Rattle.std.specs.List.{All}
use Rattle.std.specs.List.Sorted.{IsStrictlySortedBy}
use Rattle.std.specs.Ordering.{nat_cmp, ordering_then}
use Rattle.std.specs.declared.cmp.Ordering.{Ordering}
use Rattle.std.specs.declared.cmp.Ordering.TheVariants.{Less, Equal}
use Rattle.std.specs.BTreeMap.{BTreeMap}
use Rattle.std.specs.BTreeSet.{BTreeSet, contains}
use Rattle.std.specs.FinMap.{entries, get, get-from_entries, nat_cmp-IsAntisymmetric}
use Rattle.grid_core.specs.Extent.{Extent, Region, Meet, any_meet, meets, region_of}
use Rattle.grid_core.specs.Volumes.{meets_some}
use Rattle.grid_core.proofs.Meets.{any_from, any_meet_test, both, meet_from, meet_to}
use Rattle.entity_core.specs.declared.entity.Entity.{Entity}
use Rattle.entity_core.specs.declared.nature.Kind.{Kind}
use Rattle.entity_core.specs.declared.subscription.Sub.{Sub}
use Rattle.entity_core.specs.Airspace.{EntityKey, key_cmp, key_of}
use Rattle.entity_core.specs.Entity.{kind_index}
use Rattle.entity_core.specs.IdTexts.{same_text}
use Rattle.entity_core.specs.Subscription.{wants}
use Rattle.entity_core.specs.Search.{has_kind, is_for_near, is_not, is_own_near, is_sought, meeting_in, subscribers_in, subscriptions_in}
use Rattle.entity_core.proofs.Keys.{key_total, key_exact}
use Rattle.entity_maps.specs.Entities.{entity_map, pair_of}
use Rattle.entity_maps.specs.OwnKeys.{own_key}
use Rattle.entity_maps.specs.Sorted.{keyed}
use Rattle.entity_maps.specs.Subscriptions.{subscription_map}
use Rattle.space_memory.specs.CellIndex as entities
use Rattle.space_memory.specs.CellIndex.{IsMarked, Mark, holder_of}
use Rattle.space_memory.specs.IndexedSubscriptions as subscriptions
use Rattle.space_memory.specs.IndexedSubscriptions.{volumes_of}
use Rattle.space_memory.specs.Found.{AllPassing, Judges, MeetsNear, OnlyPassing, entity_of, is_own_of, is_sought_of}
use Rattle.std.specs.Int.{bit_at}
use Rattle.space_memory.specs.Near.{HasMeeting, IsAt, Part}
use Rattle.space_memory.proofs.CellSets.{equal_is}
use Rattle.space_memory.proofs.IndexedMaps.{same_kind}
use Rattle.space_memory.proofs.Named.{all_named}
use Rattle.space_memory.proofs.SubscriptionIndexes.{own}

second_of : (a b : Bool) → (a && b) ≡ true → b ≡ true
second_of true b h = h
second_of false b h = cc

first_of : (a b : Bool) → (a && b) ≡ true → a ≡ true
first_of true b h = refl
first_of false b h = cc

-- ---- entities

equal_numbers : (a b : ℕ) → nat_eq a b ≡ true → a ≡ b
equal_numbers a b h = grind (arith, nat_tests, h)

has_the_kind : (kind : Kind) (k : EntityKey) → has_kind kind k ≡ true → k.0 ≡ kind
has_the_kind kind k h = same_kind k.0 kind (equal_numbers (kind_index k.0) (kind_index kind) h)

same_numbers : (n : ℕ) → nat_cmp n n ≡ Equal
same_numbers n = equal_is (nat_cmp n n) ((eq_by_cmp_equiv nat_cmp_total).refl n)

own_kind : (kind : Kind) (i : ℕ) → has_kind kind (kind, i) ≡ true
own_kind kind i = let e : kind_index kind ≡ kind_index kind = refl in grind (arith, nat_tests)

pub rising : (kind : Kind) (i j : ℕ) → nat_cmp i j ≡ Less → key_cmp (kind, i) (kind, j) ≡ Less
rising kind i j h = ap (λ (r : Ordering). ordering_then r (nat_cmp i j)) (same_numbers (kind_index kind)) ∙ h

pub own_of : (es : List Entity) (k : EntityKey) (x : Entity) → get (entity_map es) k ≡ Some x → key_of x ≡ k
own_of es k x at = own_key es k x (sym (get-from_entries key_total (keyed pair_of es) k) ∙ at)

module _ (es : List Entity) (kind : Kind) (areas : List Region) (except : Option ℕ) (part : Part) (bits : ℕ) (e : Entity) (at : get (entity_map es) (kind, part.0) ≡ Some e) where
  -- Whether an entity is excluded depends only on its own id.
  left_out : is_not except (kind, e.id) ≡ is_not except (kind, part.0)
  left_out = ap (λ (k : EntityKey). is_not except (kind, k.1)) (own_of es (kind, part.0) e at)

  pub entity_judged : (answer : Bool) → is_not except (kind, e.id) ≡ true → (answer ≡ true → any_meet e.volumes areas ≡ true)
      → ((v : Extent) (j : ℕ) (a : Region) → IsAt e.volumes part.1 v → IsAt areas j a → bit_at bits (j % 64) ≡ 1 → meets (region_of v) a ≡ true → answer ≡ true)
      → Judges (entity_of (entity_map es) kind) (λ (x : Entity). x.volumes) (is_sought_of kind areas except) areas part bits answer
  entity_judged answer other sound whole = record {
    sound = λ x l yes. subst (λ (y : Entity). is_sought kind areas except ((kind, part.0), y) ≡ true) (same_Some e x (sym at ∙ l))
        (both (has_kind kind (kind, part.0)) (is_not except (kind, part.0) && any_meet e.volumes areas) (own_kind kind part.0) (both (is_not except (kind, part.0)) (any_meet e.volumes areas) (sym left_out ∙ other) (sound yes)));
    whole = λ x v j a l t at_v at_a bit meeting. whole v j a (subst (λ (y : Entity). IsAt y.volumes part.1 v) (sym (same_Some e x (sym at ∙ l))) at_v) at_a bit meeting;
  }

  pub entity_left_out : (answer : Bool) → answer ≡ is_not except (kind, e.id) → answer ≡ false → Judges (entity_of (entity_map es) kind) (λ (x : Entity). x.volumes) (is_sought_of kind areas except) areas part bits answer
  entity_left_out answer is out = record {
    sound = λ x l yes. let bad : true ≡ false = sym yes ∙ out in cc;
    whole = λ x v j a l t at_v at_a bit meeting.
        let is_in = first_of (is_not except (kind, part.0)) (any_meet x.volumes areas) (second_of (has_kind kind (kind, part.0)) (is_not except (kind, part.0) && any_meet x.volumes areas) t) in
        is ∙ (left_out ∙ is_in);
  }

module _ (es : List Entity) (marks : BTreeSet Mark) (areas : List Region) (near : BTreeMap Part ℕ) (ids : BTreeSet ℕ) (index : entities.IsIndexOf (entity_map es) marks) (has : HasMeeting marks areas near)
    (kind : Kind) (except : Option ℕ) (rise : IsStrictlySortedBy nat_cmp ids.keys) (only : OnlyPassing (entity_of (entity_map es) kind) (is_sought_of kind areas except) ids)
    (all : AllPassing (entity_of (entity_map es) kind) (λ (e : Entity). e.volumes) (is_sought_of kind areas except) areas near ids) where
  -- The id of each matching entity is among the ids.
  sought_there : (k : EntityKey) (x : Entity) → get (entity_map es) k ≡ Some x → is_sought kind areas except (k, x) ≡ true → (i : ℕ) × ((kind, i) ≡ k) × (contains nat_cmp ids i ≡ true)
  sought_there k x at t =
      let own_k = own_of es k x at in
      let kinds : kind ≡ k.0 = sym (has_the_kind kind k (first_of (has_kind kind k) (is_not except k && any_meet x.volumes areas) t)) in
      let id : x.id ≡ k.1 = ap (λ (q : EntityKey). q.1) own_k in
      let here : (kind, x.id) ≡ k = λ i. (kinds i, id i) in
      let meeting : any_meet x.volumes areas ≡ true = second_of (is_not except k) (any_meet x.volumes areas) (second_of (has_kind kind k) (is_not except k && any_meet x.volumes areas) t) in
      let v = (any_meet_test x.volumes areas (any_meet x.volumes areas) refl).0 meeting in
      let a = v.4 in
      let marked = index k x at in
      let small : v.0 < 32 = (let few : length x.volumes ≤ 32 = marked.few in let l : v.0 < length x.volumes = v.2 in omega arith) in
      let cells : All (IsMarked marks (holder_of x) v.0) v.1.cells = subst (λ (e : Extent). All (IsMarked marks (holder_of x) v.0) e.cells) v.3 (marked.cells v.0 v.1 v.2) in
      let bit = has (holder_of x) v.0 v.1 small cells a.0 a.1 (a.2, a.3) a.4 in
      let at_id : get (entity_map es) (kind, x.id) ≡ Some x = ap (get (entity_map es)) here ∙ at in
      let t_id : is_sought kind areas except ((kind, x.id), x) ≡ true = subst (λ (q : EntityKey). is_sought kind areas except (q, x) ≡ true) (sym here) t in
      let meets_near : MeetsNear x.volumes areas near (x.id, v.0) =
      record { volume = v.1; volume_at = (v.2, v.3); place = a.0; area = a.1; area_at = (a.2, a.3); bit = bit; meeting = meet_to (region_of v.1) a.1 a.4 } in
      (x.id, here, all (x.id, v.0) x at_id t_id meets_near)

  meeting_found : (found : List Entity) → found ≡ filter_map (entity_of (entity_map es) kind) ids.keys → found ≡ meeting_in (entity_map es) kind areas except
  unfolding meeting_in
  meeting_found found h = h ∙ all_named key_cmp key_total key_exact key_of (λ i. (kind, i)) (rising kind) (entity_map es) (own_of es) (is_sought kind areas except) ids.keys rise (λ i x among at. only i x among at) sought_there

  pub meeting_answers : {V E : Type 0} (items : V → List Entity) (r : Result V E) → IfOk r (λ f. items f ≡ filter_map (entity_of (entity_map es) kind) ids.keys) → IfOk r (λ f. items f ≡ meeting_in (entity_map es) kind areas except)
  meeting_answers items (Ok f) h = meeting_found (items f) h
  meeting_answers items (Err e) h = tt

-- ---- subscriptions

-- A subscription has only one volume.
only_volume : (v w : Extent) (i : ℕ) → IsAt (v ∷ []) i w → v ≡ w
only_volume v w zero at = at.1
only_volume v w (suc i) at = absurd (let l : suc i < 1 = at.0 in omega arith)

pub sub_judged : (m : ℕ → Option Sub) (areas : List Region) (test : ℕ × Sub → Bool) (part : Part) (bits : ℕ) (s : Sub) (answer : Bool) → m part.0 ≡ Some s → (answer ≡ true → test (part.0, s) ≡ true)
    → ((j : ℕ) (a : Region) → IsAt areas j a → bit_at bits (j % 64) ≡ 1 → meets (region_of s.volume) a ≡ true → answer ≡ true)
    → Judges m volumes_of test areas part bits answer
sub_judged m areas test part bits s answer at sound whole = record {
  sound = λ x l yes. subst (λ (y : Sub). test (part.0, y) ≡ true) (same_Some s x (sym at ∙ l)) (sound yes);
  whole = λ x v j a l t at_v at_a bit meeting.
      let same : s ≡ x = same_Some s x (sym at ∙ l) in
      let volume : v ≡ s.volume = sym (ap (λ (y : Sub). y.volume) same ∙ only_volume x.volume v part.1 at_v) in
      whole j a at_a bit (subst (λ (e : Extent). meets (region_of e) a ≡ true) volume meeting);
}

module _ (ss : List Sub) (marks : BTreeSet Mark) (areas : List Region) (near : BTreeMap Part ℕ) (ids : BTreeSet ℕ) (index : subscriptions.IsIndexOf (subscription_map ss) marks) (has : HasMeeting marks areas near)
    (rise : IsStrictlySortedBy nat_cmp ids.keys) where
  -- The id of each subscription that passes the test and meets some area is among the ids.
  sub_there : (test : ℕ × Sub → Bool) → AllPassing (get (subscription_map ss)) volumes_of test areas near ids → (id : ℕ) (s : Sub) → get (subscription_map ss) id ≡ Some s → test (id, s) ≡ true → meets_some s.volume areas ≡ true → contains nat_cmp ids id ≡ true
  sub_there test all id s at t meeting =
      let a = any_from (λ a. meets (region_of s.volume) a) (λ a. Meet (region_of s.volume) a) (λ a. meet_from (region_of s.volume) a) areas meeting in
      let bit = has (subscriptions.holder_of s) 0 s.volume (omega arith) (index id s at) a.0 a.1 (a.2, a.3) a.4 in
      let same : s.id ≡ id = own ss id s at in
      let meets_near : MeetsNear (volumes_of s) areas near (s.id, 0) =
      record { volume = s.volume; volume_at = (omega arith, refl); place = a.0; area = a.1; area_at = (a.2, a.3); bit = bit; meeting = meet_to (region_of s.volume) a.1 a.4 } in
      subst (λ (k : ℕ). contains nat_cmp ids k ≡ true) same (all (s.id, 0) s (ap (get (subscription_map ss)) same ∙ at) (subst (λ (k : ℕ). test (k, s) ≡ true) (sym same) t) meets_near)

  passing : (p test : ℕ × Sub → Bool) → ((s : ℕ × Sub) → p s ≡ test s) → ((s : ℕ × Sub) → test s ≡ true → meets_some s.1.volume areas ≡ true) → OnlyPassing (get (subscription_map ss)) test ids → AllPassing (get (subscription_map ss)) volumes_of test areas near ids
      → filter_map (get (subscription_map ss)) ids.keys ≡ map (λ (e : ℕ × Sub). e.1) (filter p (entries (subscription_map ss)))
  passing p test same near_too only all =
      all_named nat_cmp nat_cmp_total nat_cmp-IsAntisymmetric (λ (s : Sub). s.id) (λ i. i) (λ i j h. h) (subscription_map ss) (own ss) p ids.keys rise
      (λ i s among at. same (i, s) ∙ only i s among at)
      (λ id s at t. let u = sym (same (id, s)) ∙ t in (id, refl, sub_there test all id s at u (near_too (id, s) u)))

  wanted_found : (kind : Kind) (found : List Sub) → OnlyPassing (get (subscription_map ss)) (is_for_near kind areas) ids → AllPassing (get (subscription_map ss)) volumes_of (is_for_near kind areas) areas near ids
      → found ≡ filter_map (get (subscription_map ss)) ids.keys → found ≡ subscribers_in (subscription_map ss) kind areas
  unfolding subscribers_in
  wanted_found kind found only all h = h ∙ passing (is_for_near kind areas) (is_for_near kind areas) (λ s. refl) (λ s t. second_of (wants s.1.interest kind) (meets_some s.1.volume areas) t) only all

  or_nothing : (b : Bool) → b ≡ (b || false)
  or_nothing true = refl
  or_nothing false = refl

  own_found : (uss : List ℕ) (area : Region) (found : List Sub) → areas ≡ area ∷ [] → OnlyPassing (get (subscription_map ss)) (is_own_of uss areas) ids → AllPassing (get (subscription_map ss)) volumes_of (is_own_of uss areas) areas near ids
      → found ≡ filter_map (get (subscription_map ss)) ids.keys → found ≡ subscriptions_in (subscription_map ss) uss area
  unfolding subscriptions_in
  own_found uss area found one only all h =
      h ∙ passing (is_own_near uss area) (is_own_of uss areas) (λ s. ap (λ b. same_text s.1.manager uss && b) (or_nothing (meets (region_of s.1.volume) area) ∙ ap (meets_some s.1.volume) (sym one))) (λ s t. second_of (same_text s.1.manager uss) (meets_some s.1.volume areas) t) only all

  pub wanted_answers : {V E : Type 0} (items : V → List Sub) (r : Result V E) (kind : Kind) → OnlyPassing (get (subscription_map ss)) (is_for_near kind areas) ids → AllPassing (get (subscription_map ss)) volumes_of (is_for_near kind areas) areas near ids
      → IfOk r (λ f. items f ≡ filter_map (get (subscription_map ss)) ids.keys) → IfOk r (λ f. items f ≡ subscribers_in (subscription_map ss) kind areas)
  wanted_answers items (Ok f) kind only all h = wanted_found kind (items f) only all h
  wanted_answers items (Err x) kind only all h = tt

  pub own_answers : {V E : Type 0} (items : V → List Sub) (r : Result V E) (uss : List ℕ) (area : Region) → areas ≡ area ∷ [] → OnlyPassing (get (subscription_map ss)) (is_own_of uss areas) ids → AllPassing (get (subscription_map ss)) volumes_of (is_own_of uss areas) areas near ids
      → IfOk r (λ f. items f ≡ filter_map (get (subscription_map ss)) ids.keys) → IfOk r (λ f. items f ≡ subscriptions_in (subscription_map ss) uss area)
  own_answers items (Ok f) uss area one only all h = own_found uss area (items f) one only all h
  own_answers items (Err x) uss area one only all h = tt
