-- The airspace after a purge.
use Rattle.std.specs.Prelude.{◌≡◌, ℕ, ◌≤◌, ◌&&◌, not, nat_le, Bool, true, false, cond, List, [], ◌∷◌, Option, Some, None, is_some, refl}
use Rattle.std.proofs.Common.{arith, zero, suc, sym, ap, ◌∙◌, subst}
use Rattle.std.proofs.lemmas.Cmp.{nat_cmp_total}
use Rattle.std.specs.List.{AllByRecursion, Any}
use Rattle.std.specs.FinMap.{get, nat_cmp-IsAntisymmetric}
use Rattle.grid_core.specs.Extent.{Extent}
use Rattle.grid_core.specs.Volumes.{span_of}
use Rattle.grid_core.proofs.Spans.{span_is}
use Rattle.entity_core.specs.Airspace.{Airspace, Entities, EntityKey, Subscriptions}
use Rattle.entity_core.specs.Entity.{subscription_of}
use Rattle.entity_core.specs.Search.{is_naming, is_id}
use Rattle.entity_core.specs.declared.entity.Entity.{Entity}
use Rattle.entity_core.specs.declared.subscription.Sub.{Sub}
use Rattle.entity_core.proofs.Keys.{key_total, key_exact}
use Rattle.entity_purge.specs.Purge.{SameOncePurged, HaveEnded, PurgeIsExact, PurgeKeeps, PurgeKeepsReferences, PurgesJoin, EndedIsAll, is_due_for_purge, is_due_by, has_ended, has_not_ended, have_ended, if_kept, is_referenced_in, retained, retained_subs, sub_has_ended, purged}
use Rattle.entity_purge.proofs.Maps.{and_false, apart, both_hold, get_kept, got_some, kept_was, kept_whole, maps_twice, not_back, same_number, some_got, turned_true}

-- ---- what has ended

pub le_holds : (a b : ℕ) → nat_le a b ≡ true → a ≤ b
le_holds a b h = grind arith

pub le_true : (a b : ℕ) → a ≤ b → nat_le a b ≡ true
le_true a b h = grind arith

below_least : (m n : ℕ) (es : List Extent) → AllByRecursion (λ v. v.time.1 ≤ m) es → m ≤ n → AllByRecursion (λ v. v.time.1 ≤ n) es
below_least m n [] all h = tt
below_least m n (v ∷ es) all h = ((let k = all.0 in omega (arith, h, k)), below_least m n es all.1 h)

-- Each volume has ended by the latest end.
ends_within : (es : List Extent) → HaveEnded (span_of es).1 es
ends_within [] = tt
ends_within (v ∷ es) = (span_is (v ∷ es) (span_of (v ∷ es)) refl (omega arith)).last

pub each_ended : (until : ℕ) (es : List Extent) → have_ended until es ≡ true → HaveEnded until es
each_ended until es h = below_least (span_of es).1 until es (ends_within es) (le_holds (span_of es).1 until h)

one_of_all : (P : Extent → Type 0) (es : List Extent) → Any P es → (Q : Extent → Type 0) → AllByRecursion Q es → (v : Extent) × P v × Q v
one_of_all P [] any Q all = absurd (let h = any.2 in omega (arith, h))
one_of_all P (e ∷ es) (zero, v, within, at, is) Q all = (v, is, subst Q at all.0)
one_of_all P (e ∷ es) (suc i, v, within, at, is) Q all = one_of_all P es (i, v, omega (arith, within), at, is) Q all.1

all_ended : (until : ℕ) (es : List Extent) → HaveEnded until es → have_ended until es ≡ true
all_ended until [] all = le_true 0 until (omega arith)
all_ended until (e ∷ es) all =
    let last : ℕ = (span_of (e ∷ es)).1 in
    let ends = one_of_all (λ v. v.time.1 ≡ last) (e ∷ es) (span_is (e ∷ es) (span_of (e ∷ es)) refl (omega arith)).ends (λ v. v.time.1 ≤ until) all in
    le_true last until (subst (λ (n : ℕ). n ≤ until) ends.1 ends.2)

pub ended_all : EndedIsAll
ended_all = record { each = each_ended; all = all_ended }

-- Volumes that have ended by a time have ended by each later time.
pub ended_later : (u v : ℕ) (es : List Extent) → u ≤ v → have_ended u es ≡ true → have_ended v es ≡ true
ended_later u v es h e = le_true (span_of es).1 v (let k = le_holds (span_of es).1 u e in omega (arith, h, k))

pub sub_ended_later : (u v : ℕ) (s : Sub) → u ≤ v → sub_has_ended u s ≡ true → sub_has_ended v s ≡ true
sub_ended_later u v s h e = le_true s.volume.time.1 v (let k = le_holds s.volume.time.1 u e in omega (arith, h, k))

-- ---- lookups

pub found_staying : (until : ℕ) (m : Entities) (k : EntityKey) → get (retained until m) k ≡ if_kept (λ e. not (has_ended until e)) (get m k)
found_staying until m k = get_kept key_total key_exact (has_not_ended until) m k

pub found_subs : (until : ℕ) (m : Entities) (subs : Subscriptions) (id : ℕ) → get (retained_subs until m subs) id ≡ if_kept (λ s. not (is_due_by until m (id, s))) (get subs id)
found_subs until m subs id = get_kept nat_cmp_total nat_cmp-IsAntisymmetric (λ s. not (is_due_by until m s)) subs id

pub purge_exact : PurgeIsExact
purge_exact until a = record {
  entities = found_staying until a.entities;
  subscriptions = found_subs until (retained until a.entities) a.subscriptions;
  availabilities = refl;
  serial = refl;
}

-- An entity found after a purge was there before and has not ended.
pub entity_was : (until : ℕ) (a : Airspace) (k : EntityKey) (e : Entity) → get (purged until a).entities k ≡ Some e → (get a.entities k ≡ Some e) × (has_ended until e ≡ false)
entity_was until a k e h =
    let was = kept_was (λ x. not (has_ended until x)) (get a.entities k) e (sym (found_staying until a.entities k) ∙ h) in
    (was.0, turned_true (has_ended until e) was.1)

pub sub_was : (until : ℕ) (a : Airspace) (id : ℕ) (s : Sub) → get (purged until a).subscriptions id ≡ Some s → (get a.subscriptions id ≡ Some s) × (is_due_for_purge until a (id, s) ≡ false)
sub_was until a id s h =
    let was = kept_was (λ x. not (is_due_for_purge until a (id, x))) (get a.subscriptions id) s (sym (found_subs until (retained until a.entities) a.subscriptions id) ∙ h) in
    (was.0, turned_true (is_due_for_purge until a (id, s)) was.1)

pub purge_keeps : PurgeKeeps
purge_keeps until a proper = record {
  keyed = λ k x h. proper.keyed k x (entity_was until a k x h).0;
  own = λ id s h. proper.own id s (sub_was until a id s h).0;
  told = λ id s h. proper.told id s (sub_was until a id s h).0;
}

-- ---- references to a subscription

pub who_names : (m : Entities) (id : ℕ) → is_referenced_in m id ≡ true → (k : EntityKey) × (e : Entity) × (get m k ≡ Some e) × (is_naming id (k, e) ≡ true)
who_names m id h = some_got key_total key_exact (is_naming id) m h

pub named_by_one : (m : Entities) (id : ℕ) (k : EntityKey) (e : Entity) → get m k ≡ Some e → is_naming id (k, e) ≡ true → is_referenced_in m id ≡ true
named_by_one m id k e h t = got_some key_total key_exact (is_naming id) m k e h t

-- A subscription that a retained entity references is not purged.
pub named_stays : (until : ℕ) (m : Entities) (id : ℕ) (s : Sub) → is_referenced_in m id ≡ true → is_due_by until m (id, s) ≡ false
named_stays until m id s h = ap (λ (b : Bool). sub_has_ended until s && not b) h ∙ and_false (sub_has_ended until s)

pub gone_unnamed : (until : ℕ) (m : Entities) (id : ℕ) (s : Sub) → is_due_by until m (id, s) ≡ true → (sub_has_ended until s ≡ true) × (is_referenced_in m id ≡ false)
gone_unnamed until m id s h =
    let both = both_hold (sub_has_ended until s) (not (is_referenced_in m id)) h in
    (both.0, turned_true (is_referenced_in m id) both.1)

naming : (id : ℕ) (k : EntityKey) (e : Entity) → subscription_of e.nature ≡ Some id → is_naming id (k, e) ≡ true
naming id k e h = ap (is_id id) h ∙ same_number id

kept_there : (p : Sub → Bool) (o : Option Sub) → is_some o ≡ true → ((s : Sub) → o ≡ Some s → p s ≡ true) → is_some (if_kept p o) ≡ true
kept_there p o there passes = ap is_some (kept_whole p o passes) ∙ there

pub purge_keeps_names : PurgeKeepsReferences
purge_keeps_names until a stand k e id h names =
    let m : Entities = retained until a.entities in
    let named : is_referenced_in m id ≡ true = named_by_one m id k e h (naming id k e names) in
    ap is_some (found_subs until m a.subscriptions id)
    ∙ kept_there (λ s. not (is_due_by until m (id, s))) (get a.subscriptions id) (stand k e id (entity_was until a k e h).0 names) (λ s there. ap not (named_stays until m id s named))

-- ---- consecutive purges

stays_since : (u v : ℕ) (k : EntityKey) (e : Entity) → u ≤ v → has_not_ended v (k, e) ≡ true → has_not_ended u (k, e) ≡ true
stays_since u v k e h t =
    elim (has_ended u e) as (λ b. has_ended u e ≡ b → not b ≡ true) [
      | true ↦ λ s. absurd (apart (has_ended v e) (ended_later u v e.volumes h s) (turned_true (has_ended v e) t))
      | false ↦ λ s. refl
    ] refl

pub staying_join : (u v : ℕ) (m : Entities) → u ≤ v → retained v (retained u m) ≡ retained v m
staying_join u v m h = maps_twice key_total key_exact (has_not_ended v) (has_not_ended u) m (λ k e there t. stays_since u v k e h t)

-- A subscription that is referenced after a later purge is referenced after an earlier one.
named_since : (u v : ℕ) (m : Entities) (id : ℕ) → u ≤ v → is_referenced_in (retained v m) id ≡ true → is_referenced_in (retained u m) id ≡ true
named_since u v m id h t =
    let by = who_names (retained v m) id t in
    let was = kept_was (λ x. not (has_ended v x)) (get m by.0) by.1 (sym (found_staying v m by.0) ∙ by.2) in
    let kept : get (retained u m) by.0 ≡ Some by.1 =
    found_staying u m by.0 ∙ (ap (if_kept (λ x. not (has_ended u x))) was.0 ∙ ap (λ (b : Bool). cond b (Some by.1) None) (stays_since u v by.0 by.1 h was.1)) in
    named_by_one (retained u m) id by.0 by.1 kept by.3

goes_since : (u v : ℕ) (m : Entities) (id : ℕ) (s : Sub) → u ≤ v → is_due_by u (retained u m) (id, s) ≡ true → is_due_by v (retained v m) (id, s) ≡ true
goes_since u v m id s h t =
    let gone = gone_unnamed u (retained u m) id s t in
    elim (is_referenced_in (retained v m) id) as (λ b. is_referenced_in (retained v m) id ≡ b → sub_has_ended v s && not b ≡ true) [
      | true ↦ λ n. absurd (apart (is_referenced_in (retained u m) id) (named_since u v m id h n) gone.1)
      | false ↦ λ n. ap (λ (b : Bool). b && true) (sub_ended_later u v s h gone.0)
    ] refl

subs_join : (u v : ℕ) (m : Entities) (subs : Subscriptions) → u ≤ v → retained_subs v (retained v m) (retained_subs u (retained u m) subs) ≡ retained_subs v (retained v m) subs
subs_join u v m subs h =
    maps_twice nat_cmp_total nat_cmp-IsAntisymmetric (λ s. not (is_due_by v (retained v m) s)) (λ s. not (is_due_by u (retained u m) s)) subs
    (λ id s there t. not_back (is_due_by u (retained u m) (id, s)) (is_due_by v (retained v m) (id, s)) (goes_since u v m id s h) t)

pub purges_join : PurgesJoin
purges_join u v a h =
    let left : Entities = retained v (retained u a.entities) in
    let once : Entities = retained v a.entities in
    let same : left ≡ once = staying_join u v a.entities h in
    let subs : retained_subs v left (retained_subs u (retained u a.entities) a.subscriptions) ≡ retained_subs v once a.subscriptions =
    ap (λ (m : Entities). retained_subs v m (retained_subs u (retained u a.entities) a.subscriptions)) same ∙ subs_join u v a.entities a.subscriptions h in
    λ i. record a { entities = same i; subscriptions = subs i }

-- ---- when two airspaces are equal after a purge

pub once_purged : (until : ℕ) (x y : Airspace) → retained until x.entities ≡ retained until y.entities
    → retained_subs until (retained until y.entities) x.subscriptions ≡ retained_subs until (retained until y.entities) y.subscriptions
    → x.availabilities ≡ y.availabilities → x.serial ≡ y.serial → SameOncePurged until x y
once_purged until x y es ss v n =
    let subs : retained_subs until (retained until x.entities) x.subscriptions ≡ retained_subs until (retained until y.entities) y.subscriptions =
    ap (λ (m : Entities). retained_subs until m x.subscriptions) es ∙ ss in
    λ i. record { entities = es i; subscriptions = subs i; availabilities = v i; serial = n i }
