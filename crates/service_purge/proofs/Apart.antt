-- Lemmas: an ended entity does not meet an area that begins later.
use Rattle.std.specs.Prelude.{◌≡◌, ℕ, ◌≤◌, ◌<◌, ◌&&◌, ◌||◌, not, nat_le, nat_lt, int_le, Bool, true, false, List, [], ◌∷◌, map, Option, Some, None, refl}
use Rattle.std.proofs.Common.{arith, ap, ◌∙◌}
use Rattle.std.proofs.lemmas.Cmp.{nat_cmp_total}
use Rattle.std.specs.List.{list_any}
use Rattle.std.specs.FinMap.{get, nat_cmp-IsAntisymmetric}
use Rattle.grid_core.specs.Extent.{Extent, Region, any_meet, any_touch, meets, reaches, region_of, shares}
use Rattle.entity_core.specs.Airspace.{Airspace, Entities, EntityKey, Subscriptions, notified_again}
use Rattle.entity_core.specs.IdTexts.{same_text}
use Rattle.entity_core.specs.Search.{dependents_in, has_kind, is_for_near, is_naming, is_not, is_own_near, is_sought, meeting_in, subscribers_in, subscriptions_in}
use Rattle.entity_core.specs.declared.entity.Entity.{Entity}
use Rattle.entity_core.specs.declared.nature.Kind.{Kind}
use Rattle.entity_core.specs.declared.subscription.Sub.{Sub}
use Rattle.entity_core.proofs.Keys.{key_total, key_exact}
use Rattle.service_notify.specs.Notices.{notices_in, notices_of}
use Rattle.service_purge.specs.Ahead.{BeginAfter, IsUnnamed, is_after}
use Rattle.entity_purge.specs.Purge.{is_referenced_in, HaveEnded, is_due_for_purge, is_due_by, has_ended, has_not_ended, retained, retained_subs, sub_has_ended, purged}
use Rattle.entity_purge.proofs.Maps.{and_false, apart, both_hold, filter_twice}
use Rattle.entity_purge.proofs.Purges.{each_ended, le_holds}

-- ---- one volume and one area

lt_holds : (a b : ℕ) → nat_lt a b ≡ true → a < b
lt_holds a b h = grind arith

not_le : (a b : ℕ) → b < a → nat_le a b ≡ false
not_le a b h = grind arith

times_apart : (until s t : ℕ) (from to : Option ℕ) → t ≤ until → is_after until from ≡ true → shares nat_le (Some s) (Some t) from to ≡ false
times_apart until s t None to h g = cc
times_apart until s t (Some f) to h g =
    let no : nat_le f t ≡ false = not_le f t (let k = lt_holds until f g in omega (arith, h, k)) in
    let one : Bool = nat_le s t && reaches nat_le (Some s) to in
    ap (λ (b : Bool). one && (b && reaches nat_le (Some f) to)) no ∙ and_false one

not_met : (until : ℕ) (v : Extent) (r : Region) → v.time.1 ≤ until → is_after until r.first ≡ true → meets (region_of v) r ≡ false
not_met until v r h g =
    let cells : Bool = any_touch v.cells r.cells in
    let altitudes : Bool = shares int_le (Some v.altitude.0) (Some v.altitude.1) r.lowest r.highest in
    ap (λ (b : Bool). cells && (altitudes && b)) (times_apart until v.time.0 v.time.1 r.first r.last h g)
    ∙ (ap (λ (b : Bool). cells && b) (and_false altitudes) ∙ and_false cells)

pub none_met : (until : ℕ) (v : Extent) (rs : List Region) → v.time.1 ≤ until → BeginAfter until rs → list_any (λ r. meets (region_of v) r) rs ≡ false
none_met until v [] h begin = refl
none_met until v (r ∷ rs) h begin = ap (λ (b : Bool). b || list_any (λ r. meets (region_of v) r) rs) (not_met until v r h begin.0) ∙ none_met until v rs h begin.1

none_meets : (until : ℕ) (es : List Extent) (rs : List Region) → HaveEnded until es → BeginAfter until rs → any_meet es rs ≡ false
none_meets until [] rs ended begin = refl
none_meets until (v ∷ es) rs ended begin = ap (λ (b : Bool). b || any_meet es rs) (none_met until v rs ended.0 begin) ∙ none_meets until es rs ended.1 begin

-- ---- an entity that meets a later area has not ended

pub not_true : (b c : Bool) → (b ≡ true → c ≡ false) → c ≡ true → b ≡ false
not_true true c on h = absurd (apart c h (on refl))
not_true false c on h = refl

met_stays : (until : ℕ) (e : Entity) (areas : List Region) → BeginAfter until areas → any_meet e.volumes areas ≡ true → has_ended until e ≡ false
met_stays until e areas begin met = not_true (has_ended until e) (any_meet e.volumes areas) (λ h. none_meets until e.volumes areas (each_ended until e.volumes h) begin) met

near_stays : (until : ℕ) (s : Sub) (area : Region) → is_after until area.first ≡ true → meets (region_of s.volume) area ≡ true → sub_has_ended until s ≡ false
near_stays until s area begin met = not_true (sub_has_ended until s) (meets (region_of s.volume) area) (λ h. not_met until s.volume area (le_holds s.volume.time.1 until h) begin) met

pub not_ended_stays : (until : ℕ) (m : Entities) (id : ℕ) (s : Sub) → sub_has_ended until s ≡ false → is_due_by until m (id, s) ≡ false
not_ended_stays until m id s h = ap (λ (b : Bool). b && not (is_referenced_in m id)) h

-- ---- searches among the retained entities

pub meeting_ahead : (until : ℕ) (m : Entities) (kind : Kind) (areas : List Region) (except : Option ℕ) → BeginAfter until areas → meeting_in (retained until m) kind areas except ≡ meeting_in m kind areas except
unfolding meeting_in
meeting_ahead until m kind areas except begin =
    ap (map (λ e. e.1)) (filter_twice key_total key_exact (is_sought kind areas except) (has_not_ended until) m (λ k e there t.
    ap not (met_stays until e areas begin (both_hold (is_not except k) (any_meet e.volumes areas) (both_hold (has_kind kind k) (is_not except k && any_meet e.volumes areas) t).1).1)))

pub own_ahead : (until : ℕ) (m : Entities) (subs : Subscriptions) (uss : List ℕ) (area : Region) → is_after until area.first ≡ true → subscriptions_in (retained_subs until m subs) uss area ≡ subscriptions_in subs uss area
unfolding subscriptions_in
own_ahead until m subs uss area begin =
    ap (map (λ s. s.1)) (filter_twice nat_cmp_total nat_cmp-IsAntisymmetric (is_own_near uss area) (λ s. not (is_due_by until m s)) subs (λ id s there t.
    ap not (not_ended_stays until m id s (near_stays until s area begin (both_hold (same_text s.manager uss) (meets (region_of s.volume) area) t).1))))

subscribers_ahead : (until : ℕ) (m : Entities) (subs : Subscriptions) (kind : Kind) (areas : List Region) → ((id : ℕ) (s : Sub) → get subs id ≡ Some s → is_for_near kind areas (id, s) ≡ true → is_due_by until m (id, s) ≡ false)
    → subscribers_in (retained_subs until m subs) kind areas ≡ subscribers_in subs kind areas
unfolding subscribers_in
subscribers_ahead until m subs kind areas stay =
    ap (map (λ s. s.1)) (filter_twice nat_cmp_total nat_cmp-IsAntisymmetric (is_for_near kind areas) (λ s. not (is_due_by until m s)) subs (λ id s there t. ap not (stay id s there t)))

pub notices_ahead : (until : ℕ) (a : Airspace) (kind : Kind) (areas : List Region) → ((id : ℕ) (s : Sub) → get a.subscriptions id ≡ Some s → is_for_near kind areas (id, s) ≡ true → is_due_for_purge until a (id, s) ≡ false)
    → notices_in (purged until a) kind areas ≡ notices_in a kind areas
notices_ahead until a kind areas stay = ap (λ (ss : List Sub). notices_of (map notified_again ss)) (subscribers_ahead until (retained until a.entities) a.subscriptions kind areas stay)

pub dependents_ahead : (until : ℕ) (a : Airspace) (id : ℕ) → IsUnnamed until a id → dependents_in (retained until a.entities) id ≡ dependents_in a.entities id
unfolding dependents_in
dependents_ahead until a id unnamed =
    ap (λ (es : List (EntityKey × Entity)). map (λ e. e.id) (map (λ e. e.1) es)) (filter_twice key_total key_exact (is_naming id) (has_not_ended until) a.entities (λ k e there t.
    ap not (not_true (has_ended until e) (is_naming id (k, e)) (λ h. unnamed k e there h) t)))
