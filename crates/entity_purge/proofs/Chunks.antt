-- A purge in chunks.
use Rattle.std.specs.Prelude.{◌≡◌, ℕ, ◌≤◌, ◌&&◌, not, Bool, true, false, Some, refl}
use Rattle.std.proofs.Common.{sym, ap, ◌∙◌, subst}
use Rattle.std.proofs.lemmas.Cmp.{nat_cmp_total}
use Rattle.std.proofs.lemmas.Option.{same_Some}
use Rattle.std.specs.FinMap.{get, nat_cmp-IsAntisymmetric}
use Rattle.entity_core.specs.Airspace.{Airspace, Entities, EntityKey, IsAirspace}
use Rattle.entity_core.specs.declared.entity.Entity.{Entity}
use Rattle.entity_core.specs.declared.subscription.Sub.{Sub}
use Rattle.entity_core.proofs.Changes.{stayed, stayed_sub}
use Rattle.entity_core.proofs.Keys.{key_total, key_exact}
use Rattle.entity_purge.specs.Purge.{IsPartlyPurged, ChunksMakePurges, PurgedIsPartly, is_due_for_purge, is_due_by, has_ended, has_not_ended, is_referenced_in, less_entity, less_subscription, retained, retained_subs, sub_has_ended, purged}
use Rattle.entity_purge.proofs.Maps.{apart, kept_all, kept_less, kept_was}
use Rattle.entity_purge.proofs.Purges.{entity_was, found_staying, named_by_one, once_purged, sub_was, purges_join, who_names}

pub purged_partly : PurgedIsPartly
purged_partly u until a h = record {
  entities = λ k e there. (entity_was u a k e there).0;
  subscriptions = λ id s there. (sub_was u a id s there).0;
  same = purges_join u until a h;
}

pub same_serial : (until : ℕ) (a b : Airspace) → IsPartlyPurged until a b → b.serial ≡ a.serial
same_serial until a b part = ap (λ (x : Airspace). x.serial) part.same

pub part_proper : (until : ℕ) (a b : Airspace) → IsPartlyPurged until a b → IsAirspace a → IsAirspace b
part_proper until a b part proper = record {
  keyed = λ k e there. proper.keyed k e (part.entities k e there);
  own = λ id s there. proper.own id s (part.subscriptions id s there);
  told = λ id s there. subst (λ (n : ℕ). s.index ≤ n) (sym (same_serial until a b part)) (proper.told id s (part.subscriptions id s there));
}

further : (until : ℕ) (a b c : Airspace) → IsPartlyPurged until a b → IsPartlyPurged until b c → IsPartlyPurged until a c
further until a b c one two = record {
  entities = λ k e there. one.entities k e (two.entities k e there);
  subscriptions = λ id s there. one.subscriptions id s (two.subscriptions id s there);
  same = two.same ∙ one.same;
}

less_one : (until : ℕ) (b : Airspace) (k : EntityKey) (e : Entity) → get b.entities k ≡ Some e → has_ended until e ≡ true → IsPartlyPurged until b (less_entity b k)
less_one until b k e there ended = record {
  entities = λ j x h. stayed b.entities k j x h;
  subscriptions = λ id s h. h;
  same = once_purged until (less_entity b k) b
      (kept_less key_total key_exact (has_not_ended until) b.entities k (λ x h. ap not (subst (λ (y : Entity). has_ended until y ≡ true) (same_Some e x (sym there ∙ h)) ended)))
      refl refl refl;
}

less_sub : (until : ℕ) (b : Airspace) (id : ℕ) (s : Sub) → get b.subscriptions id ≡ Some s → is_due_for_purge until b (id, s) ≡ true → IsPartlyPurged until b (less_subscription b id)
less_sub until b id s there gone =
    let m : Entities = retained until b.entities in
    record {
      entities = λ k e h. h;
      subscriptions = λ j x h. stayed_sub b.subscriptions id j x h;
      same = once_purged until (less_subscription b id) b refl
          (kept_less nat_cmp_total nat_cmp-IsAntisymmetric (λ x. not (is_due_by until m x)) b.subscriptions id (λ x h. ap not (subst (λ (y : Sub). is_due_for_purge until b (id, y) ≡ true) (same_Some s x (sym there ∙ h)) gone)))
          refl refl;
    }

nothing_goes : (until : ℕ) (b : Airspace) → ((k : EntityKey) (e : Entity) → get b.entities k ≡ Some e → has_ended until e ≡ false) → ((id : ℕ) (s : Sub) → get b.subscriptions id ≡ Some s → is_due_for_purge until b (id, s) ≡ false) → purged until b ≡ b
nothing_goes until b lasts stay =
    let m : Entities = retained until b.entities in
    let es : m ≡ b.entities = kept_all key_total key_exact (has_not_ended until) b.entities (λ k e h. ap not (lasts k e h)) in
    let ss : retained_subs until m b.subscriptions ≡ b.subscriptions = kept_all nat_cmp_total nat_cmp-IsAntisymmetric (λ x. not (is_due_by until m x)) b.subscriptions (λ id s h. ap not (stay id s h)) in
    λ i. record { entities = es i; subscriptions = ss i; availabilities = b.availabilities; serial = b.serial }

-- A subscription that a retained intent references is referenced.
staying_named : (until : ℕ) (m : Entities) (id : ℕ) → is_referenced_in (retained until m) id ≡ true → is_referenced_in m id ≡ true
staying_named until m id h =
    let by = who_names (retained until m) id h in
    let was = kept_was (λ e. not (has_ended until e)) (get m by.0) by.1 (sym (found_staying until m by.0) ∙ by.2) in
    named_by_one m id by.0 by.1 was.0 by.3

unnamed_goes : (until : ℕ) (m : Entities) (id : ℕ) (s : Sub) → sub_has_ended until s ≡ true → is_referenced_in m id ≡ false → is_due_by until (retained until m) (id, s) ≡ true
unnamed_goes until m id s ended free =
    elim (is_referenced_in (retained until m) id) as (λ b. is_referenced_in (retained until m) id ≡ b → sub_has_ended until s && not b ≡ true) [
      | true ↦ λ t. absurd (apart (is_referenced_in m id) (staying_named until m id t) free)
      | false ↦ λ t. ap (λ (b : Bool). b && true) ended
    ] refl

named_on : (until : ℕ) (m : Entities) (id : ℕ) (s : Sub) → (sub_has_ended until s ≡ true → is_referenced_in m id ≡ true) → is_due_by until m (id, s) ≡ false
named_on until m id s named =
    elim (sub_has_ended until s) as (λ b. sub_has_ended until s ≡ b → b && not (is_referenced_in m id) ≡ false) [
      | true ↦ λ t. ap not (named t)
      | false ↦ λ t. refl
    ] refl

all_done : (until : ℕ) (b : Airspace) → ((k : EntityKey) (e : Entity) → get b.entities k ≡ Some e → has_ended until e ≡ false) → ((id : ℕ) (s : Sub) → get b.subscriptions id ≡ Some s → sub_has_ended until s ≡ true → is_referenced_in b.entities id ≡ true) → purged until b ≡ b
all_done until b lasts named =
    let es : retained until b.entities ≡ b.entities = kept_all key_total key_exact (has_not_ended until) b.entities (λ k e h. ap not (lasts k e h)) in
    nothing_goes until b lasts (λ id s there. ap (λ (m : Entities). is_due_by until m (id, s)) es ∙ named_on until b.entities id s (named id s there))

pub chunks_make : ChunksMakePurges
chunks_make = record {
  nothing = λ until a. record { entities = λ k e h. h; subscriptions = λ id s h. h; same = refl };
  more = λ until a b part. record {
    entity = λ k e there ended. further until a b (less_entity b k) part (less_one until b k e there ended);
    subscription = λ id s there gone. further until a b (less_subscription b id) part (less_sub until b id s there gone);
    further = λ c two. further until a b c part two;
    unnamed = λ id s there ended free. further until a b (less_subscription b id) part (less_sub until b id s there (unnamed_goes until b.entities id s ended free));
    done = λ lasts named. sym (all_done until b lasts named) ∙ part.same;
    all = λ lasts stay. sym (nothing_goes until b lasts stay) ∙ part.same;
  };
}
