-- A partly purged airspace lacks nothing but what is due.
use Rattle.std.specs.Prelude.{◌≡◌, ℕ, not, Bool, true, false, Some}
use Rattle.std.proofs.Common.{sym, ap, ◌∙◌, subst}
use Rattle.std.proofs.lemmas.Cmp.{nat_cmp_total}
use Rattle.std.proofs.lemmas.Option.{same_Some}
use Rattle.std.specs.FinMap.{get, nat_cmp-IsAntisymmetric}
use Rattle.entity_core.specs.Airspace.{Airspace, EntityKey}
use Rattle.entity_core.specs.declared.entity.Entity.{Entity}
use Rattle.entity_core.specs.declared.subscription.Sub.{Sub}
use Rattle.entity_core.proofs.Keys.{key_total, key_exact}
use Rattle.entity_purge.specs.Purge.{IsPartlyPurged, LacksOnlyDue, PartlyIsPlain, has_ended, has_not_ended, is_due_by, is_due_for_purge, purged, retained}
use Rattle.entity_purge.proofs.Maps.{kept_whole, maps_partly, turned_true}
use Rattle.entity_purge.proofs.Purges.{entity_was, found_staying, found_subs, once_purged, sub_was}

-- A purge retains what is not due.
entity_retained : (until : ℕ) (a : Airspace) (k : EntityKey) (e : Entity) → get a.entities k ≡ Some e → has_ended until e ≡ false → get (purged until a).entities k ≡ Some e
entity_retained until a k e at lasts =
    found_staying until a.entities k
    ∙ (kept_whole (λ x. not (has_ended until x)) (get a.entities k) (λ x h. ap not (subst (λ (y : Entity). has_ended until y ≡ false) (same_Some e x (sym at ∙ h)) lasts)) ∙ at)

sub_retained : (until : ℕ) (a : Airspace) (id : ℕ) (s : Sub) → get a.subscriptions id ≡ Some s → is_due_for_purge until a (id, s) ≡ false → get (purged until a).subscriptions id ≡ Some s
sub_retained until a id s at stays =
    found_subs until (retained until a.entities) a.subscriptions id
    ∙ (kept_whole (λ x. not (is_due_for_purge until a (id, x))) (get a.subscriptions id) (λ x h. ap not (subst (λ (y : Sub). is_due_for_purge until a (id, y) ≡ false) (same_Some s x (sym at ∙ h)) stays)) ∙ at)

plain_of : (until : ℕ) (a b : Airspace) → IsPartlyPurged until a b → LacksOnlyDue until a b
plain_of until a b part = record {
  no_new_entity = part.entities;
  entities_stay = λ k e at lasts. (entity_was until b k e (ap (λ (x : Airspace). get x.entities k) part.same ∙ entity_retained until a k e at lasts)).0;
  no_new_subscription = part.subscriptions;
  subscriptions_stay = λ id s at stays. (sub_was until b id s (ap (λ (x : Airspace). get x.subscriptions id) part.same ∙ sub_retained until a id s at stays)).0;
  availabilities = ap (λ (x : Airspace). x.availabilities) part.same;
  serial = ap (λ (x : Airspace). x.serial) part.same;
}

partly_of : (until : ℕ) (a b : Airspace) → LacksOnlyDue until a b → IsPartlyPurged until a b
partly_of until a b plain = record {
  entities = plain.no_new_entity;
  subscriptions = plain.no_new_subscription;
  same = once_purged until b a
      (maps_partly key_total key_exact (has_not_ended until) b.entities a.entities plain.no_new_entity
      (λ k e at lasts. plain.entities_stay k e at (turned_true (has_ended until e) lasts)))
      (maps_partly nat_cmp_total nat_cmp-IsAntisymmetric (λ s. not (is_due_by until (retained until a.entities) s)) b.subscriptions a.subscriptions plain.no_new_subscription
      (λ id s at stays. plain.subscriptions_stay id s at (turned_true (is_due_for_purge until a (id, s)) stays)))
      plain.availabilities plain.serial;
}

pub partly_plain : PartlyIsPlain
partly_plain until a b = (plain_of until a b, partly_of until a b)
