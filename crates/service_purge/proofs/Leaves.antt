-- Lemmas: a forward-looking call leaves airspaces that differ only by a purge.
use Rattle.std.specs.Prelude.{◌≡◌, ℕ, ◌+◌, ◌&&◌, not, Bool, true, false, cond, List, [], Option, Some, None, option_map, refl}
use Rattle.std.proofs.Common.{arith, sym, ap, ◌∙◌, inl, inr}
use Rattle.std.proofs.lemmas.Cmp.{nat_cmp_total}
use Rattle.std.specs.FinMap.{get, insert, remove, same_map, nat_cmp-IsAntisymmetric}
use Rattle.grid_core.specs.Extent.{Extent, Region}
use Rattle.entity_core.specs.Airspace.{Airspace, Entities, EntityKey, VersionedAvailability, Subscriptions, key_of, notified_again, notified_if, notified_where, with_availability, with_subscription, without_entity, without_subscription}
use Rattle.entity_core.specs.Entity.{kind_of, subscription_of}
use Rattle.entity_core.specs.Ovn.{ovn_text}
use Rattle.entity_core.specs.Search.{is_id, is_for_near, is_naming}
use Rattle.entity_core.specs.declared.entity.Entity.{Entity}
use Rattle.entity_core.specs.declared.subscription.Sub.{Sub}
use Rattle.entity_core.proofs.Changes.{got, stayed, told_once}
use Rattle.entity_core.proofs.Keys.{key_total, key_exact}
use Rattle.policy_core.specs.declared.scope.Caller.{Caller}
use Rattle.policy_core.specs.declared.call.Call.{Call}
use Rattle.policy_core.specs.declared.call.Put.{Put}
use Rattle.policy_core.specs.declared.call.SubPut.{SubPut}
use Rattle.policy_core.specs.declared.call.Operation.{Operation}
use Rattle.policy_core.specs.declared.call.Operation.TheVariants.{NoRoute, NoMethod, Malformed, Query, Read, Create, Update, Delete, ReadAvail, SetAvail, QuerySub, ReadSub, CreateSub, UpdateSub, DeleteSub}
use Rattle.policy_core.specs.declared.rule.Rule.{Rule}
use Rattle.policy_core.specs.Policy.{first_broken}
use Rattle.service_notify.specs.Notices.{touched, with_notified}
use Rattle.service_step.specs.Step.{created, delete_effect, delete_sub_effect, effect, stored_with, read_effect, read_sub_effect, step, step_by, sub_stored_as, update_effect, update_sub_effect, updated}
use Rattle.service_purge.specs.Ahead.{LooksAhead, PurgeStaysAlone}
use Rattle.entity_purge.specs.Purge.{is_referenced_in, SameOncePurged, is_due_for_purge, is_due_by, has_ended, has_not_ended, if_kept, kept_where, retained, retained_subs, sub_has_ended, purged}
use Rattle.service_purge.proofs.Facts.{get_ahead, get_sub_ahead, same_first, sees_ahead}
use Rattle.entity_purge.proofs.Maps.{apart, get_kept, insert_twice, kept_was, maps_twice, not_back, remove_twice, same_id}
use Rattle.entity_purge.proofs.Purges.{found_staying, found_subs, gone_unnamed, named_by_one, once_purged, purges_join, who_names}

-- A purged airspace differs from the original only by the purge.
purged_alone : (until : ℕ) (a : Airspace) → SameOncePurged until (purged until a) a
purged_alone until a = purges_join until until a (omega arith)

-- ---- entities

staying_once : (until : ℕ) (m : Entities) → retained until (retained until m) ≡ retained until m
staying_once until m = maps_twice key_total key_exact (has_not_ended until) (has_not_ended until) m (λ k e there t. t)

staying_insert : (until : ℕ) (m : Entities) (k : EntityKey) (e : Entity) → retained until (insert (retained until m) k e) ≡ retained until (insert m k e)
staying_insert until m k e = insert_twice key_total key_exact (has_not_ended until) (has_not_ended until) m k e (λ j x there t. t)

staying_remove : (until : ℕ) (m : Entities) (k : EntityKey) → retained until (remove (retained until m) k) ≡ retained until (remove m k)
staying_remove until m k = remove_twice key_total key_exact (has_not_ended until) (has_not_ended until) m k (λ j x there t. t)

-- ---- subscriptions

-- Holds if each subscription that is due with the entities `m` is also due with the entities `n`.
abbrev pub GoesOn : ℕ → Entities → Entities → Subscriptions → Type 0
GoesOn until m n subs = (id : ℕ) (s : Sub) → get subs id ≡ Some s → is_due_by until m (id, s) ≡ true → is_due_by until n (id, s) ≡ true

stays_on : (until : ℕ) (m n : Entities) (id : ℕ) (s : Sub) → (is_due_by until m (id, s) ≡ true → is_due_by until n (id, s) ≡ true) → not (is_due_by until n (id, s)) ≡ true → not (is_due_by until m (id, s)) ≡ true
stays_on until m n id s on h = not_back (is_due_by until m (id, s)) (is_due_by until n (id, s)) on h

subs_once : (until : ℕ) (m n : Entities) (subs : Subscriptions) → GoesOn until m n subs → retained_subs until n (retained_subs until m subs) ≡ retained_subs until n subs
subs_once until m n subs on =
    maps_twice nat_cmp_total nat_cmp-IsAntisymmetric (λ s. not (is_due_by until n s)) (λ s. not (is_due_by until m s)) subs (λ id s there t. stays_on until m n id s (on id s there) t)

subs_insert : (until : ℕ) (m : Entities) (subs : Subscriptions) (k : ℕ) (s : Sub) → retained_subs until m (insert (retained_subs until m subs) k s) ≡ retained_subs until m (insert subs k s)
subs_insert until m subs k s = insert_twice nat_cmp_total nat_cmp-IsAntisymmetric (λ x. not (is_due_by until m x)) (λ x. not (is_due_by until m x)) subs k s (λ j x there t. t)

subs_remove : (until : ℕ) (m : Entities) (subs : Subscriptions) (k : ℕ) → retained_subs until m (remove (retained_subs until m subs) k) ≡ retained_subs until m (remove subs k)
subs_remove until m subs k = remove_twice nat_cmp_total nat_cmp-IsAntisymmetric (λ x. not (is_due_by until m x)) (λ x. not (is_due_by until m x)) subs k (λ j x there t. t)

-- Notifying a subscription does not change whether it is due.
pub told_goes : (until : ℕ) (m : Entities) (id : ℕ) (b : Bool) (s : Sub) → is_due_by until m (id, cond b (notified_again s) s) ≡ is_due_by until m (id, s)
told_goes until m id true s = refl
told_goes until m id false s = refl

told_kept : (until : ℕ) (m n : Entities) (test : ℕ × Sub → Bool) (id : ℕ) (o : Option Sub) → ((s : Sub) → o ≡ Some s → is_due_by until m (id, s) ≡ true → is_due_by until n (id, s) ≡ true)
    → if_kept (λ s. not (is_due_by until n (id, s))) (option_map (λ s. (notified_if test (id, s)).1) (if_kept (λ s. not (is_due_by until m (id, s))) o))
    ≡ if_kept (λ s. not (is_due_by until n (id, s))) (option_map (λ s. (notified_if test (id, s)).1) o)
told_kept until m n test id None on = refl
told_kept until m n test id (Some s) on =
    let new : Sub = (notified_if test (id, s)).1 in
    elim (is_due_by until m (id, s)) as (λ b. is_due_by until m (id, s) ≡ b
    → if_kept (λ x. not (is_due_by until n (id, x))) (option_map (λ x. (notified_if test (id, x)).1) (cond (not b) (Some s) None)) ≡ cond (not (is_due_by until n (id, new))) (Some new) None) [
      | true ↦ λ t. ap (λ (b : Bool). cond (not b) (Some new) None) (sym (told_goes until n id (test (id, s)) s ∙ on s refl t))
      | false ↦ λ t. refl
    ] refl

subs_told : (until : ℕ) (m n : Entities) (test : ℕ × Sub → Bool) (subs : Subscriptions) → GoesOn until m n subs → retained_subs until n (notified_where test (retained_subs until m subs)) ≡ retained_subs until n (notified_where test subs)
subs_told until m n test subs on =
    let stays : ℕ × Sub → Bool = λ s. not (is_due_by until n s) in
    let found : (x : Subscriptions) (id : ℕ) → get (kept_where stays (notified_where test x)) id ≡ if_kept (λ s. stays (id, s)) (option_map (λ s. (notified_if test (id, s)).1) (get x id)) =
    λ x id. get_kept nat_cmp_total nat_cmp-IsAntisymmetric stays (notified_where test x) id ∙ ap (if_kept (λ s. stays (id, s))) (told_once x test id) in
    same_map nat_cmp_total nat_cmp-IsAntisymmetric (retained_subs until n (notified_where test (retained_subs until m subs))) (retained_subs until n (notified_where test subs)) (λ id.
    found (retained_subs until m subs) id
    ∙ (ap (λ (o : Option Sub). if_kept (λ s. stays (id, s)) (option_map (λ s. (notified_if test (id, s)).1) o)) (found_subs until m subs id)
    ∙ (told_kept until m n test id (get subs id) (on id) ∙ sym (found subs id))))

-- ---- references to a subscription after a change

pub named_one : (id : ℕ) (o : Option ℕ) → is_id id o ≡ true → o ≡ Some id
named_one id None h = cc
named_one id (Some named) h = ap (λ (n : ℕ). Some n) (same_id named id h)

-- If a retained entity references a subscription, the reference is found among the retained
-- entities.
pub still_named : (until : ℕ) (m : Entities) (id : ℕ) (k : EntityKey) (e : Entity) → get m k ≡ Some e → not (has_ended until e) ≡ true → is_naming id (k, e) ≡ true → is_referenced_in (retained until m) id ≡ true
still_named until m id k e there stays names =
    named_by_one (retained until m) id k e (found_staying until m k ∙ (ap (if_kept (λ x. not (has_ended until x))) there ∙ ap (λ (b : Bool). cond b (Some e) None) stays)) names

-- A reference found among the retained entities belongs to an entity that existed before.
pub who_stays : (until : ℕ) (m : Entities) (id : ℕ) → is_referenced_in (retained until m) id ≡ true → (k : EntityKey) × (e : Entity) × (get m k ≡ Some e) × (not (has_ended until e) ≡ true) × (is_naming id (k, e) ≡ true)
who_stays until m id h =
    let by = who_names (retained until m) id h in
    let was = kept_was (λ e. not (has_ended until e)) (get m by.0) by.1 (sym (found_staying until m by.0) ∙ by.2) in
    (by.0, by.1, was.0, was.1, by.3)

pub goes_unless : (until : ℕ) (m n : Entities) (id : ℕ) (s : Sub) → (is_referenced_in n id ≡ true → is_due_by until m (id, s) ≡ true → is_referenced_in m id ≡ true) → is_due_by until m (id, s) ≡ true → is_due_by until n (id, s) ≡ true
goes_unless until m n id s back h =
    let gone = gone_unnamed until m id s h in
    elim (is_referenced_in n id) as (λ b. is_referenced_in n id ≡ b → sub_has_ended until s && not b ≡ true) [
      | true ↦ λ t. absurd (apart (is_referenced_in m id) (back t h) gone.1)
      | false ↦ λ t. ap (λ (b : Bool). b && true) gone.0
    ] refl

-- Putting an entity frees no subscription, and references none that is due.
pub put_goes : (until : ℕ) (m : Entities) (subs : Subscriptions) (k : EntityKey) (e : Entity)
    → ((id : ℕ) (s : Sub) → subscription_of e.nature ≡ Some id → get subs id ≡ Some s → is_due_by until (retained until m) (id, s) ≡ false)
    → GoesOn until (retained until m) (retained until (insert m k e)) subs
put_goes until m subs k e names id s there h =
    goes_unless until (retained until m) (retained until (insert m k e)) id s (λ named gone.
    let by = who_stays until (insert m k e) id named in
    elim (got m k e by.0 by.1 by.2) [
      | inl is ↦ absurd (apart (is_due_by until (retained until m) (id, s)) gone (names id s (named_one id (subscription_of e.nature) (ap (λ (x : Entity). is_naming id (by.0, x)) is.1 ∙ by.4)) there))
      | inr was ↦ still_named until m id by.0 by.1 was.1 by.3 by.4
    ]) h

pub removed_goes : (until : ℕ) (m : Entities) (subs : Subscriptions) (k : EntityKey) → GoesOn until (retained until m) (retained until (remove m k)) subs
removed_goes until m subs k id s there h =
    goes_unless until (retained until m) (retained until (remove m k)) id s (λ named gone.
    let by = who_stays until (remove m k) id named in
    still_named until m id by.0 by.1 (stayed m k by.0 by.1 by.2) by.3 by.4) h

-- ---- changes

kept_with_alone : (until : ℕ) (a : Airspace) (old : List Extent) (e : Entity)
    → ((id : ℕ) (s : Sub) → subscription_of e.nature ≡ Some id → get a.subscriptions id ≡ Some s → is_due_for_purge until a (id, s) ≡ false)
    → SameOncePurged until (stored_with (purged until a) old e) (stored_with a old e)
kept_with_alone until a old e names =
    once_purged until (stored_with (purged until a) old e) (stored_with a old e)
    (staying_insert until a.entities (key_of e) e)
    (subs_told until (retained until a.entities) (retained until (insert a.entities (key_of e) e)) (is_for_near (kind_of e.nature) (touched old e.volumes)) a.subscriptions (put_goes until a.entities a.subscriptions (key_of e) e names))
    refl refl

update_alone : (until : ℕ) (salt : List ℕ) (a : Airspace) (uss : List ℕ) (id : ℕ) (put : Put) (o : Option Entity)
    → ((k : ℕ) (s : Sub) → subscription_of put.nature ≡ Some k → get a.subscriptions k ≡ Some s → is_due_for_purge until a (k, s) ≡ false)
    → SameOncePurged until (update_effect salt (purged until a) uss id put o).0 (update_effect salt a uss id put o).0
update_alone until salt a uss id put None names = purged_alone until a
update_alone until salt a uss id put (Some e) names = kept_with_alone until a e.volumes (updated salt (a.serial + 1) id put e) names

delete_alone : (until : ℕ) (a : Airspace) (uss : List ℕ) (k : EntityKey) (o : Option Entity) → SameOncePurged until (delete_effect (purged until a) uss k o).0 (delete_effect a uss k o).0
delete_alone until a uss k None = purged_alone until a
delete_alone until a uss k (Some e) =
    let areas : List Region = touched e.volumes [] in
    once_purged until (with_notified k.0 areas (without_entity (purged until a) k)) (with_notified k.0 areas (without_entity a k))
    (staying_remove until a.entities k)
    (subs_told until (retained until a.entities) (retained until (remove a.entities k)) (is_for_near k.0 areas) a.subscriptions (removed_goes until a.entities a.subscriptions k))
    refl refl

with_sub_alone : (until : ℕ) (a : Airspace) (s : Sub) → SameOncePurged until (with_subscription (purged until a) s) (with_subscription a s)
with_sub_alone until a s =
    once_purged until (with_subscription (purged until a) s) (with_subscription a s) (staying_once until a.entities) (subs_insert until (retained until a.entities) a.subscriptions s.id s) refl refl

update_sub_alone : (until : ℕ) (salt : List ℕ) (a : Airspace) (uss : List ℕ) (id : ℕ) (put : SubPut) (o : Option Sub) → SameOncePurged until (update_sub_effect salt (purged until a) uss id put o).0 (update_sub_effect salt a uss id put o).0
update_sub_alone until salt a uss id put None = purged_alone until a
update_sub_alone until salt a uss id put (Some s) = with_sub_alone until a (sub_stored_as salt (a.serial + 1) s.manager s.index id put)

delete_sub_alone : (until : ℕ) (a : Airspace) (id : ℕ) (o : Option Sub) → SameOncePurged until (delete_sub_effect (purged until a) id o).0 (delete_sub_effect a id o).0
delete_sub_alone until a id None = purged_alone until a
delete_sub_alone until a id (Some s) =
    once_purged until (without_subscription (purged until a) id) (without_subscription a id) (staying_once until a.entities) (subs_remove until (retained until a.entities) a.subscriptions id) refl refl

stated_alone : (until : ℕ) (a : Airspace) (uss : List ℕ) (stated : VersionedAvailability) → SameOncePurged until (with_availability (purged until a) uss stated) (with_availability a uss stated)
stated_alone until a uss stated =
    once_purged until (with_availability (purged until a) uss stated) (with_availability a uss stated) (staying_once until a.entities) (subs_once until (retained until a.entities) (retained until a.entities) a.subscriptions (λ id s there h. h)) refl refl

read_alone : (until : ℕ) (a : Airspace) (uss : List ℕ) (o : Option Entity) → SameOncePurged until (read_effect (purged until a) uss o).0 (read_effect a uss o).0
read_alone until a uss None = purged_alone until a
read_alone until a uss (Some e) = purged_alone until a

read_sub_alone : (until : ℕ) (a : Airspace) (o : Option Sub) → SameOncePurged until (read_sub_effect (purged until a) o).0 (read_sub_effect a o).0
read_sub_alone until a None = purged_alone until a
read_sub_alone until a (Some s) = purged_alone until a

-- ---- effects

effect_alone : (until : ℕ) (salt : List ℕ) (a : Airspace) (caller : Option Caller) (op : Operation) → LooksAhead until a (record { caller = caller; op = op })
    → SameOncePurged until (effect salt (purged until a) caller op).0 (effect salt a caller op).0
effect_alone until salt a None op look = purged_alone until a
effect_alone until salt a (Some caller) NoRoute look = purged_alone until a
effect_alone until salt a (Some caller) NoMethod look = purged_alone until a
effect_alone until salt a (Some caller) (Malformed kind) look = purged_alone until a
effect_alone until salt a (Some caller) (Query kind area) look = purged_alone until a
effect_alone until salt a (Some caller) (Read kind id) look =
    ap (λ (o : Option Entity). purged until (read_effect (purged until a) caller.uss o).0) (get_ahead until a.entities (kind, id) look.names)
    ∙ read_alone until a caller.uss (get a.entities (kind, id))
effect_alone until salt a (Some caller) (Create id put) look = kept_with_alone until a [] (created salt (a.serial + 1) caller.uss id put) look.names_sub
effect_alone until salt a (Some caller) (Update id ovn put) look =
    let key : EntityKey = (kind_of put.nature, id) in
    ap (λ (o : Option Entity). purged until (update_effect salt (purged until a) caller.uss id put o).0) (get_ahead until a.entities key look.names)
    ∙ update_alone until salt a caller.uss id put (get a.entities key) look.names_sub
effect_alone until salt a (Some caller) (Delete kind id ovn) look =
    ap (λ (o : Option Entity). purged until (delete_effect (purged until a) caller.uss (kind, id) o).0) (get_ahead until a.entities (kind, id) look.names)
    ∙ delete_alone until a caller.uss (kind, id) (get a.entities (kind, id))
effect_alone until salt a (Some caller) (ReadAvail uss) look = purged_alone until a
effect_alone until salt a (Some caller) (SetAvail uss old availability) look = stated_alone until a uss (availability, ovn_text salt (a.serial + 1))
effect_alone until salt a (Some caller) (QuerySub area) look = purged_alone until a
effect_alone until salt a (Some caller) (ReadSub id) look =
    ap (λ (o : Option Sub). purged until (read_sub_effect (purged until a) o).0) (get_sub_ahead until a id (λ s h. look.names_sub id s refl h))
    ∙ read_sub_alone until a (get a.subscriptions id)
effect_alone until salt a (Some caller) (CreateSub id put) look = with_sub_alone until a (sub_stored_as salt (a.serial + 1) caller.uss 0 id put)
effect_alone until salt a (Some caller) (UpdateSub id version put) look =
    ap (λ (o : Option Sub). purged until (update_sub_effect salt (purged until a) caller.uss id put o).0) (get_sub_ahead until a id (λ s h. look.names_sub id s refl h))
    ∙ update_sub_alone until salt a caller.uss id put (get a.subscriptions id)
effect_alone until salt a (Some caller) (DeleteSub id version) look =
    ap (λ (o : Option Sub). purged until (delete_sub_effect (purged until a) id o).0) (get_sub_ahead until a id (λ s h. look.names_sub id s refl h))
    ∙ delete_sub_alone until a id (get a.subscriptions id)

step_alone : (until : ℕ) (salt : List ℕ) (a : Airspace) (c : Call) (r : Option Rule) → LooksAhead until a c → SameOncePurged until (step_by salt (purged until a) c r).0 (step_by salt a c r).0
step_alone until salt a c None look = effect_alone until salt a c.caller c.op look
step_alone until salt a c (Some p) look = purged_alone until a

pub stays_alone : PurgeStaysAlone
unfolding step
stays_alone until salt a t c look =
    ap (λ (r : Option Rule). purged until (step_by salt (purged until a) c r).0) (same_first (purged until a) a t c (sees_ahead until a c look))
    ∙ step_alone until salt a c (first_broken a t c) look
