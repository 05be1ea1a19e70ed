-- Lemmas: lists of forward-looking calls.
use Rattle.std.specs.Prelude.{◌≡◌, ℕ, ◌+◌, Bool, true, false, cond, List, [], ◌∷◌, Option, Some, None, option_map, refl}
use Rattle.std.proofs.Common.{sym, ap, ◌∙◌, subst}
use Rattle.std.proofs.lemmas.Cmp.{nat_cmp_total}
use Rattle.std.specs.Cmp.{IsTotalOrder}
use Rattle.std.specs.declared.cmp.Ordering.{Ordering}
use Rattle.std.specs.Ordering.{eq_by_cmp}
use Rattle.std.specs.FinMap.{FinMap, get, get-insert, get-remove, insert, remove}
use Rattle.grid_core.specs.Extent.{Extent}
use Rattle.entity_core.specs.Airspace.{Airspace, Entities, EntityKey, IsAirspace, Subscriptions, key_of, notified_if, notified_where, with_subscription}
use Rattle.entity_core.specs.Entity.{kind_of}
use Rattle.entity_core.specs.Search.{is_for_near}
use Rattle.entity_core.specs.declared.entity.Entity.{Entity}
use Rattle.entity_core.specs.declared.subscription.Sub.{Sub}
use Rattle.entity_core.proofs.Changes.{told_once, told_was}
use Rattle.entity_core.proofs.Keys.{key_total}
use Rattle.policy_core.specs.declared.scope.Caller.{Caller}
use Rattle.policy_core.specs.declared.call.Call.{Call}
use Rattle.policy_core.specs.declared.call.Put.{Put}
use Rattle.policy_core.specs.declared.call.SubPut.{SubPut}
use Rattle.policy_core.specs.declared.call.Operation.{Operation}
use Rattle.policy_core.specs.declared.call.Operation.TheVariants.{NoRoute, NoMethod, Malformed, Query, Read, Create, Update, Delete, ReadAvail, SetAvail, QuerySub, ReadSub, CreateSub, UpdateSub, DeleteSub}
use Rattle.policy_core.specs.declared.rule.Rule.{Rule}
use Rattle.policy_core.specs.Policy.{first_broken}
use Rattle.policy_core.specs.Missing.{missing_for}
use Rattle.policy_core.specs.Standing.{depended_of, found_of, stated_of, sub_of}
use Rattle.service_notify.specs.Notices.{notifies, touched, volumes_of}
use Rattle.service_step.specs.Step.{created, delete_effect, delete_sub_effect, effect, stored_with, read_effect, read_sub_effect, step, step_by, sub_stored_as, update_effect, update_sub_effect, updated}
use Rattle.service_step.proofs.Preserves.{steps_keep}
use Rattle.service_calls.specs.Run.{airspace_after}
use Rattle.service_purge.specs.Ahead.{LooksAhead, RunCommutes, RunIsInvisible, ReturnsSub}
use Rattle.entity_purge.specs.Purge.{IsPartlyPurged, is_due_for_purge, is_due_by, has_ended, retained, purged}
use Rattle.service_purge.proofs.Commutes.{commutes}
use Rattle.service_purge.proofs.Facts.{RulesSeeTheSame, get_ahead, same_first, sees_ahead}
use Rattle.service_purge.proofs.Leaves.{stays_alone}
use Rattle.service_purge.proofs.Replies.{purge_unseen}
use Rattle.entity_purge.proofs.Chunks.{part_proper, same_serial}

-- ---- a partly purged airspace

same_staying : (until : ℕ) (a b : Airspace) → IsPartlyPurged until a b → retained until b.entities ≡ retained until a.entities
same_staying until a b part = ap (λ (x : Airspace). x.entities) part.same

-- A subscription that is not due in an airspace is not due after a part of it is purged.
part_goes : (until : ℕ) (a b : Airspace) (id : ℕ) (s : Sub) → IsPartlyPurged until a b → is_due_for_purge until a (id, s) ≡ false → is_due_for_purge until b (id, s) ≡ false
part_goes until a b id s part h = ap (λ (m : Entities). is_due_by until m (id, s)) (same_staying until a b part) ∙ h

found_part : (until : ℕ) (a b : Airspace) (op : Operation) (e : Entity) → IsPartlyPurged until a b → found_of b op ≡ Some e → found_of a op ≡ Some e
found_part until a b NoRoute e part h = cc
found_part until a b NoMethod e part h = cc
found_part until a b (Malformed kind) e part h = cc
found_part until a b (Query kind area) e part h = cc
found_part until a b (Read kind id) e part h = part.entities (kind, id) e h
found_part until a b (Create id put) e part h = part.entities (kind_of put.nature, id) e h
found_part until a b (Update id ovn put) e part h = part.entities (kind_of put.nature, id) e h
found_part until a b (Delete kind id ovn) e part h = part.entities (kind, id) e h
found_part until a b (ReadAvail uss) e part h = cc
found_part until a b (SetAvail uss old availability) e part h = cc
found_part until a b (QuerySub area) e part h = cc
found_part until a b (ReadSub id) e part h = cc
found_part until a b (CreateSub id put) e part h = cc
found_part until a b (UpdateSub id version put) e part h = cc
found_part until a b (DeleteSub id version) e part h = cc

shows_part : (until : ℕ) (a b : Airspace) (caller : Option Caller) (op : Operation) (id : ℕ) → IsPartlyPurged until a b → ReturnsSub b caller op id → ReturnsSub a caller op id
shows_part until a b caller NoRoute id part h = h
shows_part until a b caller NoMethod id part h = h
shows_part until a b caller (Malformed kind) id part h = h
shows_part until a b caller (Query kind area) id part h = h
shows_part until a b caller (Read kind k) id part h = h
shows_part until a b caller (Create k put) id part h = h
shows_part until a b caller (Update k ovn put) id part h = h
shows_part until a b caller (Delete kind k ovn) id part h = h
shows_part until a b caller (ReadAvail uss) id part h = h
shows_part until a b caller (SetAvail uss old availability) id part h = h
shows_part until a b caller (QuerySub area) id part h = (h.0, part.subscriptions id h.0 h.1, h.2)
shows_part until a b caller (ReadSub k) id part h = h
shows_part until a b caller (CreateSub k put) id part h = h
shows_part until a b caller (UpdateSub k version put) id part h = h
shows_part until a b caller (DeleteSub k version) id part h = h

-- ---- calls stay forward-looking

part_found : (until : ℕ) (a b : Airspace) (k : EntityKey) → IsPartlyPurged until a b → ((e : Entity) → get a.entities k ≡ Some e → has_ended until e ≡ false) → get b.entities k ≡ get a.entities k
part_found until a b k part names =
    sym (get_ahead until b.entities k (λ e there. names e (part.entities k e there)))
    ∙ (ap (λ (m : Entities). get m k) (same_staying until a b part) ∙ get_ahead until a.entities k names)

told_part : (until : ℕ) (a b : Airspace) (op : Operation) (s : ℕ × Sub) → IsPartlyPurged until a b → ((e : Entity) → found_of a op ≡ Some e → has_ended until e ≡ false) → notifies b op s ≡ notifies a op s
told_part until a b NoRoute s part names = refl
told_part until a b NoMethod s part names = refl
told_part until a b (Malformed kind) s part names = refl
told_part until a b (Query kind area) s part names = refl
told_part until a b (Read kind id) s part names = refl
told_part until a b (Create id put) s part names = refl
told_part until a b (Update id ovn put) s part names =
    ap (λ (o : Option Entity). is_for_near (kind_of put.nature) (touched (volumes_of o) put.volumes) s) (part_found until a b (kind_of put.nature, id) part names)
told_part until a b (Delete kind id ovn) s part names =
    ap (λ (o : Option Entity). is_for_near kind (touched (volumes_of o) []) s) (part_found until a b (kind, id) part names)
told_part until a b (ReadAvail uss) s part names = refl
told_part until a b (SetAvail uss old availability) s part names = refl
told_part until a b (QuerySub area) s part names = refl
told_part until a b (ReadSub id) s part names = refl
told_part until a b (CreateSub id put) s part names = refl
told_part until a b (UpdateSub id version put) s part names = refl
told_part until a b (DeleteSub id version) s part names = refl

look_part : (until : ℕ) (a b : Airspace) (c : Call) → IsPartlyPurged until a b → LooksAhead until a c → LooksAhead until b c
look_part until a b c part look = record {
  begins = look.begins;
  names = λ e h. look.names e (found_part until a b c.op e part h);
  names_sub = λ id s is there. part_goes until a b id s part (look.names_sub id s is (part.subscriptions id s there));
  told = λ id s there h. part_goes until a b id s part (look.told id s (part.subscriptions id s there) (sym (told_part until a b c.op (id, s) part look.names) ∙ h));
  shows = λ id h k e there ended. look.shows id (shows_part until a b c.caller c.op id part h) k e (part.entities k e there) ended;
}

sees_part : (until : ℕ) (a b : Airspace) (c : Call) → IsPartlyPurged until a b → LooksAhead until a c → RulesSeeTheSame b a c
sees_part until a b c part look =
    let own = sees_ahead until b c (look_part until a b c part look) in
    let other = sees_ahead until a c look in
    record {
      found = sym own.found ∙ (ap (λ (x : Airspace). found_of x c.op) part.same ∙ other.found);
      stated = sym own.stated ∙ (ap (λ (x : Airspace). stated_of x c.op) part.same ∙ other.stated);
      sub = sym own.sub ∙ (ap (λ (x : Airspace). sub_of x c.op) part.same ∙ other.sub);
      depended = sym own.depended ∙ (ap (λ (x : Airspace). depended_of x c.op) part.same ∙ other.depended);
      missing = sym own.missing ∙ (ap (λ (x : Airspace). missing_for x c.caller c.op) part.same ∙ other.missing);
      serial = same_serial until a b part;
    }

-- ---- entities after a call in both airspaces

record IsPart (a b : Airspace) : Type 0 where
  entities : (k : EntityKey) (e : Entity) → get b.entities k ≡ Some e → get a.entities k ≡ Some e
  subscriptions : (id : ℕ) (s : Sub) → get b.subscriptions id ≡ Some s → get a.subscriptions id ≡ Some s

still_insert : {X : Type 0} (b : Bool) (v x : X) (p q : Option X) → (q ≡ Some x → p ≡ Some x) → cond b (Some v) q ≡ Some x → cond b (Some v) p ≡ Some x
still_insert true v x p q part h = h
still_insert false v x p q part h = part h

part_insert : {K X : Type 0} {R : K → K → Ordering} (o : IsTotalOrder R) (m n : FinMap R X) (k : K) (v : X) → ((j : K) (x : X) → get n j ≡ Some x → get m j ≡ Some x) → (j : K) (x : X) → get (insert n k v) j ≡ Some x → get (insert m k v) j ≡ Some x
part_insert {R = R} o m n k v part j x h =
    get-insert o m k v j ∙ still_insert (eq_by_cmp R j k) v x (get m j) (get n j) (part j x) (sym (get-insert o n k v j) ∙ h)

still_remove : {X : Type 0} (b : Bool) (x : X) (p q : Option X) → (q ≡ Some x → p ≡ Some x) → cond b None q ≡ Some x → cond b None p ≡ Some x
still_remove true x p q part h = h
still_remove false x p q part h = part h

part_remove : {K X : Type 0} {R : K → K → Ordering} (o : IsTotalOrder R) (m n : FinMap R X) (k : K) → ((j : K) (x : X) → get n j ≡ Some x → get m j ≡ Some x) → (j : K) (x : X) → get (remove n k) j ≡ Some x → get (remove m k) j ≡ Some x
part_remove {R = R} o m n k part j x h =
    get-remove o m k j ∙ still_remove (eq_by_cmp R j k) x (get m j) (get n j) (part j x) (sym (get-remove o n k j) ∙ h)

part_told : (test : ℕ × Sub → Bool) (m n : Subscriptions) → ((id : ℕ) (s : Sub) → get n id ≡ Some s → get m id ≡ Some s) → (id : ℕ) (s : Sub) → get (notified_where test n) id ≡ Some s → get (notified_where test m) id ≡ Some s
part_told test m n part id s h =
    let was = told_was test n id s h in
    told_once m test id ∙ (ap (option_map (λ x. (notified_if test (id, x)).1)) (part id was.0 was.1) ∙ ap (λ (x : Sub). Some x) was.2)

part_kept : (a b : Airspace) (old : List Extent) (e : Entity) → IsPart a b → IsPart (stored_with a old e) (stored_with b old e)
part_kept a b old e part = record {
  entities = part_insert key_total a.entities b.entities (key_of e) e part.entities;
  subscriptions = part_told (is_for_near (kind_of e.nature) (touched old e.volumes)) a.subscriptions b.subscriptions part.subscriptions;
}

part_update : (salt : List ℕ) (a b : Airspace) (uss : List ℕ) (id : ℕ) (put : Put) (o : Option Entity) → b.serial ≡ a.serial → IsPart a b → IsPart (update_effect salt a uss id put o).0 (update_effect salt b uss id put o).0
part_update salt a b uss id put None n part = part
part_update salt a b uss id put (Some e) n part =
    subst (λ (k : ℕ). IsPart (stored_with a e.volumes (updated salt (a.serial + 1) id put e)) (stored_with b e.volumes (updated salt (k + 1) id put e))) (sym n)
    (part_kept a b e.volumes (updated salt (a.serial + 1) id put e) part)

part_delete : (a b : Airspace) (uss : List ℕ) (k : EntityKey) (o : Option Entity) → IsPart a b → IsPart (delete_effect a uss k o).0 (delete_effect b uss k o).0
part_delete a b uss k None part = part
part_delete a b uss k (Some e) part = record {
  entities = part_remove key_total a.entities b.entities k part.entities;
  subscriptions = part_told (is_for_near k.0 (touched e.volumes [])) a.subscriptions b.subscriptions part.subscriptions;
}

part_with_sub : (a b : Airspace) (s : Sub) → IsPart a b → IsPart (with_subscription a s) (with_subscription b s)
part_with_sub a b s part = record {
  entities = part.entities;
  subscriptions = part_insert nat_cmp_total a.subscriptions b.subscriptions s.id s part.subscriptions;
}

part_update_sub : (salt : List ℕ) (a b : Airspace) (uss : List ℕ) (id : ℕ) (put : SubPut) (o : Option Sub) → b.serial ≡ a.serial → IsPart a b → IsPart (update_sub_effect salt a uss id put o).0 (update_sub_effect salt b uss id put o).0
part_update_sub salt a b uss id put None n part = part
part_update_sub salt a b uss id put (Some s) n part =
    let new : ℕ → Sub = λ k. sub_stored_as salt (k + 1) s.manager s.index id put in
    subst (λ (k : ℕ). IsPart (with_subscription a (new a.serial)) (with_subscription b (new k))) (sym n) (part_with_sub a b (new a.serial) part)

part_delete_sub : (a b : Airspace) (id : ℕ) (o : Option Sub) → IsPart a b → IsPart (delete_sub_effect a id o).0 (delete_sub_effect b id o).0
part_delete_sub a b id None part = part
part_delete_sub a b id (Some s) part = record {
  entities = part.entities;
  subscriptions = part_remove nat_cmp_total a.subscriptions b.subscriptions id part.subscriptions;
}

part_read : (a b : Airspace) (uss : List ℕ) (o : Option Entity) → IsPart a b → IsPart (read_effect a uss o).0 (read_effect b uss o).0
part_read a b uss None part = part
part_read a b uss (Some e) part = part

part_read_sub : (a b : Airspace) (o : Option Sub) → IsPart a b → IsPart (read_sub_effect a o).0 (read_sub_effect b o).0
part_read_sub a b None part = part
part_read_sub a b (Some s) part = part

effect_part : (salt : List ℕ) (a b : Airspace) (caller : Option Caller) (op : Operation) → b.serial ≡ a.serial → found_of b op ≡ found_of a op → sub_of b op ≡ sub_of a op → IsPart a b
    → IsPart (effect salt a caller op).0 (effect salt b caller op).0
effect_part salt a b None op n found sub part = part
effect_part salt a b (Some caller) NoRoute n found sub part = part
effect_part salt a b (Some caller) NoMethod n found sub part = part
effect_part salt a b (Some caller) (Malformed kind) n found sub part = part
effect_part salt a b (Some caller) (Query kind area) n found sub part = part
effect_part salt a b (Some caller) (Read kind id) n found sub part =
    subst (λ (o : Option Entity). IsPart (read_effect a caller.uss (get a.entities (kind, id))).0 (read_effect b caller.uss o).0) (sym found) (part_read a b caller.uss (get a.entities (kind, id)) part)
effect_part salt a b (Some caller) (Create id put) n found sub part =
    let new : ℕ → Entity = λ k. created salt (k + 1) caller.uss id put in
    subst (λ (k : ℕ). IsPart (stored_with a [] (new a.serial)) (stored_with b [] (new k))) (sym n) (part_kept a b [] (new a.serial) part)
effect_part salt a b (Some caller) (Update id ovn put) n found sub part =
    let there : Option Entity = get a.entities (kind_of put.nature, id) in
    subst (λ (o : Option Entity). IsPart (update_effect salt a caller.uss id put there).0 (update_effect salt b caller.uss id put o).0) (sym found) (part_update salt a b caller.uss id put there n part)
effect_part salt a b (Some caller) (Delete kind id ovn) n found sub part =
    let there : Option Entity = get a.entities (kind, id) in
    subst (λ (o : Option Entity). IsPart (delete_effect a caller.uss (kind, id) there).0 (delete_effect b caller.uss (kind, id) o).0) (sym found) (part_delete a b caller.uss (kind, id) there part)
effect_part salt a b (Some caller) (ReadAvail uss) n found sub part = part
effect_part salt a b (Some caller) (SetAvail uss old availability) n found sub part = record { entities = part.entities; subscriptions = part.subscriptions }
effect_part salt a b (Some caller) (QuerySub area) n found sub part = part
effect_part salt a b (Some caller) (ReadSub id) n found sub part =
    let there : Option Sub = get a.subscriptions id in
    subst (λ (o : Option Sub). IsPart (read_sub_effect a there).0 (read_sub_effect b o).0) (sym sub) (part_read_sub a b there part)
effect_part salt a b (Some caller) (CreateSub id put) n found sub part =
    let new : ℕ → Sub = λ k. sub_stored_as salt (k + 1) caller.uss 0 id put in
    subst (λ (k : ℕ). IsPart (with_subscription a (new a.serial)) (with_subscription b (new k))) (sym n) (part_with_sub a b (new a.serial) part)
effect_part salt a b (Some caller) (UpdateSub id version put) n found sub part =
    let there : Option Sub = get a.subscriptions id in
    subst (λ (o : Option Sub). IsPart (update_sub_effect salt a caller.uss id put there).0 (update_sub_effect salt b caller.uss id put o).0) (sym sub) (part_update_sub salt a b caller.uss id put there n part)
effect_part salt a b (Some caller) (DeleteSub id version) n found sub part =
    let there : Option Sub = get a.subscriptions id in
    subst (λ (o : Option Sub). IsPart (delete_sub_effect a id there).0 (delete_sub_effect b id o).0) (sym sub) (part_delete_sub a b id there part)

step_by_part : (salt : List ℕ) (a b : Airspace) (c : Call) (r : Option Rule) → RulesSeeTheSame b a c → IsPart a b → IsPart (step_by salt a c r).0 (step_by salt b c r).0
step_by_part salt a b c None sees part = effect_part salt a b c.caller c.op sees.serial sees.found sees.sub part
step_by_part salt a b c (Some p) sees part = part

step_part : (salt : List ℕ) (a b : Airspace) (t : ℕ) (c : Call) → RulesSeeTheSame b a c → IsPart a b → IsPart (step salt a t c).0 (step salt b t c).0
unfolding step
step_part salt a b t c sees part =
    subst (λ (r : Option Rule). IsPart (step_by salt a c (first_broken a t c)).0 (step_by salt b c r).0) (sym (same_first b a t c sees)) (step_by_part salt a b c (first_broken a t c) sees part)

-- ---- lists of calls

pub one_part : (until : ℕ) (salt : List ℕ) (a b : Airspace) (t : ℕ) (c : Call) → IsPartlyPurged until a b → LooksAhead until a c → IsPartlyPurged until (step salt a t c).0 (step salt b t c).0
one_part until salt a b t c part look =
    let kept = step_part salt a b t c (sees_part until a b c part look) (record { entities = part.entities; subscriptions = part.subscriptions }) in
    record {
      entities = kept.entities;
      subscriptions = kept.subscriptions;
      same = sym (stays_alone until salt b t c (look_part until a b c part look)) ∙ (ap (λ (x : Airspace). purged until (step salt x t c).0) part.same ∙ stays_alone until salt a t c look);
    }

pub one_unseen : (until : ℕ) (salt : List ℕ) (a b : Airspace) (t : ℕ) (c : Call) → IsAirspace a → IsPartlyPurged until a b → LooksAhead until a c → (step salt b t c).1 ≡ (step salt a t c).1
one_unseen until salt a b t c proper part look =
    sym (purge_unseen until salt b t c (part_proper until a b part proper) (look_part until a b c part look))
    ∙ (ap (λ (x : Airspace). (step salt x t c).1) part.same ∙ purge_unseen until salt a t c proper look)

pub run_unseen : RunIsInvisible
run_unseen until salt [] a b proper part all = (refl, part)
run_unseen until salt (c ∷ cs) a b proper part all =
    let now = one_unseen until salt a b c.0 c.1 proper part all.0 in
    let rest = run_unseen until salt cs (step salt a c.0 c.1).0 (step salt b c.0 c.1).0 (steps_keep salt a c.0 c.1 proper) (one_part until salt a b c.0 c.1 part all.0) all.1 in
    (λ i. now i ∷ rest.0 i, rest.1)

pub run_commutes : RunCommutes
run_commutes until salt [] a all = refl
run_commutes until salt (c ∷ cs) a all =
    ap (λ (x : Airspace). airspace_after salt x cs) (commutes until salt a c all.0)
    ∙ run_commutes until salt cs (step salt a c.0 c.1).0 all.1
