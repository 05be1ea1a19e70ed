-- Lemmas: a purge before a forward-looking call leaves the same as a purge after it.
use Rattle.std.specs.Prelude.{◌≡◌, ℕ, ◌+◌, ◌≤◌, ◌&&◌, not, nat_le, Bool, true, false, cond, List, [], ◌∷◌, Option, Some, None, is_some, option_map, refl}
use Rattle.std.proofs.Common.{sym, ap, ◌∙◌}
use Rattle.std.proofs.lemmas.Cmp.{nat_cmp_total}
use Rattle.std.specs.Ordering.{eq_by_cmp}
use Rattle.std.specs.FinMap.{get, get-insert, get-remove, insert, remove, same_map, nat_cmp-IsAntisymmetric}
use Rattle.grid_core.specs.Extent.{Extent}
use Rattle.entity_core.specs.Airspace.{Airspace, Entities, EntityKey, Subscriptions, key_cmp, key_of, notified_if, notified_where, with_subscription}
use Rattle.entity_core.specs.Entity.{kind_of, subscription_of}
use Rattle.entity_core.specs.Search.{is_id, is_for_near}
use Rattle.entity_core.specs.declared.entity.Entity.{Entity}
use Rattle.entity_core.specs.declared.subscription.Sub.{Sub}
use Rattle.entity_core.proofs.Changes.{told_once}
use Rattle.entity_core.proofs.Keys.{key_total, key_exact, one_key}
use Rattle.policy_core.specs.declared.scope.Caller.{Caller}
use Rattle.policy_core.specs.declared.call.Call.{Call}
use Rattle.policy_core.specs.declared.call.Put.{Put}
use Rattle.policy_core.specs.declared.call.SubPut.{SubPut}
use Rattle.policy_core.specs.declared.call.Operation.{Operation}
use Rattle.policy_core.specs.declared.call.Operation.TheVariants.{NoRoute, NoMethod, Malformed, Query, Read, Create, Update, Delete, ReadAvail, SetAvail, QuerySub, ReadSub, CreateSub, UpdateSub, DeleteSub}
use Rattle.policy_core.specs.declared.rule.Rule.{Rule}
use Rattle.policy_core.specs.declared.rule.Rule.TheVariants.{Route, Method, Token, Scope, Form, Area, Found, Fresh, Manager, Version, Role, Change, Ended, Key, Limit, Subscription, Depended}
use Rattle.policy_core.specs.Policy.{breaks, breaks_ended, first_broken}
use Rattle.policy_core.proofs.Finds.{none_passes}
use Rattle.service_notify.specs.Notices.{touched}
use Rattle.service_step.specs.Step.{created, delete_effect, delete_sub_effect, effect, stored_with, read_effect, read_sub_effect, step, step_by, sub_stored_as, update_effect, update_sub_effect, updated}
use Rattle.service_purge.specs.Ahead.{FreesNone, LooksAhead, PurgeCommutes}
use Rattle.entity_purge.specs.Purge.{is_referenced_in, is_due_for_purge, is_due_by, has_ended, has_not_ended, have_ended, if_kept, retained, retained_subs, sub_has_ended, purged}
use Rattle.service_purge.proofs.Facts.{get_ahead, get_sub_ahead, same_first, sees_ahead}
use Rattle.service_purge.proofs.Leaves.{goes_unless, named_one, put_goes, removed_goes, still_named, told_goes, who_stays}
use Rattle.entity_purge.proofs.Maps.{apart, kept_insert, kept_remove, same_tests}
use Rattle.entity_purge.proofs.Purges.{ended_later, found_subs, gone_unnamed, sub_ended_later}

-- ---- purged subscriptions after a change

-- Holds if the same subscriptions are due with the entities `m` and with the entities `n`.
abbrev SameGo : ℕ → Entities → Entities → Subscriptions → Type 0
SameGo until m n subs = (id : ℕ) (s : Sub) → get subs id ≡ Some s → is_due_by until m (id, s) ≡ is_due_by until n (id, s)

-- Holds if replacing the entity at a key frees no ended subscription. `named` is the subscription
-- that the new entity references.
abbrev FreesAt : ℕ → Entities → Subscriptions → EntityKey → Option ℕ → Type 0
FreesAt until m subs k named = (e : Entity) (id : ℕ) (s : Sub) → get m k ≡ Some e → subscription_of e.nature ≡ Some id → is_id id named ≡ false → get subs id ≡ Some s → sub_has_ended until s ≡ false

put_named : (until : ℕ) (m : Entities) (subs : Subscriptions) (k : EntityKey) (e : Entity) → has_ended until e ≡ false → FreesAt until m subs k (subscription_of e.nature) → (id : ℕ) (s : Sub) → get subs id ≡ Some s → sub_has_ended until s ≡ true
    → is_referenced_in (retained until m) id ≡ true → is_referenced_in (retained until (insert m k e)) id ≡ true
put_named until m subs k e lasts frees id s there ended named =
    let by = who_stays until m id named in
    let new : get (insert m k e) by.0 ≡ cond (eq_by_cmp key_cmp by.0 k) (Some e) (get m by.0) = get-insert key_total m k e by.0 in
    elim (eq_by_cmp key_cmp by.0 k) as (λ b. eq_by_cmp key_cmp by.0 k ≡ b → get (insert m k e) by.0 ≡ cond b (Some e) (get m by.0) → is_referenced_in (retained until (insert m k e)) id ≡ true) [
      | false ↦ λ t h. still_named until (insert m k e) id by.0 by.1 (h ∙ by.2) by.3 by.4
      | true ↦ λ t h. elim (is_id id (subscription_of e.nature)) as (λ b. is_id id (subscription_of e.nature) ≡ b → is_referenced_in (retained until (insert m k e)) id ≡ true) [
        | true ↦ λ names. still_named until (insert m k e) id by.0 e h (ap not lasts) names
        | false ↦ λ names. absurd (apart (sub_has_ended until s) ended (frees by.1 id s (ap (get m) (sym (one_key by.0 k t)) ∙ by.2) (named_one id (subscription_of by.1.nature) by.4) names there))
      ] refl
    ] refl new

same_put : (until : ℕ) (m : Entities) (subs : Subscriptions) (k : EntityKey) (e : Entity) → has_ended until e ≡ false → FreesAt until m subs k (subscription_of e.nature)
    → ((id : ℕ) (s : Sub) → subscription_of e.nature ≡ Some id → get subs id ≡ Some s → is_due_by until (retained until m) (id, s) ≡ false) → SameGo until (retained until m) (retained until (insert m k e)) subs
same_put until m subs k e lasts frees names id s there =
    let old : Entities = retained until m in
    let new : Entities = retained until (insert m k e) in
    same_tests (is_due_by until old (id, s)) (is_due_by until new (id, s)) (put_goes until m subs k e names id s there)
    (goes_unless until new old id s (λ named gone. put_named until m subs k e lasts frees id s there (gone_unnamed until new id s gone).0 named))

removed_named : (until : ℕ) (m : Entities) (subs : Subscriptions) (k : EntityKey) → FreesAt until m subs k None → (id : ℕ) (s : Sub) → get subs id ≡ Some s → sub_has_ended until s ≡ true
    → is_referenced_in (retained until m) id ≡ true → is_referenced_in (retained until (remove m k)) id ≡ true
removed_named until m subs k frees id s there ended named =
    let by = who_stays until m id named in
    let new : get (remove m k) by.0 ≡ cond (eq_by_cmp key_cmp by.0 k) None (get m by.0) = get-remove key_total m k by.0 in
    elim (eq_by_cmp key_cmp by.0 k) as (λ b. eq_by_cmp key_cmp by.0 k ≡ b → get (remove m k) by.0 ≡ cond b None (get m by.0) → is_referenced_in (retained until (remove m k)) id ≡ true) [
      | false ↦ λ t h. still_named until (remove m k) id by.0 by.1 (h ∙ by.2) by.3 by.4
      | true ↦ λ t h. absurd (apart (sub_has_ended until s) ended (frees by.1 id s (ap (get m) (sym (one_key by.0 k t)) ∙ by.2) (named_one id (subscription_of by.1.nature) by.4) refl there))
    ] refl new

same_removed : (until : ℕ) (m : Entities) (subs : Subscriptions) (k : EntityKey) → FreesAt until m subs k None → SameGo until (retained until m) (retained until (remove m k)) subs
same_removed until m subs k frees id s there =
    let old : Entities = retained until m in
    let new : Entities = retained until (remove m k) in
    same_tests (is_due_by until old (id, s)) (is_due_by until new (id, s)) (removed_goes until m subs k id s there)
    (goes_unless until new old id s (λ named gone. removed_named until m subs k frees id s there (gone_unnamed until new id s gone).0 named))

-- Notifying subscriptions before or after a purge leaves the same ones.
told_passes : (until : ℕ) (m n : Entities) (test : ℕ × Sub → Bool) (id : ℕ) (o : Option Sub) → ((s : Sub) → o ≡ Some s → is_due_by until m (id, s) ≡ is_due_by until n (id, s))
    → option_map (λ s. (notified_if test (id, s)).1) (if_kept (λ s. not (is_due_by until m (id, s))) o) ≡ if_kept (λ s. not (is_due_by until n (id, s))) (option_map (λ s. (notified_if test (id, s)).1) o)
told_passes until m n test id None same = refl
told_passes until m n test id (Some s) same =
    let new : Sub = (notified_if test (id, s)).1 in
    elim (is_due_by until m (id, s)) as (λ b. is_due_by until m (id, s) ≡ b → option_map (λ x. (notified_if test (id, x)).1) (cond (not b) (Some s) None) ≡ cond (not (is_due_by until n (id, new))) (Some new) None) [
      | true ↦ λ t. ap (λ (b : Bool). cond (not b) (Some new) None) (sym (told_goes until n id (test (id, s)) s ∙ (sym (same s refl) ∙ t)))
      | false ↦ λ t. ap (λ (b : Bool). cond (not b) (Some new) None) (sym (told_goes until n id (test (id, s)) s ∙ (sym (same s refl) ∙ t)))
    ] refl

subs_told_same : (until : ℕ) (m n : Entities) (test : ℕ × Sub → Bool) (subs : Subscriptions) → SameGo until m n subs → notified_where test (retained_subs until m subs) ≡ retained_subs until n (notified_where test subs)
subs_told_same until m n test subs same =
    same_map nat_cmp_total nat_cmp-IsAntisymmetric (notified_where test (retained_subs until m subs)) (retained_subs until n (notified_where test subs)) (λ id.
    told_once (retained_subs until m subs) test id
    ∙ (ap (option_map (λ s. (notified_if test (id, s)).1)) (found_subs until m subs id)
    ∙ (told_passes until m n test id (get subs id) (same id)
    ∙ (ap (if_kept (λ s. not (is_due_by until n (id, s)))) (sym (told_once subs test id)) ∙ sym (found_subs until n (notified_where test subs) id)))))

-- ---- changes

kept_with_same : (until : ℕ) (a : Airspace) (old : List Extent) (e : Entity) → has_ended until e ≡ false → FreesAt until a.entities a.subscriptions (key_of e) (subscription_of e.nature)
    → ((id : ℕ) (s : Sub) → subscription_of e.nature ≡ Some id → get a.subscriptions id ≡ Some s → is_due_for_purge until a (id, s) ≡ false)
    → stored_with (purged until a) old e ≡ purged until (stored_with a old e)
kept_with_same until a old e lasts frees names =
    let es = kept_insert key_total key_exact (has_not_ended until) a.entities (key_of e) e (ap not lasts) in
    let ss = subs_told_same until (retained until a.entities) (retained until (insert a.entities (key_of e) e)) (is_for_near (kind_of e.nature) (touched old e.volumes)) a.subscriptions
    (same_put until a.entities a.subscriptions (key_of e) e lasts frees names) in
    λ i. record { entities = es i; subscriptions = ss i; availabilities = a.availabilities; serial = a.serial + 1 }

update_same : (until : ℕ) (salt : List ℕ) (a : Airspace) (uss : List ℕ) (id : ℕ) (put : Put) (o : Option Entity) → have_ended until put.volumes ≡ false
    → FreesAt until a.entities a.subscriptions (kind_of put.nature, id) (subscription_of put.nature)
    → ((k : ℕ) (s : Sub) → subscription_of put.nature ≡ Some k → get a.subscriptions k ≡ Some s → is_due_for_purge until a (k, s) ≡ false)
    → (update_effect salt (purged until a) uss id put o).0 ≡ purged until (update_effect salt a uss id put o).0
update_same until salt a uss id put None lasts frees names = refl
update_same until salt a uss id put (Some e) lasts frees names = kept_with_same until a e.volumes (updated salt (a.serial + 1) id put e) lasts frees names

delete_same : (until : ℕ) (a : Airspace) (uss : List ℕ) (k : EntityKey) (o : Option Entity) → FreesAt until a.entities a.subscriptions k None → (delete_effect (purged until a) uss k o).0 ≡ purged until (delete_effect a uss k o).0
delete_same until a uss k None frees = refl
delete_same until a uss k (Some e) frees =
    let es = kept_remove key_total key_exact (has_not_ended until) a.entities k in
    let ss = subs_told_same until (retained until a.entities) (retained until (remove a.entities k)) (is_for_near k.0 (touched e.volumes [])) a.subscriptions (same_removed until a.entities a.subscriptions k frees) in
    λ i. record { entities = es i; subscriptions = ss i; availabilities = a.availabilities; serial = a.serial + 1 }

with_sub_same : (until : ℕ) (a : Airspace) (s : Sub) → sub_has_ended until s ≡ false → with_subscription (purged until a) s ≡ purged until (with_subscription a s)
with_sub_same until a s lasts =
    let m : Entities = retained until a.entities in
    let ss = kept_insert nat_cmp_total nat_cmp-IsAntisymmetric (λ x. not (is_due_by until m x)) a.subscriptions s.id s (ap (λ (b : Bool). not (b && not (is_referenced_in m s.id))) lasts) in
    λ i. record { entities = m; subscriptions = ss i; availabilities = a.availabilities; serial = a.serial + 1 }

update_sub_same : (until : ℕ) (salt : List ℕ) (a : Airspace) (uss : List ℕ) (id : ℕ) (put : SubPut) (o : Option Sub) → nat_le put.volume.time.1 until ≡ false
    → (update_sub_effect salt (purged until a) uss id put o).0 ≡ purged until (update_sub_effect salt a uss id put o).0
update_sub_same until salt a uss id put None lasts = refl
update_sub_same until salt a uss id put (Some s) lasts = with_sub_same until a (sub_stored_as salt (a.serial + 1) s.manager s.index id put) lasts

delete_sub_same : (until : ℕ) (a : Airspace) (id : ℕ) (o : Option Sub) → (delete_sub_effect (purged until a) id o).0 ≡ purged until (delete_sub_effect a id o).0
delete_sub_same until a id None = refl
delete_sub_same until a id (Some s) =
    let m : Entities = retained until a.entities in
    let ss = kept_remove nat_cmp_total nat_cmp-IsAntisymmetric (λ x. not (is_due_by until m x)) a.subscriptions id in
    λ i. record { entities = m; subscriptions = ss i; availabilities = a.availabilities; serial = a.serial + 1 }

read_same : (until : ℕ) (a : Airspace) (uss : List ℕ) (o : Option Entity) → (read_effect (purged until a) uss o).0 ≡ purged until (read_effect a uss o).0
read_same until a uss None = refl
read_same until a uss (Some e) = refl

read_sub_same : (until : ℕ) (a : Airspace) (o : Option Sub) → (read_sub_effect (purged until a) o).0 ≡ purged until (read_sub_effect a o).0
read_sub_same until a None = refl
read_sub_same until a (Some s) = refl

-- ---- an entity that a call puts has not ended, and is fresh

not_ended_yet : (until now : ℕ) (es : List Extent) → until ≤ now → have_ended now es ≡ false → have_ended until es ≡ false
not_ended_yet until now es h lasts =
    elim (have_ended until es) as (λ b. have_ended until es ≡ b → b ≡ false) [
      | true ↦ λ t. absurd (apart (have_ended now es) (ended_later until now es h t) lasts)
      | false ↦ λ t. refl
    ] refl

sub_not_ended_yet : (until now : ℕ) (s : Sub) → until ≤ now → sub_has_ended now s ≡ false → sub_has_ended until s ≡ false
sub_not_ended_yet until now s h lasts =
    elim (sub_has_ended until s) as (λ b. sub_has_ended until s ≡ b → b ≡ false) [
      | true ↦ λ t. absurd (apart (sub_has_ended now s) (sub_ended_later until now s h t) lasts)
      | false ↦ λ t. refl
    ] refl

not_ended : (a : Airspace) (t : ℕ) (c : Call) → first_broken a t c ≡ None → breaks_ended t c.op ≡ false
unfolding first_broken
not_ended a t c h =
    none_passes (breaks a t c) (Route ∷ Method ∷ Token ∷ Scope ∷ Form ∷ Area ∷ Found ∷ Fresh ∷ Manager ∷ Version ∷ Role ∷ Change ∷ []) (Subscription ∷ Depended ∷ Key ∷ Limit ∷ []) Ended h

is_fresh : (a : Airspace) (t : ℕ) (caller : Option Caller) (id : ℕ) (put : Put) → first_broken a t (record { caller = caller; op = Create id put }) ≡ None → is_some (get a.entities (kind_of put.nature, id)) ≡ false
unfolding first_broken
is_fresh a t caller id put h =
    none_passes (breaks a t (record { caller = caller; op = Create id put })) (Route ∷ Method ∷ Token ∷ Scope ∷ Form ∷ Area ∷ Found ∷ []) (Manager ∷ Version ∷ Role ∷ Change ∷ Ended ∷ Subscription ∷ Depended ∷ Key ∷ Limit ∷ []) Fresh h

frees_nothing : (until : ℕ) (m : Entities) (subs : Subscriptions) (k : EntityKey) (named : Option ℕ) → is_some (get m k) ≡ false → FreesAt until m subs k named
frees_nothing until m subs k named none e id s there names other found = absurd (apart (is_some (get m k)) (ap is_some there) none)

-- ---- effects

effect_same : (until : ℕ) (salt : List ℕ) (a : Airspace) (t : ℕ) (caller : Option Caller) (op : Operation) → until ≤ t → LooksAhead until a (record { caller = caller; op = op }) → FreesNone until a op
    → first_broken a t (record { caller = caller; op = op }) ≡ None → (effect salt (purged until a) caller op).0 ≡ purged until (effect salt a caller op).0
effect_same until salt a t None op now look frees allowed = refl
effect_same until salt a t (Some caller) NoRoute now look frees allowed = refl
effect_same until salt a t (Some caller) NoMethod now look frees allowed = refl
effect_same until salt a t (Some caller) (Malformed kind) now look frees allowed = refl
effect_same until salt a t (Some caller) (Query kind area) now look frees allowed = refl
effect_same until salt a t (Some caller) (Read kind id) now look frees allowed =
    ap (λ (o : Option Entity). (read_effect (purged until a) caller.uss o).0) (get_ahead until a.entities (kind, id) look.names)
    ∙ read_same until a caller.uss (get a.entities (kind, id))
effect_same until salt a t (Some caller) (Create id put) now look frees allowed =
    kept_with_same until a [] (created salt (a.serial + 1) caller.uss id put)
    (not_ended_yet until t put.volumes now (not_ended a t (record { caller = Some caller; op = Create id put }) allowed))
    (frees_nothing until a.entities a.subscriptions (kind_of put.nature, id) (subscription_of put.nature) (is_fresh a t (Some caller) id put allowed))
    look.names_sub
effect_same until salt a t (Some caller) (Update id ovn put) now look frees allowed =
    let key : EntityKey = (kind_of put.nature, id) in
    ap (λ (o : Option Entity). (update_effect salt (purged until a) caller.uss id put o).0) (get_ahead until a.entities key look.names)
    ∙ update_same until salt a caller.uss id put (get a.entities key)
    (not_ended_yet until t put.volumes now (not_ended a t (record { caller = Some caller; op = Update id ovn put }) allowed)) frees look.names_sub
effect_same until salt a t (Some caller) (Delete kind id ovn) now look frees allowed =
    ap (λ (o : Option Entity). (delete_effect (purged until a) caller.uss (kind, id) o).0) (get_ahead until a.entities (kind, id) look.names)
    ∙ delete_same until a caller.uss (kind, id) (get a.entities (kind, id)) frees
effect_same until salt a t (Some caller) (ReadAvail uss) now look frees allowed = refl
effect_same until salt a t (Some caller) (SetAvail uss old availability) now look frees allowed = refl
effect_same until salt a t (Some caller) (QuerySub area) now look frees allowed = refl
effect_same until salt a t (Some caller) (ReadSub id) now look frees allowed =
    ap (λ (o : Option Sub). (read_sub_effect (purged until a) o).0) (get_sub_ahead until a id (λ s h. look.names_sub id s refl h))
    ∙ read_sub_same until a (get a.subscriptions id)
effect_same until salt a t (Some caller) (CreateSub id put) now look frees allowed =
    let s : Sub = sub_stored_as salt (a.serial + 1) caller.uss 0 id put in
    with_sub_same until a s (sub_not_ended_yet until t s now (not_ended a t (record { caller = Some caller; op = CreateSub id put }) allowed))
effect_same until salt a t (Some caller) (UpdateSub id version put) now look frees allowed =
    let s : Sub = sub_stored_as salt (a.serial + 1) caller.uss 0 id put in
    ap (λ (o : Option Sub). (update_sub_effect salt (purged until a) caller.uss id put o).0) (get_sub_ahead until a id (λ s h. look.names_sub id s refl h))
    ∙ update_sub_same until salt a caller.uss id put (get a.subscriptions id) (sub_not_ended_yet until t s now (not_ended a t (record { caller = Some caller; op = UpdateSub id version put }) allowed))
effect_same until salt a t (Some caller) (DeleteSub id version) now look frees allowed =
    ap (λ (o : Option Sub). (delete_sub_effect (purged until a) id o).0) (get_sub_ahead until a id (λ s h. look.names_sub id s refl h))
    ∙ delete_sub_same until a id (get a.subscriptions id)

step_same : (until : ℕ) (salt : List ℕ) (a : Airspace) (t : ℕ) (c : Call) (r : Option Rule) → first_broken a t c ≡ r → until ≤ t → LooksAhead until a c → FreesNone until a c.op
    → (step_by salt (purged until a) c r).0 ≡ purged until (step_by salt a c r).0
step_same until salt a t c None allowed now look frees = effect_same until salt a t c.caller c.op now look frees allowed
step_same until salt a t c (Some p) denied now look frees = refl

pub commutes : PurgeCommutes
unfolding step
commutes until salt a c on =
    ap (λ (r : Option Rule). (step_by salt (purged until a) c.1 r).0) (same_first (purged until a) a c.0 c.1 (sees_ahead until a c.1 on.ahead))
    ∙ step_same until salt a c.0 c.1 (first_broken a c.0 c.1) refl on.moment on.ahead on.frees
