-- Lemmas: airspaces that are alike to a USS stay alike, and the USS gets the same replies from
-- both.
use Rattle.std.specs.Prelude.{◌≡◌, ℕ, ◌+◌, ◌&&◌, ◌||◌, not, Bool, true, false, List, [], ◌∷◌, ◌++◌, map, filter, Option, Some, None, cond, find, refl, option_map, unwrap_or}
use Rattle.std.proofs.Common.{sym, ap, ◌∙◌, subst}
use Rattle.std.specs.Ordering.{eq_by_cmp, nat_cmp}
use Rattle.std.proofs.lemmas.Cmp.{nat_cmp_total}
use Rattle.std.specs.declared.cmp.Ordering.TheVariants.{Less, Equal, Greater}
use Rattle.std.specs.FinMap.{get, insert, remove, entries, entries-insert, from_entries, nat_cmp-IsAntisymmetric}
use Rattle.std.specs.FinMap.Entries.{put, where_key, by_order}
use Rattle.grid_core.specs.Extent.{Extent, Region, meets, region_of}
use Rattle.entity_core.specs.IdTexts.{same_text}
use Rattle.entity_core.specs.Airspace.{Airspace, EntityKey, Availabilities, key_cmp, key_of, availability_of, text_cmp, notified_again, notified_if, notified_where, with_entity, with_subscription, without_entity, without_subscription}
use Rattle.entity_core.specs.Entity.{kind_of, subscription_of}
use Rattle.entity_core.specs.Subscription.{wants}
use Rattle.entity_core.specs.Ovn.{ovn_text}
use Rattle.entity_core.specs.Search.{meeting_in, is_for_near, is_own_near, is_sought, subscribers_in, subscriptions_in}
use Rattle.entity_core.specs.declared.availability.Availability.TheVariants.{Unknown}
use Rattle.entity_core.specs.declared.entity.Entity.{Entity}
use Rattle.entity_core.specs.declared.subscription.Sub.{Sub}
use Rattle.entity_core.specs.declared.nature.Kind.{Kind}
use Rattle.entity_core.specs.declared.nature.Kind.TheVariants as kinds
use Rattle.policy_core.specs.declared.scope.Caller.{Caller}
use Rattle.policy_core.specs.declared.call.Call.{Call}
use Rattle.policy_core.specs.declared.call.Put.{Put}
use Rattle.policy_core.specs.declared.call.SubPut.{SubPut}
use Rattle.policy_core.specs.declared.sub_view.SubView.{SubView}
use Rattle.policy_core.specs.declared.call.Operation.{Operation}
use Rattle.policy_core.specs.declared.call.Operation.TheVariants.{NoRoute, NoMethod, Malformed, Query, Read, Create, Update, Delete, ReadAvail, SetAvail, QuerySub, ReadSub, CreateSub, UpdateSub, DeleteSub}
use Rattle.policy_core.specs.declared.rule.Rule.{Rule}
use Rattle.policy_core.specs.declared.rule.Rule.TheVariants.{Route, Method, Token, Scope, Form, Area, Found, Fresh, Manager, Version, Role, Change, Ended, Key, Limit, Subscription, Depended}
use Rattle.policy_core.specs.declared.reference.Reference.{Reference}
use Rattle.policy_core.specs.Blind.{redacted, redacted_entry, redacted_sub, redacted_sub_entry, IsLike, is_uss, known}
use Rattle.policy_core.specs.Missing.{in_key, put_needs, is_missing_from, is_spared, spared, unspared, excepted, needs_kind, missing_from, needed_put, needs_key, is_none_of, is_nothing, missing_put, missing_for}
use Rattle.policy_core.specs.Policy.{breaks, breaks_limit, breaks_manager, is_sub_of_another, early_rules, standing_rules, last_rules, first_broken}
use Rattle.policy_core.specs.Standing.{found_of, sub_of, sub_under}
use Rattle.policy_core.specs.SubView.{sub_view_of}
use Rattle.policy_core.specs.View.{view_of, view_with}
use Rattle.policy_core.proofs.Filters.{both_at_once}
use Rattle.policy_core.proofs.Finds.{or_else, find-append, none_passes}
use Rattle.policy_core.proofs.Redactions.{one_uss, get_like, get_sub_like, under_like, dependents_like, found_like, rules_like}
use Rattle.entity_core.proofs.Changes.{entries-told}
use Rattle.entity_core.proofs.Keys.{key_total, key_exact}
use Rattle.entity_core.proofs.Entries.{entries-remove}
use Rattle.service_step.specs.declared.reply.Answer.TheVariants.{Created, Changed, Listed, Avail}
use Rattle.service_step.specs.declared.reply.Answer.TheVariants as answers
use Rattle.service_step.specs.declared.reply.Reply.TheVariants.{Done, Denied}
use Rattle.service_notify.specs.Notices.{notices_in, notices_of, notified_in, states_at, touched, urls_of, with_notified}
use Rattle.service_step.specs.Step.{step, step_by, effect, effect_by, missing_views, created, stored_with, updated, update_effect, delete_effect, read_effect, sub_stored_as, seen_of, seen_sub, stored_reply, put_sub_effect, update_sub_effect, delete_sub_effect, read_sub_effect}

-- ---- entries

put-veiled : (m : List ℕ) (k : EntityKey) (e : Entity) (es : List (EntityKey × Entity)) → map (redacted_entry m) (put key_cmp k e es) ≡ put key_cmp k (redacted m e) (map (redacted_entry m) es)
put-veiled m k e [] = refl
put-veiled m k e (x ∷ es) =
    elim (key_cmp k x.0) as (λ r. map (redacted_entry m) (by_order r ((k, e) ∷ x ∷ es) ((x.0, e) ∷ es) (x ∷ put key_cmp k e es))
    ≡ by_order r ((k, redacted m e) ∷ redacted_entry m x ∷ map (redacted_entry m) es) ((x.0, redacted m e) ∷ map (redacted_entry m) es) (redacted_entry m x ∷ put key_cmp k (redacted m e) (map (redacted_entry m) es))) [
      | Less ↦ refl
      | Equal ↦ refl
      | Greater ↦ ap (λ (ys : List (EntityKey × Entity)). redacted_entry m x ∷ ys) (put-veiled m k e es)
    ]

where-veiled : (m : List ℕ) (p : EntityKey → Bool) (es : List (EntityKey × Entity)) → map (redacted_entry m) (where_key key_cmp p es) ≡ where_key key_cmp p (map (redacted_entry m) es)
where-veiled m p [] = refl
where-veiled m p (x ∷ es) =
    elim (p x.0) as (λ b. map (redacted_entry m) (cond b (x ∷ where_key key_cmp p es) (where_key key_cmp p es)) ≡ cond b (redacted_entry m x ∷ where_key key_cmp p (map (redacted_entry m) es)) (where_key key_cmp p (map (redacted_entry m) es))) [
      | true ↦ ap (λ (ys : List (EntityKey × Entity)). redacted_entry m x ∷ ys) (where-veiled m p es)
      | false ↦ where-veiled m p es
    ]

-- ---- changes

with_like : (m : List ℕ) (a b : Airspace) (e : Entity) → IsLike m a b → IsLike m (with_entity a e) (with_entity b e)
with_like m a b e l =
    let side : (x : Airspace) → map (redacted_entry m) (entries (insert x.entities (key_of e) e)) ≡ put key_cmp (key_of e) (redacted m e) (map (redacted_entry m) (entries x.entities)) =
    λ x. ap (map (redacted_entry m)) (entries-insert key_total x.entities (key_of e) e) ∙ put-veiled m (key_of e) e (entries x.entities) in
    record {
      entities = side a ∙ (ap (put key_cmp (key_of e) (redacted m e)) l.entities ∙ sym (side b));
      subscriptions = l.subscriptions;
      availabilities = l.availabilities;
      serial = ap (λ (n : ℕ). n + 1) l.serial;
    }

without_like : (m : List ℕ) (a b : Airspace) (k : EntityKey) → IsLike m a b → IsLike m (without_entity a k) (without_entity b k)
without_like m a b k l =
    let p : EntityKey → Bool = λ x. not (eq_by_cmp key_cmp k x) in
    let side : (x : Airspace) → map (redacted_entry m) (entries (remove x.entities k)) ≡ where_key key_cmp p (map (redacted_entry m) (entries x.entities)) =
    λ x. ap (map (redacted_entry m)) (entries-remove key_total key_exact x.entities k) ∙ where-veiled m p (entries x.entities) in
    record {
      entities = side a ∙ (ap (where_key key_cmp p) l.entities ∙ sym (side b));
      subscriptions = l.subscriptions;
      availabilities = l.availabilities;
      serial = ap (λ (n : ℕ). n + 1) l.serial;
    }

-- ---- changes of subscriptions

put_sub-veiled : (m : List ℕ) (k : ℕ) (s : Sub) (ss : List (ℕ × Sub)) → map (redacted_sub_entry m) (put nat_cmp k s ss) ≡ put nat_cmp k (redacted_sub m s) (map (redacted_sub_entry m) ss)
put_sub-veiled m k s [] = refl
put_sub-veiled m k s (x ∷ ss) =
    elim (nat_cmp k x.0) as (λ r. map (redacted_sub_entry m) (by_order r ((k, s) ∷ x ∷ ss) ((x.0, s) ∷ ss) (x ∷ put nat_cmp k s ss))
    ≡ by_order r ((k, redacted_sub m s) ∷ redacted_sub_entry m x ∷ map (redacted_sub_entry m) ss) ((x.0, redacted_sub m s) ∷ map (redacted_sub_entry m) ss) (redacted_sub_entry m x ∷ put nat_cmp k (redacted_sub m s) (map (redacted_sub_entry m) ss))) [
      | Less ↦ refl
      | Equal ↦ refl
      | Greater ↦ ap (λ (ys : List (ℕ × Sub)). redacted_sub_entry m x ∷ ys) (put_sub-veiled m k s ss)
    ]

where_sub-veiled : (m : List ℕ) (p : ℕ → Bool) (ss : List (ℕ × Sub)) → map (redacted_sub_entry m) (where_key nat_cmp p ss) ≡ where_key nat_cmp p (map (redacted_sub_entry m) ss)
where_sub-veiled m p [] = refl
where_sub-veiled m p (x ∷ ss) =
    elim (p x.0) as (λ b. map (redacted_sub_entry m) (cond b (x ∷ where_key nat_cmp p ss) (where_key nat_cmp p ss)) ≡ cond b (redacted_sub_entry m x ∷ where_key nat_cmp p (map (redacted_sub_entry m) ss)) (where_key nat_cmp p (map (redacted_sub_entry m) ss))) [
      | true ↦ ap (λ (ys : List (ℕ × Sub)). redacted_sub_entry m x ∷ ys) (where_sub-veiled m p ss)
      | false ↦ where_sub-veiled m p ss
    ]

with_sub_like : (m : List ℕ) (a b : Airspace) (s : Sub) → IsLike m a b → IsLike m (with_subscription a s) (with_subscription b s)
with_sub_like m a b s l =
    let side : (x : Airspace) → map (redacted_sub_entry m) (entries (insert x.subscriptions s.id s)) ≡ put nat_cmp s.id (redacted_sub m s) (map (redacted_sub_entry m) (entries x.subscriptions)) =
    λ x. ap (map (redacted_sub_entry m)) (entries-insert nat_cmp_total x.subscriptions s.id s) ∙ put_sub-veiled m s.id s (entries x.subscriptions) in
    record {
      entities = l.entities;
      subscriptions = side a ∙ (ap (put nat_cmp s.id (redacted_sub m s)) l.subscriptions ∙ sym (side b));
      availabilities = l.availabilities;
      serial = ap (λ (n : ℕ). n + 1) l.serial;
    }

without_sub_like : (m : List ℕ) (a b : Airspace) (k : ℕ) → IsLike m a b → IsLike m (without_subscription a k) (without_subscription b k)
without_sub_like m a b k l =
    let p : ℕ → Bool = λ x. not (eq_by_cmp nat_cmp k x) in
    let side : (x : Airspace) → map (redacted_sub_entry m) (entries (remove x.subscriptions k)) ≡ where_key nat_cmp p (map (redacted_sub_entry m) (entries x.subscriptions)) =
    λ x. ap (map (redacted_sub_entry m)) (entries-remove nat_cmp_total nat_cmp-IsAntisymmetric x.subscriptions k) ∙ where_sub-veiled m p (entries x.subscriptions) in
    record {
      entities = l.entities;
      subscriptions = side a ∙ (ap (where_key nat_cmp p) l.subscriptions ∙ sym (side b));
      availabilities = l.availabilities;
      serial = ap (λ (n : ℕ). n + 1) l.serial;
    }

same_sub_update : (m salt : List ℕ) (n k id : ℕ) (put : SubPut) (s r : Sub) → n ≡ k → redacted_sub m s ≡ redacted_sub m r → sub_stored_as salt (n + 1) s.manager s.index id put ≡ sub_stored_as salt (k + 1) r.manager r.index id put
same_sub_update m salt n k id put s r e v = λ i. sub_stored_as salt (e i + 1) (v i).manager (v i).index id put

update_sub_like : (m salt : List ℕ) (a b : Airspace) (uss : List ℕ) (id : ℕ) (put : SubPut) (o p : Option Sub) → IsLike m a b → option_map (redacted_sub m) o ≡ option_map (redacted_sub m) p
    → IsLike m (update_sub_effect salt a uss id put o).0 (update_sub_effect salt b uss id put p).0
update_sub_like m salt a b uss id put None None l v = l
update_sub_like m salt a b uss id put None (Some r) l v = cc
update_sub_like m salt a b uss id put (Some s) None l v = cc
update_sub_like m salt a b uss id put (Some s) (Some r) l v =
    let same : redacted_sub m s ≡ redacted_sub m r = cc in
    let x : Sub = sub_stored_as salt (a.serial + 1) s.manager s.index id put in
    subst (λ (y : Sub). IsLike m (with_subscription a x) (with_subscription b y)) (same_sub_update m salt a.serial b.serial id put s r l.serial same) (with_sub_like m a b x l)

delete_sub_like : (m : List ℕ) (a b : Airspace) (id : ℕ) (o p : Option Sub) → IsLike m a b → option_map (redacted_sub m) o ≡ option_map (redacted_sub m) p → IsLike m (delete_sub_effect a id o).0 (delete_sub_effect b id p).0
delete_sub_like m a b id None None l v = l
delete_sub_like m a b id None (Some r) l v = cc
delete_sub_like m a b id (Some s) None l v = cc
delete_sub_like m a b id (Some s) (Some r) l v = without_sub_like m a b id l

read_sub_like : (m : List ℕ) (a b : Airspace) (o p : Option Sub) → IsLike m a b → IsLike m (read_sub_effect a o).0 (read_sub_effect b p).0
read_sub_like m a b None None l = l
read_sub_like m a b None (Some r) l = l
read_sub_like m a b (Some s) None l = l
read_sub_like m a b (Some s) (Some r) l = l

-- ---- notified subscriptions

-- Notifying a subscription depends on no version and leaves its version unchanged.
one_told-veiled : (m : List ℕ) (b : Bool) (s : Sub) → redacted_sub m (cond b (notified_again s) s) ≡ cond b (notified_again (redacted_sub m s)) (redacted_sub m s)
one_told-veiled m true s = refl
one_told-veiled m false s = refl

told_if-veiled : (m : List ℕ) (kind : Kind) (areas : List Region) (ss : List (ℕ × Sub)) → map (redacted_sub_entry m) (map (notified_if (is_for_near kind areas)) ss) ≡ map (notified_if (is_for_near kind areas)) (map (redacted_sub_entry m) ss)
told_if-veiled m kind areas [] = refl
told_if-veiled m kind areas (s ∷ ss) = λ i. (s.0, one_told-veiled m (is_for_near kind areas s) s.1 i) ∷ told_if-veiled m kind areas ss i

notified_like : (m : List ℕ) (kind : Kind) (areas : List Region) (a b : Airspace) → IsLike m a b → IsLike m (with_notified kind areas a) (with_notified kind areas b)
notified_like m kind areas a b l =
    let test : ℕ × Sub → Bool = is_for_near kind areas in
    let side : (x : Airspace) → map (redacted_sub_entry m) (entries (notified_where test x.subscriptions)) ≡ map (notified_if test) (map (redacted_sub_entry m) (entries x.subscriptions)) =
    λ x. ap (map (redacted_sub_entry m)) (entries-told test x.subscriptions) ∙ told_if-veiled m kind areas (entries x.subscriptions) in
    record {
      entities = l.entities;
      subscriptions = side a ∙ (ap (map (notified_if test)) l.subscriptions ∙ sym (side b));
      availabilities = l.availabilities;
      serial = l.serial;
    }

kept_with_like : (m : List ℕ) (a b : Airspace) (old : List Extent) (e : Entity) → IsLike m a b → IsLike m (stored_with a old e) (stored_with b old e)
kept_with_like m a b old e l = notified_like m (kind_of e.nature) (touched old e.volumes) (with_entity a e) (with_entity b e) (with_like m a b e l)

-- ---- changes of entities

-- Entities that are equal when redacted are updated to the same entity.
same_update : (m salt : List ℕ) (n k id : ℕ) (put : Put) (e f : Entity) → n ≡ k → redacted m e ≡ redacted m f → updated salt (n + 1) id put e ≡ updated salt (k + 1) id put f
same_update m salt n k id put e f s v = λ i. updated salt (s i + 1) id put (v i)

update_like : (m salt : List ℕ) (a b : Airspace) (uss : List ℕ) (id : ℕ) (put : Put) (o p : Option Entity) → IsLike m a b → option_map (redacted m) o ≡ option_map (redacted m) p
    → IsLike m (update_effect salt a uss id put o).0 (update_effect salt b uss id put p).0
update_like m salt a b uss id put None None l v = l
update_like m salt a b uss id put None (Some f) l v = cc
update_like m salt a b uss id put (Some e) None l v = cc
update_like m salt a b uss id put (Some e) (Some f) l v =
    let same : redacted m e ≡ redacted m f = cc in
    let x : Entity = updated salt (a.serial + 1) id put e in
    subst (λ (y : List Extent × Entity). IsLike m (stored_with a e.volumes x) (stored_with b y.0 y.1)) (λ i. ((same i).volumes, same_update m salt a.serial b.serial id put e f l.serial same i)) (kept_with_like m a b e.volumes x l)

delete_like : (m : List ℕ) (a b : Airspace) (uss : List ℕ) (k : EntityKey) (o p : Option Entity) → IsLike m a b → option_map (redacted m) o ≡ option_map (redacted m) p → IsLike m (delete_effect a uss k o).0 (delete_effect b uss k p).0
delete_like m a b uss k None None l v = l
delete_like m a b uss k None (Some f) l v = cc
delete_like m a b uss k (Some e) None l v = cc
delete_like m a b uss k (Some e) (Some f) l v =
    let same : redacted m e ≡ redacted m f = cc in
    let left : Airspace → List Extent → Airspace = λ x old. with_notified k.0 (touched old []) (without_entity x k) in
    subst (λ (old : List Extent). IsLike m (left a e.volumes) (left b old)) (ap (λ (x : Entity). x.volumes) same) (notified_like m k.0 (touched e.volumes []) (without_entity a k) (without_entity b k) (without_like m a b k l))

read_like : (m : List ℕ) (a b : Airspace) (uss : List ℕ) (o p : Option Entity) → IsLike m a b → IsLike m (read_effect a uss o).0 (read_effect b uss p).0
read_like m a b uss None None l = l
read_like m a b uss None (Some f) l = l
read_like m a b uss (Some e) None l = l
read_like m a b uss (Some e) (Some f) l = l

-- The effect of a call leaves airspaces alike, for each caller.
effect_like : (m salt : List ℕ) (a b : Airspace) (caller : Option Caller) (op : Operation) → IsLike m a b → IsLike m (effect salt a caller op).0 (effect salt b caller op).0
effect_like m salt a b None op l = l
effect_like m salt a b (Some caller) NoRoute l = l
effect_like m salt a b (Some caller) NoMethod l = l
effect_like m salt a b (Some caller) (Malformed kind) l = l
effect_like m salt a b (Some caller) (Query kind area) l = l
effect_like m salt a b (Some caller) (Read kind id) l = read_like m a b caller.uss (get a.entities (kind, id)) (get b.entities (kind, id)) l
effect_like m salt a b (Some caller) (Create id put) l =
    let x : ℕ → Entity = λ n. created salt (n + 1) caller.uss id put in
    subst (λ (n : ℕ). IsLike m (stored_with a [] (x a.serial)) (stored_with b [] (x n))) l.serial (kept_with_like m a b [] (x a.serial) l)
effect_like m salt a b (Some caller) (Update id ovn put) l = update_like m salt a b caller.uss id put (get a.entities (kind_of put.nature, id)) (get b.entities (kind_of put.nature, id)) l (get_like m a b (kind_of put.nature, id) l)
effect_like m salt a b (Some caller) (Delete kind id ovn) l = delete_like m a b caller.uss (kind, id) (get a.entities (kind, id)) (get b.entities (kind, id)) l (get_like m a b (kind, id) l)
effect_like m salt a b (Some caller) (ReadAvail uss) l = l
effect_like m salt a b (Some caller) (SetAvail uss old availability) l = record {
  entities = l.entities;
  subscriptions = l.subscriptions;
  availabilities = λ i. insert (l.availabilities i) uss (availability, ovn_text salt (l.serial i + 1));
  serial = ap (λ (n : ℕ). n + 1) l.serial;
}
effect_like m salt a b (Some caller) (QuerySub area) l = l
effect_like m salt a b (Some caller) (ReadSub id) l = read_sub_like m a b (get a.subscriptions id) (get b.subscriptions id) l
effect_like m salt a b (Some caller) (CreateSub id put) l =
    let x : ℕ → Sub = λ n. sub_stored_as salt (n + 1) caller.uss 0 id put in
    subst (λ (n : ℕ). IsLike m (with_subscription a (x a.serial)) (with_subscription b (x n))) l.serial (with_sub_like m a b (x a.serial) l)
effect_like m salt a b (Some caller) (UpdateSub id version put) l = update_sub_like m salt a b caller.uss id put (get a.subscriptions id) (get b.subscriptions id) l (get_sub_like m a b id l)
effect_like m salt a b (Some caller) (DeleteSub id version) l = delete_sub_like m a b id (get a.subscriptions id) (get b.subscriptions id) l (get_sub_like m a b id l)

-- ---- views of the USS

shown-veiled : (own : Bool) (ovn : List ℕ) → cond own (Some ovn) None ≡ cond own (Some (cond own ovn [])) None
shown-veiled true ovn = refl
shown-veiled false ovn = refl

view-veiled : (m : List ℕ) (a : Airspace) (e : Entity) → view_of a m e ≡ view_of a m (redacted m e)
unfolding view_of
view-veiled m a e =
    let seen : Reference = view_with m e (availability_of a e.manager).0 in
    ap (λ (o : Option (List ℕ)). record seen { ovn = o }) (shown-veiled (same_text e.manager m) e.ovn)

view_in : (m : List ℕ) (a b : Airspace) (e : Entity) → a.availabilities ≡ b.availabilities → view_of a m e ≡ view_of b m e
unfolding view_of
view_in m a b e l = ap (λ (x : Availabilities). view_with m e (unwrap_or (get x e.manager) (Unknown, [])).0) l

view_like : (m : List ℕ) (a b : Airspace) (e f : Entity) → a.availabilities ≡ b.availabilities → redacted m e ≡ redacted m f → view_of a m e ≡ view_of b m f
view_like m a b e f l v = view-veiled m a e ∙ (ap (view_of a m) v ∙ (sym (view-veiled m a f) ∙ view_in m a b f l))

-- The redacted met entities are those that are met among the redacted entities.
met-veiled : (m : List ℕ) (kind : Kind) (areas : List Region) (except : Option ℕ) (es : List (EntityKey × Entity)) → map (redacted m) (map (λ e. e.1) (filter (is_sought kind areas except) es)) ≡ map (λ e. e.1) (filter (is_sought kind areas except) (map (redacted_entry m) es))
met-veiled m kind areas except [] = refl
met-veiled m kind areas except (x ∷ es) =
    let test : EntityKey × Entity → Bool = is_sought kind areas except in
    elim (is_sought kind areas except x) as (λ b. map (redacted m) (map (λ e. e.1) (cond b (x ∷ filter test es) (filter test es))) ≡ map (λ e. e.1) (cond b (redacted_entry m x ∷ filter test (map (redacted_entry m) es)) (filter test (map (redacted_entry m) es)))) [
      | true ↦ ap (λ (ys : List Entity). redacted m x.1 ∷ ys) (met-veiled m kind areas except es)
      | false ↦ met-veiled m kind areas except es
    ]

met_like : (m : List ℕ) (a b : Airspace) (kind : Kind) (areas : List Region) (except : Option ℕ) → IsLike m a b → map (redacted m) (meeting_in a.entities kind areas except) ≡ map (redacted m) (meeting_in b.entities kind areas except)
unfolding meeting_in
met_like m a b kind areas except l =
    met-veiled m kind areas except (entries a.entities)
    ∙ (ap (λ (es : List (EntityKey × Entity)). map (λ e. e.1) (filter (is_sought kind areas except) es)) l.entities
    ∙ sym (met-veiled m kind areas except (entries b.entities)))

-- Entities that are equal when redacted have the same references for the USS.
seen_like : (m : List ℕ) (a b : Airspace) (es fs : List Entity) → a.availabilities ≡ b.availabilities → map (redacted m) es ≡ map (redacted m) fs → map (view_of a m) es ≡ map (view_of b m) fs
seen_like m a b [] [] l v = refl
seen_like m a b [] (f ∷ fs) l v = cc
seen_like m a b (e ∷ es) [] l v = cc
seen_like m a b (e ∷ es) (f ∷ fs) l v =
    let here : redacted m e ≡ redacted m f = cc in
    let rest : map (redacted m) es ≡ map (redacted m) fs = cc in
    λ i. view_like m a b e f l here i ∷ seen_like m a b es fs l rest i

-- ---- notices

-- The redacted subscriptions that a change notifies are those among the redacted ones.
subscribers-veiled : (m : List ℕ) (kind : Kind) (areas : List Region) (ss : List (ℕ × Sub)) → map (redacted_sub m) (map (λ s. s.1) (filter (is_for_near kind areas) ss)) ≡ map (λ s. s.1) (filter (is_for_near kind areas) (map (redacted_sub_entry m) ss))
subscribers-veiled m kind areas [] = refl
subscribers-veiled m kind areas (s ∷ ss) =
    let test : ℕ × Sub → Bool = is_for_near kind areas in
    elim (is_for_near kind areas s) as (λ b. map (redacted_sub m) (map (λ x. x.1) (cond b (s ∷ filter test ss) (filter test ss))) ≡ map (λ x. x.1) (cond b (redacted_sub_entry m s ∷ filter test (map (redacted_sub_entry m) ss)) (filter test (map (redacted_sub_entry m) ss)))) [
      | true ↦ ap (λ (xs : List Sub). redacted_sub m s.1 ∷ xs) (subscribers-veiled m kind areas ss)
      | false ↦ subscribers-veiled m kind areas ss
    ]

subscribers_like : (m : List ℕ) (a b : Airspace) (kind : Kind) (areas : List Region) → IsLike m a b → map (redacted_sub m) (subscribers_in a.subscriptions kind areas) ≡ map (redacted_sub m) (subscribers_in b.subscriptions kind areas)
unfolding subscribers_in
subscribers_like m a b kind areas l =
    subscribers-veiled m kind areas (entries a.subscriptions)
    ∙ (ap (λ (ss : List (ℕ × Sub)). map (λ s. s.1) (filter (is_for_near kind areas) ss)) l.subscriptions
    ∙ sym (subscribers-veiled m kind areas (entries b.subscriptions)))

told_again-veiled : (m : List ℕ) (ss : List Sub) → map (redacted_sub m) (map notified_again ss) ≡ map notified_again (map (redacted_sub m) ss)
told_again-veiled m [] = refl
told_again-veiled m (s ∷ ss) = ap (λ (xs : List Sub). notified_again (redacted_sub m s) ∷ xs) (told_again-veiled m ss)

-- Redaction leaves the address, the id and the index of a subscription unchanged.
addresses-veiled : (m : List ℕ) (ss : List Sub) → map {B = List ℕ × Unit {0}} (λ s. (s.url, tt)) ss ≡ map {B = List ℕ × Unit {0}} (λ s. (s.url, tt)) (map (redacted_sub m) ss)
addresses-veiled m [] = refl
addresses-veiled m (s ∷ ss) = ap (λ (xs : List (List ℕ × Unit {0})). (s.url, tt) ∷ xs) (addresses-veiled m ss)

urls-veiled : (m : List ℕ) (ss : List Sub) → urls_of ss ≡ urls_of (map (redacted_sub m) ss)
unfolding urls_of
urls-veiled m ss = ap (λ (xs : List (List ℕ × Unit {0})). map (λ e. e.0) (entries (from_entries {X = Unit {0}} {R = text_cmp} xs))) (addresses-veiled m ss)

states-veiled : (m url : List ℕ) (ss : List Sub) → states_at ss url ≡ states_at (map (redacted_sub m) ss) url
states-veiled m url [] = refl
states-veiled m url (s ∷ ss) =
    let test : Sub → Bool = λ x. same_text x.url url in
    elim (same_text s.url url) as (λ b. map {B = ℕ × ℕ} (λ x. (x.id, x.index)) (cond b (s ∷ filter test ss) (filter test ss)) ≡ map {B = ℕ × ℕ} (λ x. (x.id, x.index)) (cond b (redacted_sub m s ∷ filter test (map (redacted_sub m) ss)) (filter test (map (redacted_sub m) ss)))) [
      | true ↦ ap (λ (xs : List (ℕ × ℕ)). (s.id, s.index) ∷ xs) (states-veiled m url ss)
      | false ↦ states-veiled m url ss
    ]

notices-veiled : (m : List ℕ) (ss : List Sub) → notices_of ss ≡ notices_of (map (redacted_sub m) ss)
notices-veiled m ss = λ i. map (λ url. record { url = url; states = states-veiled m url ss i }) (urls-veiled m ss i)

notices_like : (m : List ℕ) (a b : Airspace) (kind : Kind) (areas : List Region) → IsLike m a b → notices_in a kind areas ≡ notices_in b kind areas
notices_like m a b kind areas l =
    let behind : (x : Airspace) → notices_in x kind areas ≡ notices_of (map notified_again (map (redacted_sub m) (subscribers_in x.subscriptions kind areas))) =
    λ x. notices-veiled m (notified_in x kind areas) ∙ ap notices_of (told_again-veiled m (subscribers_in x.subscriptions kind areas)) in
    behind a ∙ (ap (λ (ss : List Sub). notices_of (map notified_again ss)) (subscribers_like m a b kind areas l) ∙ sym (behind b))

-- ---- replies to the USS

read_told : (m : List ℕ) (a b : Airspace) (o p : Option Entity) → IsLike m a b → option_map (redacted m) o ≡ option_map (redacted m) p → (read_effect a m o).1 ≡ (read_effect b m p).1
read_told m a b None None l v = refl
read_told m a b None (Some f) l v = cc
read_told m a b (Some e) None l v = cc
read_told m a b (Some e) (Some f) l v =
    let same : redacted m e ≡ redacted m f = cc in
    ap (λ (r : Reference). Done (answers.Found r)) (view_like m a b e f l.availabilities same)

delete_told : (m : List ℕ) (a b : Airspace) (k : EntityKey) (o p : Option Entity) → IsLike m a b → option_map (redacted m) o ≡ option_map (redacted m) p → (delete_effect a m k o).1 ≡ (delete_effect b m k p).1
delete_told m a b k None None l v = refl
delete_told m a b k None (Some f) l v = cc
delete_told m a b k (Some e) None l v = cc
delete_told m a b k (Some e) (Some f) l v =
    let same : redacted m e ≡ redacted m f = cc in
    let told : notices_in a k.0 (touched e.volumes []) ≡ notices_in b k.0 (touched f.volumes []) =
    notices_like m a b k.0 (touched e.volumes []) l ∙ ap (λ (x : Entity). notices_in b k.0 (touched x.volumes [])) same in
    λ i. Done (Changed (view_like m a b e f l.availabilities same i) (told i))

update_told : (m salt : List ℕ) (a b : Airspace) (id : ℕ) (put : Put) (o p : Option Entity) → IsLike m a b → option_map (redacted m) o ≡ option_map (redacted m) p → (update_effect salt a m id put o).1 ≡ (update_effect salt b m id put p).1
update_told m salt a b id put None None l v = refl
update_told m salt a b id put None (Some f) l v = cc
update_told m salt a b id put (Some e) None l v = cc
update_told m salt a b id put (Some e) (Some f) l v =
    let same : redacted m e ≡ redacted m f = cc in
    let x : Entity = updated salt (a.serial + 1) id put e in
    let y : Entity = updated salt (b.serial + 1) id put f in
    let kind : Kind = kind_of put.nature in
    let seen : view_of (stored_with a e.volumes x) m x ≡ view_of (stored_with b f.volumes y) m y =
    view_like m (stored_with a e.volumes x) (stored_with b f.volumes y) x y l.availabilities (ap (redacted m) (same_update m salt a.serial b.serial id put e f l.serial same)) in
    let told : notices_in a kind (touched e.volumes put.volumes) ≡ notices_in b kind (touched f.volumes put.volumes) =
    notices_like m a b kind (touched e.volumes put.volumes) l ∙ ap (λ (z : Entity). notices_in b kind (touched z.volumes put.volumes)) same in
    λ i. Done (Changed (seen i) (told i))

-- ---- replies about subscriptions

-- Redaction leaves the USS's own subscriptions unchanged.
unveiled : (m : List ℕ) (s : Sub) → same_text s.manager m ≡ true → redacted_sub m s ≡ s
unveiled m s h = ap (λ (b : Bool). record s { version = cond b s.version [] }) h

seen_sub_like : (m : List ℕ) (a b : Airspace) (s : Sub) → IsLike m a b → seen_sub a s ≡ seen_sub b s
seen_sub_like m a b s l = ap (sub_view_of s) (dependents_like m a b s.id l)

seen_subs_like : (m : List ℕ) (a b : Airspace) (ss : List Sub) → IsLike m a b → map (seen_sub a) ss ≡ map (seen_sub b) ss
seen_subs_like m a b [] l = refl
seen_subs_like m a b (s ∷ ss) l = λ i. seen_sub_like m a b s l i ∷ seen_subs_like m a b ss l i

own-veiled : (m : List ℕ) (area : Region) (ss : List (ℕ × Sub)) → map (λ s. s.1) (filter (is_own_near m area) ss) ≡ map (λ s. s.1) (filter (is_own_near m area) (map (redacted_sub_entry m) ss))
own-veiled m area [] = refl
own-veiled m area (s ∷ ss) =
    let rest : List (ℕ × Sub) = filter (is_own_near m area) ss in
    let others : List (ℕ × Sub) = filter (is_own_near m area) (map (redacted_sub_entry m) ss) in
    let ih = own-veiled m area ss in
    elim (same_text s.1.manager m) as (λ b. map (λ x. x.1) (cond (b && meets (region_of s.1.volume) area) (s ∷ rest) rest)
    ≡ map (λ x. x.1) (cond (b && meets (region_of s.1.volume) area) ((s.0, record s.1 { version = cond b s.1.version [] }) ∷ others) others)) [
      | true ↦ elim (meets (region_of s.1.volume) area) as (λ b. map (λ x. x.1) (cond b (s ∷ rest) rest) ≡ map (λ x. x.1) (cond b (s ∷ others) others)) [
        | true ↦ ap (λ (xs : List Sub). s.1 ∷ xs) ih
        | false ↦ ih
      ]
      | false ↦ ih
    ]

own_like : (m : List ℕ) (a b : Airspace) (area : Region) → IsLike m a b → subscriptions_in a.subscriptions m area ≡ subscriptions_in b.subscriptions m area
unfolding subscriptions_in
own_like m a b area l =
    own-veiled m area (entries a.subscriptions)
    ∙ (ap (λ (ss : List (ℕ × Sub)). map (λ s. s.1) (filter (is_own_near m area) ss)) l.subscriptions
    ∙ sym (own-veiled m area (entries b.subscriptions)))

own_is : (b : Bool) → not b ≡ false → b ≡ true
own_is true h = refl
own_is false h = cc

-- If two subscriptions are equal when redacted and one belongs to the USS, they are equal.
same_own : (m : List ℕ) (s r : Sub) → redacted_sub m s ≡ redacted_sub m r → same_text r.manager m ≡ true → s ≡ r
same_own m s r v h =
    let here : same_text s.manager m ≡ true = ap (λ (x : Sub). same_text x.manager m) v ∙ h in
    sym (unveiled m s here) ∙ (v ∙ unveiled m r h)

seen_own : (m : List ℕ) (a b : Airspace) (s r : Sub) → IsLike m a b → redacted_sub m s ≡ redacted_sub m r → same_text r.manager m ≡ true → Done (answers.SubFound (seen_sub a s)) ≡ Done (answers.SubFound (seen_sub b r))
seen_own m a b s r l v h = ap (λ (x : SubView). Done (answers.SubFound x)) (seen_sub_like m a b s l ∙ ap (seen_sub b) (same_own m s r v h))

read_sub_told : (caller : Caller) (a b : Airspace) (o p : Option Sub) → IsLike caller.uss a b → option_map (redacted_sub caller.uss) o ≡ option_map (redacted_sub caller.uss) p → is_sub_of_another (Some caller) p ≡ false → (read_sub_effect a o).1 ≡ (read_sub_effect b p).1
read_sub_told caller a b None None l v own = refl
read_sub_told caller a b None (Some r) l v own = cc
read_sub_told caller a b (Some s) None l v own = cc
read_sub_told caller a b (Some s) (Some r) l v own =
    let same : redacted_sub caller.uss s ≡ redacted_sub caller.uss r = cc in
    seen_own caller.uss a b s r l same (own_is (same_text r.manager caller.uss) own)

delete_sub_told : (caller : Caller) (a b : Airspace) (id : ℕ) (o p : Option Sub) → IsLike caller.uss a b → option_map (redacted_sub caller.uss) o ≡ option_map (redacted_sub caller.uss) p → is_sub_of_another (Some caller) p ≡ false → (delete_sub_effect a id o).1 ≡ (delete_sub_effect b id p).1
delete_sub_told caller a b id None None l v own = refl
delete_sub_told caller a b id None (Some r) l v own = cc
delete_sub_told caller a b id (Some s) None l v own = cc
delete_sub_told caller a b id (Some s) (Some r) l v own =
    let same : redacted_sub caller.uss s ≡ redacted_sub caller.uss r = cc in
    seen_own caller.uss a b s r l same (own_is (same_text r.manager caller.uss) own)

seen_of_like : (kind : Kind) (m : List ℕ) (a b : Airspace) (s : Sub) → IsLike m a b → seen_of kind a m s ≡ seen_of kind b m s
seen_of_like kind m a b s l =
    let near : List Region = region_of s.volume ∷ [] in
    ap (λ (rs : List Reference). cond (wants s.interest kind) rs [])
    (seen_like m a b (meeting_in a.entities kind near None) (meeting_in b.entities kind near None) l.availabilities (met_like m a b kind near None l))

stored_like : (m : List ℕ) (a b : Airspace) (s : Sub) → IsLike m a b → stored_reply a m s ≡ stored_reply b m s
stored_like m a b s l = λ i. Done (answers.SubStored (seen_sub_like m a b s l i) (seen_of_like kinds.Intent m a b s l i) (seen_of_like kinds.Constraint m a b s l i))

put_sub_told : (m : List ℕ) (a b : Airspace) (s r : Sub) → IsLike m a b → s ≡ r → (put_sub_effect a m s).1 ≡ (put_sub_effect b m r).1
put_sub_told m a b s r l e =
    stored_like m (with_subscription a s) (with_subscription b s) s (with_sub_like m a b s l)
    ∙ ap (λ (x : Sub). (put_sub_effect b m x).1) e

update_sub_told : (m salt : List ℕ) (a b : Airspace) (id : ℕ) (put : SubPut) (o p : Option Sub) → IsLike m a b → option_map (redacted_sub m) o ≡ option_map (redacted_sub m) p → (update_sub_effect salt a m id put o).1 ≡ (update_sub_effect salt b m id put p).1
update_sub_told m salt a b id put None None l v = refl
update_sub_told m salt a b id put None (Some r) l v = cc
update_sub_told m salt a b id put (Some s) None l v = cc
update_sub_told m salt a b id put (Some s) (Some r) l v =
    let same : redacted_sub m s ≡ redacted_sub m r = cc in
    put_sub_told m a b (sub_stored_as salt (a.serial + 1) s.manager s.index id put) (sub_stored_as salt (b.serial + 1) r.manager r.index id put) l (same_sub_update m salt a.serial b.serial id put s r l.serial same)

-- ---- replies of all effects

-- A call that breaks no rule about the manager gets the same reply.
effect_told : (salt : List ℕ) (a b : Airspace) (caller : Caller) (op : Operation) → IsLike caller.uss a b → breaks_manager (Some caller) op (found_of b op) (sub_of b op) ≡ false → (effect_by salt a caller op).1 ≡ (effect_by salt b caller op).1
effect_told salt a b caller NoRoute l own = refl
effect_told salt a b caller NoMethod l own = refl
effect_told salt a b caller (Malformed kind) l own = refl
effect_told salt a b caller (Query kind area) l own =
    ap (λ (rs : List Reference). Done (Listed kind rs)) (seen_like caller.uss a b (meeting_in a.entities kind (area ∷ []) None) (meeting_in b.entities kind (area ∷ []) None) l.availabilities (met_like caller.uss a b kind (area ∷ []) None l))
effect_told salt a b caller (Read kind id) l own = read_told caller.uss a b (get a.entities (kind, id)) (get b.entities (kind, id)) l (get_like caller.uss a b (kind, id) l)
effect_told salt a b caller (Create id put) l own =
    let x : ℕ → Entity = λ n. created salt (n + 1) caller.uss id put in
    let seen : view_of (stored_with a [] (x a.serial)) caller.uss (x a.serial) ≡ view_of (stored_with b [] (x b.serial)) caller.uss (x b.serial) =
    view_like caller.uss (stored_with a [] (x a.serial)) (stored_with b [] (x b.serial)) (x a.serial) (x b.serial) l.availabilities (ap (λ (n : ℕ). redacted caller.uss (x n)) l.serial) in
    λ i. Done (Created (seen i) (notices_like caller.uss a b (kind_of put.nature) (touched [] put.volumes) l i))
effect_told salt a b caller (Update id ovn put) l own = update_told caller.uss salt a b id put (get a.entities (kind_of put.nature, id)) (get b.entities (kind_of put.nature, id)) l (get_like caller.uss a b (kind_of put.nature, id) l)
effect_told salt a b caller (Delete kind id ovn) l own = delete_told caller.uss a b (kind, id) (get a.entities (kind, id)) (get b.entities (kind, id)) l (get_like caller.uss a b (kind, id) l)
effect_told salt a b caller (ReadAvail uss) l own = λ i. Done (Avail uss (unwrap_or (get (l.availabilities i) uss) (Unknown, [])).0 (unwrap_or (get (l.availabilities i) uss) (Unknown, [])).1)
effect_told salt a b caller (SetAvail uss old availability) l own = λ i. Done (Avail uss availability (ovn_text salt (l.serial i + 1)))
effect_told salt a b caller (QuerySub area) l own =
    ap (λ (vs : List SubView). Done (answers.SubListed vs)) (seen_subs_like caller.uss a b (subscriptions_in a.subscriptions caller.uss area) l ∙ ap (map (seen_sub b)) (own_like caller.uss a b area l))
effect_told salt a b caller (ReadSub id) l own = read_sub_told caller a b (get a.subscriptions id) (get b.subscriptions id) l (get_sub_like caller.uss a b id l) own
effect_told salt a b caller (CreateSub id put) l own =
    let x : ℕ → Sub = λ n. sub_stored_as salt (n + 1) caller.uss 0 id put in
    put_sub_told caller.uss a b (x a.serial) (x b.serial) l (ap x l.serial)
effect_told salt a b caller (UpdateSub id version put) l own = update_sub_told caller.uss salt a b id put (get a.subscriptions id) (get b.subscriptions id) l (get_sub_like caller.uss a b id l)
effect_told salt a b caller (DeleteSub id version) l own = delete_sub_told caller a b id (get a.subscriptions id) (get b.subscriptions id) l (get_sub_like caller.uss a b id l) own

-- ---- missing references

-- Whether a key has the OVN of an entity follows from the redacted entity and from what is known of
-- it.
seen_known : (own : Bool) (key : List (List ℕ)) (ovn : List ℕ) → in_key key ovn ≡ cond own (in_key key (cond own ovn [])) (own || in_key key ovn)
seen_known true key ovn = refl
seen_known false key ovn = refl

-- The entities that are sought and missing, given the redacted entries and, for each, whether its
-- OVN is known.
abbrev missing_known : List ℕ → (EntityKey × Entity → Bool) → List (List ℕ) → List (EntityKey × Entity) → List Bool → List Entity
missing_known m test key [] bs = []
missing_known m test key (x ∷ xs) [] = []
missing_known m test key (x ∷ xs) (b ∷ bs) =
    cond (test x) (cond (not (cond (same_text x.1.manager m) (in_key key x.1.ovn) b)) (x.1 ∷ missing_known m test key xs bs) (missing_known m test key xs bs)) (missing_known m test key xs bs)

-- Returns true if an entity is sought and not spared, given the availabilities.
abbrev met_and_owed : Availabilities → Kind → List Region → Option ℕ → EntityKey × Entity → Bool
met_and_owed set kind areas except e = is_sought kind areas except e && not (spared e.1 (unwrap_or (get set e.1.manager) (Unknown, [])).0)

missing-veiled : (m : List ℕ) (set : Availabilities) (kind : Kind) (areas : List Region) (except : Option ℕ) (key : List (List ℕ)) (es : List (EntityKey × Entity))
    → map (redacted m) (filter (is_missing_from key) (map (λ e. e.1) (filter (met_and_owed set kind areas except) es)))
    ≡ missing_known m (met_and_owed set kind areas except) key (map (redacted_entry m) es) (map (λ e. same_text e.1.manager m || in_key key e.1.ovn) es)
missing-veiled m set kind areas except key [] = refl
missing-veiled m set kind areas except key (x ∷ es) =
    let test : EntityKey × Entity → Bool = met_and_owed set kind areas except in
    let rest : List Entity = missing_known m test key (map (redacted_entry m) es) (map (λ e. same_text e.1.manager m || in_key key e.1.ovn) es) in
    let ih = missing-veiled m set kind areas except key es in
    elim (met_and_owed set kind areas except x) as (λ b. map (redacted m) (filter (is_missing_from key) (map (λ e. e.1) (cond b (x ∷ filter test es) (filter test es))))
    ≡ cond b (cond (not (cond (same_text x.1.manager m) (in_key key (cond (same_text x.1.manager m) x.1.ovn [])) (same_text x.1.manager m || in_key key x.1.ovn))) (redacted m x.1 ∷ rest) rest) rest) [
      | true ↦ subst (λ (k : Bool). map (redacted m) (cond (not (in_key key x.1.ovn)) (x.1 ∷ filter (is_missing_from key) (map (λ e. e.1) (filter test es))) (filter (is_missing_from key) (map (λ e. e.1) (filter test es)))) ≡ cond (not k) (redacted m x.1 ∷ rest) rest) (seen_known (same_text x.1.manager m) key x.1.ovn) (
          elim (in_key key x.1.ovn) as (λ k. map (redacted m) (cond (not k) (x.1 ∷ filter (is_missing_from key) (map (λ e. e.1) (filter test es))) (filter (is_missing_from key) (map (λ e. e.1) (filter test es)))) ≡ cond (not k) (redacted m x.1 ∷ rest) rest) [
            | true ↦ ih
            | false ↦ ap (λ (ys : List Entity). redacted m x.1 ∷ ys) ih
          ])
      | false ↦ ih
    ]

met_missing_like : (m : List ℕ) (a b : Airspace) (kind : Kind) (areas : List Region) (except : Option ℕ) (key : List (List ℕ)) → IsLike m a b
    → map (λ e. same_text e.1.manager m || in_key key e.1.ovn) (entries a.entities) ≡ map (λ e. same_text e.1.manager m || in_key key e.1.ovn) (entries b.entities)
    → map (redacted m) (missing_from key (unspared a (meeting_in a.entities kind areas except))) ≡ map (redacted m) (missing_from key (unspared b (meeting_in b.entities kind areas except)))
unfolding missing_from meeting_in
met_missing_like m a b kind areas except key l k =
    let side : (x : Airspace) → map (redacted m) (filter (is_missing_from key) (unspared x (map (λ e. e.1) (filter (is_sought kind areas except) (entries x.entities)))))
    ≡ missing_known m (met_and_owed x.availabilities kind areas except) key (map (redacted_entry m) (entries x.entities)) (map (λ e. same_text e.1.manager m || in_key key e.1.ovn) (entries x.entities)) =
    λ x. ap (λ (es : List Entity). map (redacted m) (filter (is_missing_from key) es)) (both_at_once (λ (e : EntityKey × Entity). e.1) (λ e. not (is_spared x e)) (is_sought kind areas except) (entries x.entities))
    ∙ missing-veiled m x.availabilities kind areas except key (entries x.entities) in
    side a ∙ ((λ i. missing_known m (met_and_owed (l.availabilities i) kind areas except) key (l.entities i) (k i)) ∙ sym (side b))

-- The missing entities are equal when redacted, whether the call needs to know this kind or not.
asked_like : (m : List ℕ) (asked : Bool) (key : List (List ℕ)) (es fs : List Entity) → map (redacted m) (missing_from key es) ≡ map (redacted m) (missing_from key fs)
    → map (redacted m) (missing_from key (cond asked es [])) ≡ map (redacted m) (missing_from key (cond asked fs []))
asked_like m true key es fs h = h
asked_like m false key es fs h = refl

-- Redaction leaves unchanged what a subscription is for.
needs_kind-veiled : (m : List ℕ) (kind : Kind) (caller : Option Caller) (named : Option ℕ) (o : Option Sub) → needs_kind kind caller named o ≡ needs_kind kind caller named (option_map (redacted_sub m) o)
needs_kind-veiled m kinds.Intent caller named o = refl
needs_kind-veiled m kinds.Constraint caller None o = refl
needs_kind-veiled m kinds.Constraint caller (Some id) None = refl
needs_kind-veiled m kinds.Constraint caller (Some id) (Some s) = refl

asks_like : (m : List ℕ) (kind : Kind) (a b : Airspace) (caller : Option Caller) (put : Put) → IsLike m a b → put_needs kind caller put (sub_under a (subscription_of put.nature)) ≡ put_needs kind caller put (sub_under b (subscription_of put.nature))
asks_like m kind a b caller put l =
    let named : Option ℕ = subscription_of put.nature in
    ap (λ (b : Bool). needs_key put.nature && b) (needs_kind-veiled m kind caller named (sub_under a named)
    ∙ (ap (needs_kind kind caller named) (under_like m a b named l) ∙ sym (needs_kind-veiled m kind caller named (sub_under b named))))

needed_like : (m : List ℕ) (kind : Kind) (a b : Airspace) (caller : Option Caller) (id : ℕ) (put : Put) → IsLike m a b
    → map (λ e. same_text e.1.manager m || in_key put.key e.1.ovn) (entries a.entities) ≡ map (λ e. same_text e.1.manager m || in_key put.key e.1.ovn) (entries b.entities)
    → map (redacted m) (missing_from put.key (needed_put kind a caller id put)) ≡ map (redacted m) (missing_from put.key (needed_put kind b caller id put))
needed_like m kind a b caller id put l k =
    let areas : List Region = map region_of put.volumes in
    let of : Airspace → List Entity = λ x. unspared x (meeting_in x.entities kind areas (excepted kind id)) in
    asked_like m (put_needs kind caller put (sub_under a (subscription_of put.nature))) put.key (of a) (of b) (met_missing_like m a b kind areas (excepted kind id) put.key l k)
    ∙ ap (λ (asked : Bool). map (redacted m) (missing_from put.key (cond asked (of b) []))) (asks_like m kind a b caller put l)

missing_put_like : (a b : Airspace) (caller : Caller) (id : ℕ) (put : Put) → IsLike caller.uss a b
    → map (λ e. same_text e.1.manager caller.uss || in_key put.key e.1.ovn) (entries a.entities) ≡ map (λ e. same_text e.1.manager caller.uss || in_key put.key e.1.ovn) (entries b.entities)
    → missing_put a caller id put ≡ missing_put b caller id put
missing_put_like a b caller id put l k =
    let of : Airspace → Kind → List Entity = λ x kind. missing_from put.key (needed_put kind x (Some caller) id put) in
    let seen : (kind : Kind) → map (view_of a caller.uss) (of a kind) ≡ map (view_of b caller.uss) (of b kind) =
    λ kind. seen_like caller.uss a b (of a kind) (of b kind) l.availabilities (needed_like caller.uss kind a b (Some caller) id put l k) in
    λ i. record { intents = seen kinds.Intent i; constraints = seen kinds.Constraint i }

-- The USS's own call lacks the same references in both airspaces.
missing_like : (a b : Airspace) (caller : Caller) (op : Operation) → IsLike caller.uss a b → known caller.uss op a ≡ known caller.uss op b → missing_for a (Some caller) op ≡ missing_for b (Some caller) op
unfolding missing_from
missing_like a b caller NoRoute l k = refl
missing_like a b caller NoMethod l k = refl
missing_like a b caller (Malformed kind) l k = refl
missing_like a b caller (Query kind area) l k = refl
missing_like a b caller (Read kind id) l k = refl
missing_like a b caller (Create id put) l k = missing_put_like a b caller id put l k
missing_like a b caller (Update id ovn put) l k = missing_put_like a b caller id put l k
missing_like a b caller (Delete kind id ovn) l k = refl
missing_like a b caller (ReadAvail uss) l k = refl
missing_like a b caller (SetAvail uss old availability) l k = refl
missing_like a b caller (QuerySub area) l k = refl
missing_like a b caller (ReadSub id) l k = refl
missing_like a b caller (CreateSub id put) l k = refl
missing_like a b caller (UpdateSub id version put) l k = refl
missing_like a b caller (DeleteSub id version) l k = refl

-- Another USS's call lacks references in both airspaces or in neither.
none_like : (m : List ℕ) (v w : Entity → Reference) (es fs : List Entity) → map (redacted m) es ≡ map (redacted m) fs → is_none_of (map v es) ≡ is_none_of (map w fs)
none_like m v w [] [] h = refl
none_like m v w [] (f ∷ fs) h = cc
none_like m v w (e ∷ es) [] h = cc
none_like m v w (e ∷ es) (f ∷ fs) h = refl

nothing_put_like : (m : List ℕ) (a b : Airspace) (caller : Caller) (id : ℕ) (put : Put) → IsLike m a b
    → map (λ e. same_text e.1.manager m || in_key put.key e.1.ovn) (entries a.entities) ≡ map (λ e. same_text e.1.manager m || in_key put.key e.1.ovn) (entries b.entities)
    → is_nothing (missing_put a caller id put) ≡ is_nothing (missing_put b caller id put)
nothing_put_like m a b caller id put l k =
    let of : Airspace → Kind → List Entity = λ x kind. missing_from put.key (needed_put kind x (Some caller) id put) in
    let none : (kind : Kind) → is_none_of (map (view_of a caller.uss) (of a kind)) ≡ is_none_of (map (view_of b caller.uss) (of b kind)) =
    λ kind. none_like m (view_of a caller.uss) (view_of b caller.uss) (of a kind) (of b kind) (needed_like m kind a b (Some caller) id put l k) in
    λ i. none kinds.Intent i && none kinds.Constraint i

nothing_like : (m : List ℕ) (a b : Airspace) (caller : Caller) (op : Operation) → IsLike m a b → known m op a ≡ known m op b → is_nothing (missing_for a (Some caller) op) ≡ is_nothing (missing_for b (Some caller) op)
unfolding missing_from
nothing_like m a b caller NoRoute l k = refl
nothing_like m a b caller NoMethod l k = refl
nothing_like m a b caller (Malformed kind) l k = refl
nothing_like m a b caller (Query kind area) l k = refl
nothing_like m a b caller (Read kind id) l k = refl
nothing_like m a b caller (Create id put) l k = nothing_put_like m a b caller id put l k
nothing_like m a b caller (Update id ovn put) l k = nothing_put_like m a b caller id put l k
nothing_like m a b caller (Delete kind id ovn) l k = refl
nothing_like m a b caller (ReadAvail uss) l k = refl
nothing_like m a b caller (SetAvail uss old availability) l k = refl
nothing_like m a b caller (QuerySub area) l k = refl
nothing_like m a b caller (ReadSub id) l k = refl
nothing_like m a b caller (CreateSub id put) l k = refl
nothing_like m a b caller (UpdateSub id version put) l k = refl
nothing_like m a b caller (DeleteSub id version) l k = refl

-- ---- P14 and P15

limit-veiled : (m : List ℕ) (o : Option Entity) (n : ℕ) (op : Operation) → breaks_limit op o n ≡ breaks_limit op (option_map (redacted m) o) n
limit-veiled m None n op = refl
limit-veiled m (Some e) n NoRoute = refl
limit-veiled m (Some e) n NoMethod = refl
limit-veiled m (Some e) n (Malformed kind) = refl
limit-veiled m (Some e) n (Query kind area) = refl
limit-veiled m (Some e) n (Read kind id) = refl
limit-veiled m (Some e) n (Create id put) = refl
limit-veiled m (Some e) n (Update id ovn put) = refl
limit-veiled m (Some e) n (Delete kind id ovn) = refl
limit-veiled m (Some e) n (ReadAvail uss) = refl
limit-veiled m (Some e) n (SetAvail uss old availability) = refl
limit-veiled m (Some e) n (QuerySub area) = refl
limit-veiled m (Some e) n (ReadSub id) = refl
limit-veiled m (Some e) n (CreateSub id put) = refl
limit-veiled m (Some e) n (UpdateSub id version put) = refl
limit-veiled m (Some e) n (DeleteSub id version) = refl

limit_like : (m : List ℕ) (a b : Airspace) (op : Operation) → IsLike m a b → breaks_limit op (found_of a op) a.serial ≡ breaks_limit op (found_of b op) b.serial
limit_like m a b op l =
    limit-veiled m (found_of a op) a.serial op
    ∙ ((λ i. breaks_limit op (found_like m a b op l i) (l.serial i))
    ∙ sym (limit-veiled m (found_of b op) b.serial op))

pub last_like : (m : List ℕ) (a b : Airspace) (t : ℕ) (caller : Caller) (op : Operation) → IsLike m a b → known m op a ≡ known m op b
    → find (breaks a t (record { caller = Some caller; op = op })) last_rules ≡ find (breaks b t (record { caller = Some caller; op = op })) last_rules
last_like m a b t caller op l k =
    λ i. cond (not (nothing_like m a b caller op l k i)) (Some Key) (cond (limit_like m a b op l i) (Some Limit) None)

-- ---- calls of the USS

own_first : (m : List ℕ) (a b : Airspace) (t : ℕ) (caller : Caller) (op : Operation) → IsLike m a b → is_uss m (Some caller) ≡ true → known m op a ≡ known m op b
    → first_broken a t (record { caller = Some caller; op = op }) ≡ first_broken b t (record { caller = Some caller; op = op })
unfolding first_broken
own_first m a b t caller op l is k =
    let c : Call = record { caller = Some caller; op = op } in
    find-append (breaks a t c) (early_rules ++ standing_rules) last_rules
    ∙ ((λ i. or_else (rules_like m a b t (Some caller) op l is i) (last_like m a b t caller op l k i))
    ∙ sym (find-append (breaks b t c) (early_rules ++ standing_rules) last_rules))

told_like : (a b : Airspace) (caller : Caller) (op : Operation) (p : Rule) → missing_for a (Some caller) op ≡ missing_for b (Some caller) op → missing_views a (record { caller = Some caller; op = op }) p ≡ missing_views b (record { caller = Some caller; op = op }) p
told_like a b caller op Route h = refl
told_like a b caller op Method h = refl
told_like a b caller op Token h = refl
told_like a b caller op Scope h = refl
told_like a b caller op Form h = refl
told_like a b caller op Area h = refl
told_like a b caller op Found h = refl
told_like a b caller op Fresh h = refl
told_like a b caller op Manager h = refl
told_like a b caller op Version h = refl
told_like a b caller op Role h = refl
told_like a b caller op Change h = refl
told_like a b caller op Ended h = refl
told_like a b caller op Key h = h
told_like a b caller op Limit h = refl
told_like a b caller op Subscription h = refl
told_like a b caller op Depended h = refl

-- A call that breaks no rule does not break the rule about the manager.
own_managed : (a : Airspace) (t : ℕ) (c : Call) → first_broken a t c ≡ None → breaks a t c Manager ≡ false
unfolding first_broken
own_managed a t c h = none_passes (breaks a t c) (Route ∷ Method ∷ Token ∷ Scope ∷ Form ∷ Area ∷ Found ∷ Fresh ∷ []) (Version ∷ Role ∷ Change ∷ Ended ∷ Subscription ∷ Depended ∷ Key ∷ Limit ∷ []) Manager h

step_told : (salt : List ℕ) (a b : Airspace) (t : ℕ) (caller : Caller) (op : Operation) (r : Option Rule) → first_broken b t (record { caller = Some caller; op = op }) ≡ r → IsLike caller.uss a b → known caller.uss op a ≡ known caller.uss op b
    → (step_by salt a (record { caller = Some caller; op = op }) r).1 ≡ (step_by salt b (record { caller = Some caller; op = op }) r).1
step_told salt a b t caller op None h l k = effect_told salt a b caller op l (own_managed b t (record { caller = Some caller; op = op }) h)
step_told salt a b t caller op (Some p) h l k = ap (Denied p) (told_like a b caller op p (missing_like a b caller op l k))

step_like : (m salt : List ℕ) (a b : Airspace) (c : Call) (r : Option Rule) → IsLike m a b → IsLike m (step_by salt a c r).0 (step_by salt b c r).0
step_like m salt a b c None l = effect_like m salt a b c.caller c.op l
step_like m salt a b c (Some p) l = l

own_told : (salt : List ℕ) (a b : Airspace) (t : ℕ) (caller : Caller) (op : Operation) → IsLike caller.uss a b → is_uss caller.uss (Some caller) ≡ true → known caller.uss op a ≡ known caller.uss op b
    → (step salt a t (record { caller = Some caller; op = op })).1 ≡ (step salt b t (record { caller = Some caller; op = op })).1
unfolding step
own_told salt a b t caller op l is k =
    let c : Call = record { caller = Some caller; op = op } in
    ap (λ (r : Option Rule). (step_by salt a c r).1) (own_first caller.uss a b t caller op l is k) ∙ step_told salt a b t caller op (first_broken b t c) refl l k

pub stays_like : (m salt : List ℕ) (a b : Airspace) (t : ℕ) (c : Call) → IsLike m a b → first_broken a t c ≡ first_broken b t c → IsLike m (step salt a t c).0 (step salt b t c).0
unfolding step
stays_like m salt a b t c l h = subst (λ (r : Option Rule). IsLike m (step_by salt a c (first_broken a t c)).0 (step_by salt b c r).0) h (step_like m salt a b c (first_broken a t c) l)

pub own_call : (salt m : List ℕ) (a b : Airspace) (t : ℕ) (caller : Option Caller) (op : Operation) → IsLike m a b → is_uss m caller ≡ true → known m op a ≡ known m op b
    → ((step salt a t (record { caller = caller; op = op })).1 ≡ (step salt b t (record { caller = caller; op = op })).1) × IsLike m (step salt a t (record { caller = caller; op = op })).0 (step salt b t (record { caller = caller; op = op })).0
own_call salt m a b t None op l is k = cc
own_call salt m a b t (Some caller) op l is k =
    let same : m ≡ caller.uss = sym (one_uss m caller is) in
    let own : is_uss caller.uss (Some caller) ≡ true = subst (λ (u : List ℕ). is_uss u (Some caller) ≡ true) same is in (
      own_told salt a b t caller op (subst (λ (u : List ℕ). IsLike u a b) same l) own (subst (λ (u : List ℕ). known u op a ≡ known u op b) same k),
      stays_like m salt a b t (record { caller = Some caller; op = op }) l (own_first m a b t caller op l is k),
    )
