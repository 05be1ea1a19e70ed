-- Lemmas: a forward-looking call gets the same reply before and after a purge.
use Rattle.std.specs.Prelude.{◌≡◌, ℕ, ◌+◌, Bool, true, false, cond, List, [], ◌∷◌, map, filter, Option, Some, None, refl}
use Rattle.std.proofs.Common.{sym, ap, ◌∙◌, subst}
use Rattle.std.proofs.lemmas.Cmp.{nat_cmp_total}
use Rattle.std.specs.List.{AllByRecursion}
use Rattle.std.specs.FinMap.{entries, get}
use Rattle.grid_core.specs.Extent.{Region, region_of}
use Rattle.entity_core.specs.Airspace.{Airspace, EntityKey, IsAirspace, with_subscription}
use Rattle.entity_core.specs.Entity.{kind_of}
use Rattle.entity_core.specs.Search.{is_for_near, is_own_near, subscriptions_in}
use Rattle.entity_core.specs.Subscription.{wants}
use Rattle.entity_core.specs.declared.entity.Entity.{Entity}
use Rattle.entity_core.specs.declared.nature.Kind.{Kind}
use Rattle.entity_core.specs.declared.nature.Kind.TheVariants as kinds
use Rattle.entity_core.specs.declared.subscription.Sub.{Sub}
use Rattle.policy_core.specs.declared.scope.Caller.{Caller}
use Rattle.policy_core.specs.declared.call.Call.{Call}
use Rattle.policy_core.specs.declared.call.Put.{Put}
use Rattle.policy_core.specs.declared.call.SubPut.{SubPut}
use Rattle.policy_core.specs.declared.call.Operation.{Operation}
use Rattle.policy_core.specs.declared.call.Operation.TheVariants.{NoRoute, NoMethod, Malformed, Query, Read, Create, Update, Delete, ReadAvail, SetAvail, QuerySub, ReadSub, CreateSub, UpdateSub, DeleteSub}
use Rattle.policy_core.specs.declared.rule.Rule.{Rule}
use Rattle.policy_core.specs.declared.rule.Rule.TheVariants.{Route, Method, Token, Scope, Form, Area, Found, Fresh, Manager, Version, Role, Change, Ended, Key, Limit, Subscription, Depended}
use Rattle.policy_core.specs.declared.sub_view.SubView.{SubView}
use Rattle.policy_core.specs.Missing.{missing_for}
use Rattle.policy_core.specs.Policy.{first_broken}
use Rattle.policy_core.specs.SubView.{sub_view_of}
use Rattle.policy_core.specs.View.{view_of}
use Rattle.service_notify.specs.Notices.{notices_in, touched, volumes_of}
use Rattle.service_step.specs.declared.reply.Answer.TheVariants.{Created, Changed, Found as FoundOne, Listed, SubStored, SubFound, SubListed}
use Rattle.service_step.specs.declared.reply.Reply.TheVariants.{Done, Denied}
use Rattle.service_step.specs.Step.{created, delete_effect, delete_sub_effect, effect, stored_with, read_effect, read_sub_effect, seen_of, seen_sub, step, step_by, stored_reply, sub_stored_as, missing_views, update_effect, update_sub_effect, updated}
use Rattle.service_purge.specs.Ahead.{BeginAfter, IsUnnamed, LooksAhead, PurgeIsInvisible, is_after}
use Rattle.entity_purge.specs.Purge.{is_due_for_purge, purged}
use Rattle.service_purge.proofs.Apart.{dependents_ahead, meeting_ahead, notices_ahead, own_ahead}
use Rattle.service_purge.proofs.Facts.{get_ahead, get_sub_ahead, same_first, sees_ahead, view_same}
use Rattle.entity_purge.proofs.Maps.{each_found}

-- ---- entities

read_told : (uss : List ℕ) (a b : Airspace) (o : Option Entity) → a.availabilities ≡ b.availabilities → (read_effect a uss o).1 ≡ (read_effect b uss o).1
read_told uss a b None l = refl
read_told uss a b (Some e) l = λ i. Done (FoundOne (view_same uss a b l i e))

-- Holds if the notices are the same after a purge.
abbrev TellsTheSame : ℕ → Airspace → Kind → List Region → Type 0
TellsTheSame until a kind areas = notices_in (purged until a) kind areas ≡ notices_in a kind areas

create_told : (until : ℕ) (a : Airspace) (uss : List ℕ) (e : Entity) → TellsTheSame until a (kind_of e.nature) (touched [] e.volumes)
    → Done (Created (view_of (stored_with (purged until a) [] e) uss e) (notices_in (purged until a) (kind_of e.nature) (touched [] e.volumes)))
    ≡ Done (Created (view_of (stored_with a [] e) uss e) (notices_in a (kind_of e.nature) (touched [] e.volumes)))
create_told until a uss e told = λ i. Done (Created (view_same uss (stored_with (purged until a) [] e) (stored_with a [] e) refl i e) (told i))

-- Holds if no subscription that an update notifies is due.
abbrev UpdateTold : ℕ → Airspace → Put → Option Entity → Type 0
UpdateTold until a put o = (id : ℕ) (s : Sub) → get a.subscriptions id ≡ Some s → is_for_near (kind_of put.nature) (touched (volumes_of o) put.volumes) (id, s) ≡ true → is_due_for_purge until a (id, s) ≡ false

update_told : (until : ℕ) (salt : List ℕ) (a : Airspace) (uss : List ℕ) (id : ℕ) (put : Put) (o : Option Entity) → UpdateTold until a put o → (update_effect salt (purged until a) uss id put o).1 ≡ (update_effect salt a uss id put o).1
update_told until salt a uss id put None told = refl
update_told until salt a uss id put (Some e) told =
    let new : Entity = updated salt (a.serial + 1) id put e in
    let notices : TellsTheSame until a (kind_of put.nature) (touched e.volumes put.volumes) = notices_ahead until a (kind_of put.nature) (touched e.volumes put.volumes) told in
    λ i. Done (Changed (view_same uss (stored_with (purged until a) e.volumes new) (stored_with a e.volumes new) refl i new) (notices i))

abbrev DeleteTold : ℕ → Airspace → Kind → Option Entity → Type 0
DeleteTold until a kind o = (id : ℕ) (s : Sub) → get a.subscriptions id ≡ Some s → is_for_near kind (touched (volumes_of o) []) (id, s) ≡ true → is_due_for_purge until a (id, s) ≡ false

delete_told : (until : ℕ) (a : Airspace) (uss : List ℕ) (k : EntityKey) (o : Option Entity) → DeleteTold until a k.0 o → (delete_effect (purged until a) uss k o).1 ≡ (delete_effect a uss k o).1
delete_told until a uss k None told = refl
delete_told until a uss k (Some e) told =
    let notices : TellsTheSame until a k.0 (touched e.volumes []) = notices_ahead until a k.0 (touched e.volumes []) told in
    λ i. Done (Changed (view_same uss (purged until a) a refl i e) (notices i))

-- ---- subscriptions

seen_ahead : (until : ℕ) (a : Airspace) (s : Sub) → IsUnnamed until a s.id → seen_sub (purged until a) s ≡ seen_sub a s
seen_ahead until a s unnamed = ap (sub_view_of s) (dependents_ahead until a s.id unnamed)

-- The subscription stored under an id has that id.
unnamed_own : (until : ℕ) (a : Airspace) (id : ℕ) (s : Sub) → IsAirspace a → get a.subscriptions id ≡ Some s → IsUnnamed until a id → IsUnnamed until a s.id
unnamed_own until a id s proper there unnamed = subst (IsUnnamed until a) (sym (proper.own id s there)) unnamed

read_sub_told : (until : ℕ) (a : Airspace) (id : ℕ) (o : Option Sub) → IsAirspace a → get a.subscriptions id ≡ o → IsUnnamed until a id → (read_sub_effect (purged until a) o).1 ≡ (read_sub_effect a o).1
read_sub_told until a id None proper there unnamed = refl
read_sub_told until a id (Some s) proper there unnamed = ap (λ (v : SubView). Done (SubFound v)) (seen_ahead until a s (unnamed_own until a id s proper there unnamed))

delete_sub_told : (until : ℕ) (a : Airspace) (id : ℕ) (o : Option Sub) → IsAirspace a → get a.subscriptions id ≡ o → IsUnnamed until a id → (delete_sub_effect (purged until a) id o).1 ≡ (delete_sub_effect a id o).1
delete_sub_told until a id None proper there unnamed = refl
delete_sub_told until a id (Some s) proper there unnamed = ap (λ (v : SubView). Done (SubFound v)) (seen_ahead until a s (unnamed_own until a id s proper there unnamed))

-- The same entities are seen for a subscription that begins later.
seen_of_ahead : (until : ℕ) (kind : Kind) (a : Airspace) (uss : List ℕ) (s : Sub) → BeginAfter until (region_of s.volume ∷ []) → seen_of kind (with_subscription (purged until a) s) uss s ≡ seen_of kind (with_subscription a s) uss s
seen_of_ahead until kind a uss s begin =
    λ i. cond (wants s.interest kind) (map (view_same uss (with_subscription (purged until a) s) (with_subscription a s) refl i) (meeting_ahead until a.entities kind (region_of s.volume ∷ []) None begin i)) []

stored_ahead : (until : ℕ) (a : Airspace) (uss : List ℕ) (s : Sub) → BeginAfter until (region_of s.volume ∷ []) → IsUnnamed until a s.id → stored_reply (with_subscription (purged until a) s) uss s ≡ stored_reply (with_subscription a s) uss s
stored_ahead until a uss s begin unnamed =
    λ i. Done (SubStored (sub_view_of s (dependents_ahead until a s.id unnamed i)) (seen_of_ahead until kinds.Intent a uss s begin i) (seen_of_ahead until kinds.Constraint a uss s begin i))

update_sub_told : (until : ℕ) (salt : List ℕ) (a : Airspace) (uss : List ℕ) (id : ℕ) (put : SubPut) (o : Option Sub) → BeginAfter until (region_of put.volume ∷ []) → IsUnnamed until a id
    → (update_sub_effect salt (purged until a) uss id put o).1 ≡ (update_sub_effect salt a uss id put o).1
update_sub_told until salt a uss id put None begin unnamed = refl
update_sub_told until salt a uss id put (Some s) begin unnamed = stored_ahead until a uss (sub_stored_as salt (a.serial + 1) s.manager s.index id put) begin unnamed

-- Each subscription of a USS that meets an area is seen the same.
each_seen : (until : ℕ) (a : Airspace) (uss : List ℕ) (area : Region) (ss : List (ℕ × Sub)) → IsAirspace a → ((id : ℕ) (s : Sub) → get a.subscriptions id ≡ Some s → is_own_near uss area (id, s) ≡ true → IsUnnamed until a id)
    → AllByRecursion (λ s. get a.subscriptions s.0 ≡ Some s.1) ss
    → map (seen_sub (purged until a)) (map (λ s. s.1) (filter (is_own_near uss area) ss)) ≡ map (seen_sub a) (map (λ s. s.1) (filter (is_own_near uss area) ss))
each_seen until a uss area [] proper unnamed there = refl
each_seen until a uss area (s ∷ ss) proper unnamed there =
    let near : ℕ × Sub → Bool = is_own_near uss area in
    let rest = each_seen until a uss area ss proper unnamed there.1 in
    elim (is_own_near uss area s) as (λ b. is_own_near uss area s ≡ b → map (seen_sub (purged until a)) (map (λ x. x.1) (cond b (s ∷ filter near ss) (filter near ss))) ≡ map (seen_sub a) (map (λ x. x.1) (cond b (s ∷ filter near ss) (filter near ss)))) [
      | true ↦ λ t. λ i. seen_ahead until a s.1 (unnamed_own until a s.0 s.1 proper there.0 (unnamed s.0 s.1 there.0 t)) i ∷ rest i
      | false ↦ λ t. rest
    ] refl

query_sub_ahead : (until : ℕ) (a : Airspace) (uss : List ℕ) (area : Region) → IsAirspace a → is_after until area.first ≡ true → ((id : ℕ) (s : Sub) → get a.subscriptions id ≡ Some s → is_own_near uss area (id, s) ≡ true → IsUnnamed until a id)
    → map (seen_sub (purged until a)) (subscriptions_in (purged until a).subscriptions uss area) ≡ map (seen_sub a) (subscriptions_in a.subscriptions uss area)
unfolding subscriptions_in
query_sub_ahead until a uss area proper begin unnamed =
    ap (map (seen_sub (purged until a))) (own_ahead until (purged until a).entities a.subscriptions uss area begin)
    ∙ each_seen until a uss area (entries a.subscriptions) proper unnamed (each_found nat_cmp_total a.subscriptions)

-- ---- effects

effect_told : (until : ℕ) (salt : List ℕ) (a : Airspace) (caller : Option Caller) (op : Operation) → IsAirspace a → LooksAhead until a (record { caller = caller; op = op })
    → (effect salt (purged until a) caller op).1 ≡ (effect salt a caller op).1
effect_told until salt a None op proper look = refl
effect_told until salt a (Some caller) NoRoute proper look = refl
effect_told until salt a (Some caller) NoMethod proper look = refl
effect_told until salt a (Some caller) (Malformed kind) proper look = refl
effect_told until salt a (Some caller) (Query kind area) proper look =
    λ i. Done (Listed kind (map (view_same caller.uss (purged until a) a refl i) (meeting_ahead until a.entities kind (area ∷ []) None look.begins i)))
effect_told until salt a (Some caller) (Read kind id) proper look =
    ap (λ (o : Option Entity). (read_effect (purged until a) caller.uss o).1) (get_ahead until a.entities (kind, id) look.names)
    ∙ read_told caller.uss (purged until a) a (get a.entities (kind, id)) refl
effect_told until salt a (Some caller) (Create id put) proper look =
    create_told until a caller.uss (created salt (a.serial + 1) caller.uss id put) (notices_ahead until a (kind_of put.nature) (touched [] put.volumes) look.told)
effect_told until salt a (Some caller) (Update id ovn put) proper look =
    let key : EntityKey = (kind_of put.nature, id) in
    ap (λ (o : Option Entity). (update_effect salt (purged until a) caller.uss id put o).1) (get_ahead until a.entities key look.names)
    ∙ update_told until salt a caller.uss id put (get a.entities key) look.told
effect_told until salt a (Some caller) (Delete kind id ovn) proper look =
    ap (λ (o : Option Entity). (delete_effect (purged until a) caller.uss (kind, id) o).1) (get_ahead until a.entities (kind, id) look.names)
    ∙ delete_told until a caller.uss (kind, id) (get a.entities (kind, id)) look.told
effect_told until salt a (Some caller) (ReadAvail uss) proper look = refl
effect_told until salt a (Some caller) (SetAvail uss old availability) proper look = refl
effect_told until salt a (Some caller) (QuerySub area) proper look =
    ap (λ (vs : List SubView). Done (SubListed vs)) (query_sub_ahead until a caller.uss area proper look.begins.0 (λ id s there own. look.shows id (s, there, own)))
effect_told until salt a (Some caller) (ReadSub id) proper look =
    ap (λ (o : Option Sub). (read_sub_effect (purged until a) o).1) (get_sub_ahead until a id (λ s h. look.names_sub id s refl h))
    ∙ read_sub_told until a id (get a.subscriptions id) proper refl (look.shows id refl)
effect_told until salt a (Some caller) (CreateSub id put) proper look =
    stored_ahead until a caller.uss (sub_stored_as salt (a.serial + 1) caller.uss 0 id put) look.begins (look.shows id refl)
effect_told until salt a (Some caller) (UpdateSub id version put) proper look =
    ap (λ (o : Option Sub). (update_sub_effect salt (purged until a) caller.uss id put o).1) (get_sub_ahead until a id (λ s h. look.names_sub id s refl h))
    ∙ update_sub_told until salt a caller.uss id put (get a.subscriptions id) look.begins (look.shows id refl)
effect_told until salt a (Some caller) (DeleteSub id version) proper look =
    ap (λ (o : Option Sub). (delete_sub_effect (purged until a) id o).1) (get_sub_ahead until a id (λ s h. look.names_sub id s refl h))
    ∙ delete_sub_told until a id (get a.subscriptions id) proper refl (look.shows id refl)

-- ---- replies

missing_told : (a b : Airspace) (c : Call) (p : Rule) → missing_for a c.caller c.op ≡ missing_for b c.caller c.op → missing_views a c p ≡ missing_views b c p
missing_told a b c Route h = refl
missing_told a b c Method h = refl
missing_told a b c Token h = refl
missing_told a b c Scope h = refl
missing_told a b c Form h = refl
missing_told a b c Area h = refl
missing_told a b c Found h = refl
missing_told a b c Fresh h = refl
missing_told a b c Manager h = refl
missing_told a b c Version h = refl
missing_told a b c Role h = refl
missing_told a b c Change h = refl
missing_told a b c Ended h = refl
missing_told a b c Key h = h
missing_told a b c Limit h = refl
missing_told a b c Subscription h = refl
missing_told a b c Depended h = refl

reply_by : (until : ℕ) (salt : List ℕ) (a : Airspace) (c : Call) (r : Option Rule) → IsAirspace a → LooksAhead until a c → (step_by salt (purged until a) c r).1 ≡ (step_by salt a c r).1
reply_by until salt a c None proper look = effect_told until salt a c.caller c.op proper look
reply_by until salt a c (Some p) proper look = ap (Denied p) (missing_told (purged until a) a c p (sees_ahead until a c look).missing)

pub purge_unseen : PurgeIsInvisible
unfolding step
purge_unseen until salt a t c proper look =
    ap (λ (r : Option Rule). (step_by salt (purged until a) c r).1) (same_first (purged until a) a t c (sees_ahead until a c look))
    ∙ reply_by until salt a c (first_broken a t c) proper look
