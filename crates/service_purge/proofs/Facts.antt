-- Lemmas: the facts that are looked up for a forward-looking call, and the first rule that it
-- breaks.
use Rattle.std.specs.Prelude.{◌≡◌, ℕ, not, false, cond, List, [], map, find, Option, Some, None, refl, unwrap_or}
use Rattle.std.proofs.Common.{ap, ◌∙◌}
use Rattle.std.specs.FinMap.{get}
use Rattle.grid_core.specs.Extent.{region_of}
use Rattle.entity_core.specs.Airspace.{Airspace, Entities, EntityKey}
use Rattle.entity_core.specs.Entity.{kind_of, subscription_of}
use Rattle.entity_core.specs.declared.availability.Availability.TheVariants.{Unknown}
use Rattle.entity_core.specs.declared.entity.Entity.{Entity}
use Rattle.entity_core.specs.declared.nature.Kind.{Kind}
use Rattle.entity_core.specs.declared.nature.Kind.TheVariants as kinds
use Rattle.entity_core.specs.declared.subscription.Sub.{Sub}
use Rattle.policy_core.specs.declared.scope.Caller.{Caller}
use Rattle.policy_core.specs.declared.call.Call.{Call}
use Rattle.policy_core.specs.declared.call.Put.{Put}
use Rattle.policy_core.specs.declared.call.Operation.{Operation}
use Rattle.policy_core.specs.declared.call.Operation.TheVariants.{NoRoute, NoMethod, Malformed, Query, Read, Create, Update, Delete, ReadAvail, SetAvail, QuerySub, ReadSub, CreateSub, UpdateSub, DeleteSub}
use Rattle.policy_core.specs.declared.rule.Rule.{Rule}
use Rattle.policy_core.specs.declared.rule.Rule.TheVariants.{Route, Method, Token, Scope, Form, Area, Found, Fresh, Manager, Version, Role, Change, Ended, Key, Limit, Subscription, Depended}
use Rattle.policy_core.specs.Call.{subject_of}
use Rattle.policy_core.specs.Missing.{excepted, is_nothing, missing_for, missing_from, missing_put, needed_put, put_needs, unspared}
use Rattle.policy_core.specs.Policy.{breaks, breaks_change, breaks_depended, breaks_found, breaks_fresh, breaks_limit, breaks_manager, breaks_subscription, breaks_version, first_broken, rules_in_order}
use Rattle.policy_core.specs.Standing.{depended_of, found_of, is_some_of, stated_of, sub_of, sub_under}
use Rattle.policy_core.specs.View.{view_of, view_with}
use Rattle.service_purge.specs.Ahead.{BeginAfter, LooksAhead}
use Rattle.entity_purge.specs.Purge.{is_due_for_purge, has_ended, retained, purged}
use Rattle.service_purge.proofs.Apart.{dependents_ahead, meeting_ahead}
use Rattle.entity_purge.proofs.Maps.{kept_whole}
use Rattle.entity_purge.proofs.Purges.{found_staying, found_subs}

-- ---- views

pub view_same : (uss : List ℕ) (a b : Airspace) → a.availabilities ≡ b.availabilities → view_of a uss ≡ view_of b uss
unfolding view_of
view_same uss a b l = λ i e. view_with uss e (unwrap_or (get (l i) e.manager) (Unknown, [])).0

-- ---- lookups

pub get_ahead : (until : ℕ) (m : Entities) (k : EntityKey) → ((e : Entity) → get m k ≡ Some e → has_ended until e ≡ false) → get (retained until m) k ≡ get m k
get_ahead until m k stays = found_staying until m k ∙ kept_whole (λ e. not (has_ended until e)) (get m k) (λ e h. ap not (stays e h))

pub get_sub_ahead : (until : ℕ) (a : Airspace) (id : ℕ) → ((s : Sub) → get a.subscriptions id ≡ Some s → is_due_for_purge until a (id, s) ≡ false) → get (purged until a).subscriptions id ≡ get a.subscriptions id
get_sub_ahead until a id stays = found_subs until (retained until a.entities) a.subscriptions id ∙ kept_whole (λ s. not (is_due_for_purge until a (id, s))) (get a.subscriptions id) (λ s h. ap not (stays s h))

under_ahead : (until : ℕ) (a : Airspace) (named : Option ℕ) → ((id : ℕ) (s : Sub) → named ≡ Some id → get a.subscriptions id ≡ Some s → is_due_for_purge until a (id, s) ≡ false) → sub_under (purged until a) named ≡ sub_under a named
under_ahead until a None stays = refl
under_ahead until a (Some id) stays = get_sub_ahead until a id (λ s h. stays id s refl h)

found_ahead : (until : ℕ) (a : Airspace) (op : Operation) → ((e : Entity) → found_of a op ≡ Some e → has_ended until e ≡ false) → found_of (purged until a) op ≡ found_of a op
found_ahead until a NoRoute names = refl
found_ahead until a NoMethod names = refl
found_ahead until a (Malformed kind) names = refl
found_ahead until a (Query kind area) names = refl
found_ahead until a (Read kind id) names = get_ahead until a.entities (kind, id) names
found_ahead until a (Create id put) names = get_ahead until a.entities (kind_of put.nature, id) names
found_ahead until a (Update id ovn put) names = get_ahead until a.entities (kind_of put.nature, id) names
found_ahead until a (Delete kind id ovn) names = get_ahead until a.entities (kind, id) names
found_ahead until a (ReadAvail uss) names = refl
found_ahead until a (SetAvail uss old availability) names = refl
found_ahead until a (QuerySub area) names = refl
found_ahead until a (ReadSub id) names = refl
found_ahead until a (CreateSub id put) names = refl
found_ahead until a (UpdateSub id version put) names = refl
found_ahead until a (DeleteSub id version) names = refl

stated_ahead : (until : ℕ) (a : Airspace) (op : Operation) → stated_of (purged until a) op ≡ stated_of a op
stated_ahead until a NoRoute = refl
stated_ahead until a NoMethod = refl
stated_ahead until a (Malformed kind) = refl
stated_ahead until a (Query kind area) = refl
stated_ahead until a (Read kind id) = refl
stated_ahead until a (Create id put) = refl
stated_ahead until a (Update id ovn put) = refl
stated_ahead until a (Delete kind id ovn) = refl
stated_ahead until a (ReadAvail uss) = refl
stated_ahead until a (SetAvail uss old availability) = refl
stated_ahead until a (QuerySub area) = refl
stated_ahead until a (ReadSub id) = refl
stated_ahead until a (CreateSub id put) = refl
stated_ahead until a (UpdateSub id version put) = refl
stated_ahead until a (DeleteSub id version) = refl

depended_ahead : (until : ℕ) (a : Airspace) (caller : Option Caller) (op : Operation) → LooksAhead until a (record { caller = caller; op = op }) → depended_of (purged until a) op ≡ depended_of a op
depended_ahead until a caller NoRoute look = refl
depended_ahead until a caller NoMethod look = refl
depended_ahead until a caller (Malformed kind) look = refl
depended_ahead until a caller (Query kind area) look = refl
depended_ahead until a caller (Read kind id) look = refl
depended_ahead until a caller (Create id put) look = refl
depended_ahead until a caller (Update id ovn put) look = refl
depended_ahead until a caller (Delete kind id ovn) look = refl
depended_ahead until a caller (ReadAvail uss) look = refl
depended_ahead until a caller (SetAvail uss old availability) look = refl
depended_ahead until a caller (QuerySub area) look = refl
depended_ahead until a caller (ReadSub id) look = refl
depended_ahead until a caller (CreateSub id put) look = refl
depended_ahead until a caller (UpdateSub id version put) look = refl
depended_ahead until a caller (DeleteSub id version) look = ap is_some_of (dependents_ahead until a id (look.shows id refl))

-- ---- needed and missing entities, whatever the key lists

needed_ahead : (until : ℕ) (kind : Kind) (a : Airspace) (caller : Option Caller) (id : ℕ) (put : Put) → BeginAfter until (map region_of put.volumes)
    → sub_under (purged until a) (subscription_of put.nature) ≡ sub_under a (subscription_of put.nature) → needed_put kind (purged until a) caller id put ≡ needed_put kind a caller id put
needed_ahead until kind a caller id put begin sub =
    λ i. cond (put_needs kind caller put (sub i)) (unspared a (meeting_ahead until a.entities kind (map region_of put.volumes) (excepted kind id) begin i)) []

missing_put_ahead : (until : ℕ) (a : Airspace) (caller : Caller) (id : ℕ) (put : Put) → BeginAfter until (map region_of put.volumes)
    → sub_under (purged until a) (subscription_of put.nature) ≡ sub_under a (subscription_of put.nature) → missing_put (purged until a) caller id put ≡ missing_put a caller id put
missing_put_ahead until a caller id put begin sub =
    let needs : (kind : Kind) → needed_put kind (purged until a) (Some caller) id put ≡ needed_put kind a (Some caller) id put = λ kind. needed_ahead until kind a (Some caller) id put begin sub in
    let view : view_of (purged until a) caller.uss ≡ view_of a caller.uss = view_same caller.uss (purged until a) a refl in
    λ i. record {
      intents = map (view i) (missing_from put.key (needs kinds.Intent i));
      constraints = map (view i) (missing_from put.key (needs kinds.Constraint i));
    }

missing_ahead : (until : ℕ) (a : Airspace) (caller : Option Caller) (op : Operation) → LooksAhead until a (record { caller = caller; op = op }) → missing_for (purged until a) caller op ≡ missing_for a caller op
unfolding missing_from
missing_ahead until a None op look = refl
missing_ahead until a (Some caller) NoRoute look = refl
missing_ahead until a (Some caller) NoMethod look = refl
missing_ahead until a (Some caller) (Malformed kind) look = refl
missing_ahead until a (Some caller) (Query kind area) look = refl
missing_ahead until a (Some caller) (Read kind id) look = refl
missing_ahead until a (Some caller) (Create id put) look = missing_put_ahead until a caller id put look.begins (under_ahead until a (subscription_of put.nature) look.names_sub)
missing_ahead until a (Some caller) (Update id ovn put) look = missing_put_ahead until a caller id put look.begins (under_ahead until a (subscription_of put.nature) look.names_sub)
missing_ahead until a (Some caller) (Delete kind id ovn) look = refl
missing_ahead until a (Some caller) (ReadAvail uss) look = refl
missing_ahead until a (Some caller) (SetAvail uss old availability) look = refl
missing_ahead until a (Some caller) (QuerySub area) look = refl
missing_ahead until a (Some caller) (ReadSub id) look = refl
missing_ahead until a (Some caller) (CreateSub id put) look = refl
missing_ahead until a (Some caller) (UpdateSub id version put) look = refl
missing_ahead until a (Some caller) (DeleteSub id version) look = refl

-- ---- the rules

-- Holds if the rules see the same facts for a call in two airspaces.
pub record RulesSeeTheSame (a b : Airspace) (c : Call) : Type 0 where
  pub found : found_of a c.op ≡ found_of b c.op
  pub stated : stated_of a c.op ≡ stated_of b c.op
  pub sub : sub_of a c.op ≡ sub_of b c.op
  pub depended : depended_of a c.op ≡ depended_of b c.op
  pub missing : missing_for a c.caller c.op ≡ missing_for b c.caller c.op
  pub serial : a.serial ≡ b.serial

pub sees_ahead : (until : ℕ) (a : Airspace) (c : Call) → LooksAhead until a c → RulesSeeTheSame (purged until a) a c
sees_ahead until a c look = record {
  found = found_ahead until a c.op look.names;
  stated = stated_ahead until a c.op;
  sub = under_ahead until a (subject_of c.op) look.names_sub;
  depended = depended_ahead until a c.caller c.op look;
  missing = missing_ahead until a c.caller c.op look;
  serial = refl;
}

same_rule : (a b : Airspace) (t : ℕ) (c : Call) → RulesSeeTheSame a b c → (p : Rule) → breaks a t c p ≡ breaks b t c p
same_rule a b t c same Route = refl
same_rule a b t c same Method = refl
same_rule a b t c same Token = refl
same_rule a b t c same Scope = refl
same_rule a b t c same Form = refl
same_rule a b t c same Area = refl
same_rule a b t c same Found = λ i. breaks_found c.op (same.found i) (same.sub i)
same_rule a b t c same Fresh = λ i. breaks_fresh c.op (same.found i) (same.sub i)
same_rule a b t c same Manager = λ i. breaks_manager c.caller c.op (same.found i) (same.sub i)
same_rule a b t c same Version = λ i. breaks_version c.op (same.found i) (same.stated i) (same.sub i)
same_rule a b t c same Role = refl
same_rule a b t c same Change = λ i. breaks_change c.op (same.found i)
same_rule a b t c same Ended = refl
same_rule a b t c same Key = λ i. not (is_nothing (same.missing i))
same_rule a b t c same Limit = λ i. breaks_limit c.op (same.found i) (same.serial i)
same_rule a b t c same Subscription = λ i. breaks_subscription c.caller c.op (same.sub i)
same_rule a b t c same Depended = λ i. breaks_depended c.op (same.depended i)

pub same_first : (a b : Airspace) (t : ℕ) (c : Call) → RulesSeeTheSame a b c → first_broken a t c ≡ first_broken b t c
unfolding first_broken
same_first a b t c same = λ i. find (λ p. same_rule a b t c same p i) rules_in_order
