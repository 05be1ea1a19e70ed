-- The reply of the policy to a call, and the airspace after it.
use Rattle.std.specs.Prelude.{ℕ, ◌+◌, List, [], ◌∷◌, map, Option, Some, None, if◌then◌else◌}
use Rattle.std.specs.FinMap.{get}
use Rattle.grid_core.specs.Extent.{Extent, Region, region_of}
use Rattle.entity_core.specs.declared.nature.Kind.{Kind}
use Rattle.entity_core.specs.declared.nature.Kind.TheVariants as kinds
use Rattle.entity_core.specs.declared.entity.Entity.{Entity}
use Rattle.entity_core.specs.declared.subscription.Sub.{Sub}
use Rattle.entity_core.specs.Subscription.{wants}
use Rattle.entity_core.specs.Entity.{kind_of}
use Rattle.entity_core.specs.Airspace.{Airspace, IsAirspace, EntityKey, availability_of, with_availability, with_entity, with_subscription, without_entity, without_subscription}
use Rattle.entity_core.specs.Search.{dependents_in, meeting_in, subscriptions_in}
use Rattle.entity_core.specs.Ovn.{ovn_text}
use Rattle.policy_core.specs.declared.scope.Caller.{Caller}
use Rattle.policy_core.specs.declared.call.Put.{Put}
use Rattle.policy_core.specs.declared.call.SubPut.{SubPut}
use Rattle.policy_core.specs.declared.call.Operation.{Operation}
use Rattle.policy_core.specs.declared.call.Operation.TheVariants.{NoRoute, NoMethod, Malformed, Query, Read, Create, Update, Delete, ReadAvail, SetAvail, QuerySub, ReadSub, CreateSub, UpdateSub, DeleteSub}
use Rattle.policy_core.specs.declared.call.Call.{Call}
use Rattle.policy_core.specs.declared.rule.Rule.{Rule}
use Rattle.policy_core.specs.declared.rule.Rule.TheVariants.{Key}
use Rattle.policy_core.specs.declared.reference.Missing.{Missing}
use Rattle.policy_core.specs.Missing.{missing_for, nothing_missing}
use Rattle.policy_core.specs.Policy.{first_broken}
use Rattle.policy_core.specs.View.{view_of}
use Rattle.policy_core.specs.SubView.{sub_view_of}
use Rattle.policy_core.specs.declared.reference.Reference.{Reference}
use Rattle.policy_core.specs.declared.sub_view.SubView.{SubView}
use Rattle.service_notify.specs.Notices.{notices_in, touched, with_notified}
use Rattle.service_step.specs.declared.reply.Answer.TheVariants.{Created, Changed, Found, Listed, Avail, SubStored, SubFound, SubListed}
use Rattle.service_step.specs.declared.reply.Reply.{Reply}
use Rattle.service_step.specs.declared.reply.Reply.TheVariants.{Done, Denied, Fault, Stopped}

-- ---- entities and subscriptions that puts store

-- The entity that a put stores.
abbrev pub stored_as : List ℕ → ℕ → List ℕ → ℕ → ℕ → Put → Entity
stored_as salt serial manager version id put = record {
  nature = put.nature;
  id = id;
  manager = manager;
  version = version;
  serial = serial;
  ovn = ovn_text salt serial;
  volumes = put.volumes;
  url = put.url;
}

-- The entity that a creation by a USS stores.
abbrev pub created : List ℕ → ℕ → List ℕ → ℕ → Put → Entity
created salt serial uss id put = stored_as salt serial uss 1 id put

-- The entity that an update stores in the place of another.
abbrev pub updated : List ℕ → ℕ → ℕ → Put → Entity → Entity
updated salt serial id put e = stored_as salt serial e.manager (e.version + 1) id put

-- The subscription that a put stores.
abbrev pub sub_stored_as : List ℕ → ℕ → List ℕ → ℕ → ℕ → SubPut → Sub
sub_stored_as salt serial manager index id put = record {
  id = id;
  manager = manager;
  version = ovn_text salt serial;
  serial = serial;
  index = index;
  volume = put.volume;
  url = put.url;
  interest = put.interest;
}

-- ---- effects: the airspace after an operation, and the reply

abbrev pub query_effect : Airspace → List ℕ → Kind → Region → Airspace × Reply
query_effect a uss kind area =
    (a, Done (Listed kind (map (view_of a uss) (meeting_in a.entities kind (area ∷ []) None))))

abbrev pub read_effect : Airspace → List ℕ → Option Entity → Airspace × Reply
read_effect a uss (Some e) = (a, Done (Found (view_of a uss e)))
read_effect a uss None = (a, Fault)

-- The airspace after an entity is put and its subscriptions are notified. `old` has the volumes
-- that the entity had before.
abbrev pub stored_with : Airspace → List Extent → Entity → Airspace
stored_with a old e =
    with_notified (kind_of e.nature) (touched old e.volumes) (with_entity a e)

abbrev pub create_effect : Airspace → List ℕ → Entity → Airspace × Reply
create_effect a uss e = (
  stored_with a [] e,
  Done (Created (view_of (stored_with a [] e) uss e)
      (notices_in a (kind_of e.nature) (touched [] e.volumes))),
)

abbrev pub put_effect : Airspace → List ℕ → List Extent → Entity → Airspace × Reply
put_effect a uss old e = (
  stored_with a old e,
  Done (Changed (view_of (stored_with a old e) uss e)
      (notices_in a (kind_of e.nature) (touched old e.volumes))),
)

abbrev pub update_effect : List ℕ → Airspace → List ℕ → ℕ → Put → Option Entity → Airspace × Reply
update_effect salt a uss id put (Some e) =
    put_effect a uss e.volumes (updated salt (a.serial + 1) id put e)
update_effect salt a uss id put None = (a, Fault)

-- The effect of a deletion: the airspace without the entity, after its subscriptions are notified.
-- The reply has its last reference and the notices.
abbrev pub delete_effect : Airspace → List ℕ → EntityKey → Option Entity → Airspace × Reply
delete_effect a uss key (Some e) = (
  with_notified key.0 (touched e.volumes []) (without_entity a key),
  Done (Changed (view_of a uss e) (notices_in a key.0 (touched e.volumes []))),
)
delete_effect a uss key None = (a, Fault)

-- The view of a subscription, with the intents that depend on it.
abbrev pub seen_sub : Airspace → Sub → SubView
seen_sub a s = sub_view_of s (dependents_in a.entities s.id)

-- The references of the entities that meet the volume of a subscription, if it is for their kind.
abbrev pub seen_of : Kind → Airspace → List ℕ → Sub → List Reference
seen_of kind a uss s =
    if wants s.interest kind
    then map (view_of a uss) (meeting_in a.entities kind (region_of s.volume ∷ []) None) else []

abbrev pub stored_reply : Airspace → List ℕ → Sub → Reply
stored_reply a uss s =
    Done (SubStored (seen_sub a s) (seen_of kinds.Intent a uss s) (seen_of kinds.Constraint a uss s))

-- The effect of a subscription's put: the airspace with it, and the reply with what the USS sees.
abbrev pub put_sub_effect : Airspace → List ℕ → Sub → Airspace × Reply
put_sub_effect a uss s = (with_subscription a s, stored_reply (with_subscription a s) uss s)

abbrev pub update_sub_effect : List ℕ → Airspace → List ℕ → ℕ → SubPut → Option Sub
    → Airspace × Reply
update_sub_effect salt a uss id put (Some s) =
    put_sub_effect a uss (sub_stored_as salt (a.serial + 1) s.manager s.index id put)
update_sub_effect salt a uss id put None = (a, Fault)

abbrev pub read_sub_effect : Airspace → Option Sub → Airspace × Reply
read_sub_effect a (Some s) = (a, Done (SubFound (seen_sub a s)))
read_sub_effect a None = (a, Fault)

-- The effect of a subscription's deletion: the airspace without it, and the reply with its last
-- view.
abbrev pub delete_sub_effect : Airspace → ℕ → Option Sub → Airspace × Reply
delete_sub_effect a id (Some s) = (without_subscription a id, Done (SubFound (seen_sub a s)))
delete_sub_effect a id None = (a, Fault)

abbrev pub query_sub_effect : Airspace → List ℕ → Region → Airspace × Reply
query_sub_effect a uss area =
    (a, Done (SubListed (map (seen_sub a) (subscriptions_in a.subscriptions uss area))))

abbrev pub effect_by : List ℕ → Airspace → Caller → Operation → Airspace × Reply
effect_by salt a caller (Query kind area) = query_effect a caller.uss kind area
effect_by salt a caller (Read kind id) = read_effect a caller.uss (get a.entities (kind, id))
effect_by salt a caller (Create id put) =
    create_effect a caller.uss (created salt (a.serial + 1) caller.uss id put)
effect_by salt a caller (Update id ovn put) =
    update_effect salt a caller.uss id put (get a.entities (kind_of put.nature, id))
effect_by salt a caller (Delete kind id ovn) =
    delete_effect a caller.uss (kind, id) (get a.entities (kind, id))
effect_by salt a caller (ReadAvail uss) =
    (a, Done (Avail uss (availability_of a uss).0 (availability_of a uss).1))
effect_by salt a caller (SetAvail uss old availability) = (
  with_availability a uss (availability, ovn_text salt (a.serial + 1)),
  Done (Avail uss availability (ovn_text salt (a.serial + 1))),
)
effect_by salt a caller (QuerySub area) = query_sub_effect a caller.uss area
effect_by salt a caller (ReadSub id) = read_sub_effect a (get a.subscriptions id)
effect_by salt a caller (CreateSub id put) =
    put_sub_effect a caller.uss (sub_stored_as salt (a.serial + 1) caller.uss 0 id put)
effect_by salt a caller (UpdateSub id version put) =
    update_sub_effect salt a caller.uss id put (get a.subscriptions id)
effect_by salt a caller (DeleteSub id version) = delete_sub_effect a id (get a.subscriptions id)
-- These operations always break a rule.
effect_by salt a caller NoRoute = (a, Fault)
effect_by salt a caller NoMethod = (a, Fault)
effect_by salt a caller (Malformed kind) = (a, Fault)

-- The effect of a call that breaks no rule. A call without a caller always breaks one.
abbrev pub effect : List ℕ → Airspace → Option Caller → Operation → Airspace × Reply
effect salt a (Some caller) op = effect_by salt a caller op
effect salt a None op = (a, Fault)

-- ---- steps

-- The references that a call lacks, given the first rule that it breaks.
abbrev pub missing_views : Airspace → Call → Rule → Missing
missing_views a c Key = missing_for a c.caller c.op
missing_views a c p = nothing_missing

abbrev pub step_by : List ℕ → Airspace → Call → Option Rule → Airspace × Reply
step_by salt a c (Some p) = (a, Denied p (missing_views a c p))
step_by salt a c None = effect salt a c.caller c.op

-- The airspace and the reply after one call at a time. A call that breaks a rule leaves the
-- airspace and is denied by the first such rule. Any other call has its effect.
unfoldable pub step : List ℕ → Airspace → ℕ → Call → Airspace × Reply
step salt a now c = step_by salt a c (first_broken a now c)

-- ---- laws

-- States that each step of a valid airspace leaves a valid airspace.
abbrev pub StepsPreserve : Type 0
StepsPreserve = (salt : List ℕ) (a : Airspace) (now : ℕ) (c : Call) → IsAirspace a
    → IsAirspace (step salt a now c).0

-- Holds if the reply is `Done` or `Denied`.
abbrev pub IsDoneOrDenied : Reply → Type 0
IsDoneOrDenied (Done answer) = Unit {0}
IsDoneOrDenied (Denied p m) = Unit {0}
IsDoneOrDenied Fault = ⊥
IsDoneOrDenied Stopped = ⊥

-- States that the policy replies `Done` or `Denied` to each call. If an effect says `Fault`, the
-- call breaks a rule.
abbrev pub StepsAnswer : Type 0
StepsAnswer = (salt : List ℕ) (a : Airspace) (now : ℕ) (c : Call)
    → IsDoneOrDenied (step salt a now c).1
