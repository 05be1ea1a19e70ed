-- The policy: which rules a call breaks, and which of them is the first.
use Rattle.std.specs.Prelude.{ℕ, ◌&&◌, ◌||◌, not, nat_eq, nat_le, nat_lt, Bool, true, false, List, [], ◌∷◌, ◌++◌, Option, Some, None, is_none, is_some, find, unwrap_or}
use Rattle.std.specs.List.{list_any}
use Rattle.grid_core.specs.Volumes.{span_of}
use Rattle.entity_core.specs.IdTexts.{same_text}
use Rattle.entity_core.specs.Entity.{max_version, subscription_of}
use Rattle.entity_core.specs.Airspace.{Airspace, VersionedAvailability}
use Rattle.entity_core.specs.Serial.{max_serial}
use Rattle.entity_core.specs.declared.availability.Availability.TheVariants.{Unknown}
use Rattle.entity_core.specs.declared.nature.State.{State}
use Rattle.entity_core.specs.declared.nature.State.TheVariants.{Accepted, Activated, Nonconforming, Contingent}
use Rattle.entity_core.specs.declared.nature.Nature.{Nature}
use Rattle.entity_core.specs.declared.nature.Nature.TheVariants.{Intent, Constraint}
use Rattle.entity_core.specs.declared.entity.Entity.{Entity}
use Rattle.entity_core.specs.declared.subscription.Sub.{Sub}
use Rattle.entity_core.specs.declared.interest.Interest.{Interest}
use Rattle.entity_core.specs.declared.nature.Kind.TheVariants as kinds
use Rattle.entity_core.specs.Subscription.{wants}
use Rattle.policy_core.specs.Scope.{Scopes}
use Rattle.policy_core.specs.declared.scope.Scope.TheVariants.{StrategicCoordination, ConformanceMonitoring, ConstraintProcessing}
use Rattle.policy_core.specs.declared.scope.Caller.{Caller}
use Rattle.policy_core.specs.declared.call.OpKind.{OpKind}
use Rattle.policy_core.specs.declared.call.Operation.{Operation}
use Rattle.policy_core.specs.declared.call.Operation.TheVariants.{NoRoute, NoMethod, Malformed, Read, Create, Update, Delete, SetAvail, ReadSub, CreateSub, UpdateSub, DeleteSub}
use Rattle.policy_core.specs.declared.call.Call.{Call}
use Rattle.policy_core.specs.declared.rule.Rule.{Rule}
use Rattle.policy_core.specs.declared.rule.Rule.TheVariants.{Route, Method, Token, Scope, Form, Area, Found, Fresh, Manager, Version, Role, Change, Ended, Key, Limit, Subscription, Depended}
use Rattle.policy_core.specs.Scope.{has_scope, is_permitted}
use Rattle.policy_core.specs.Call.{kind_of, is_change, covered_of}
use Rattle.policy_core.specs.Standing.{Facts, depended_of, found_of, stated_of, sub_of}
use Rattle.policy_core.specs.Missing.{is_nothing, missing_for}

-- Each rule has its own section. A rule about an entity or a caller is not broken if there is none.
-- `found` is the entity that a call names. `stated` is the stored availability of the USS. `sub` is
-- the subscription that the call is about or that its put references.

-- P1 ROUTE

-- Broken if no route has the path.
abbrev pub breaks_route : Operation → Bool
breaks_route NoRoute = true
breaks_route op = false

-- P2 METHOD

-- Broken if the route does not allow the method.
abbrev pub breaks_method : Operation → Bool
breaks_method NoMethod = true
breaks_method op = false

-- P3 TOKEN

-- Broken if there is no caller.
abbrev pub breaks_token : Option Caller → Bool
breaks_token caller = is_none caller

-- P4 SCOPE

-- Broken if there is a caller and a kind of operation, but none of the caller's scopes permits it.
abbrev pub breaks_scope : Option Caller → Option OpKind → Bool
breaks_scope (Some caller) (Some kind) = not (is_permitted kind caller.scopes)
breaks_scope (Some caller) None = false
breaks_scope None kind = false

-- P5 FORM

-- Broken if a path parameter or the body has a wrong form.
abbrev pub breaks_form : Operation → Bool
breaks_form (Malformed kind) = true
breaks_form op = false

-- P6 AREA

-- The maximum number of level-13 cells that a call may count for.
abbrev pub max_covered_cells : ℕ
max_covered_cells = 16384

abbrev pub breaks_area : Operation → Bool
breaks_area op = nat_lt max_covered_cells (covered_of op)

-- P7 FOUND

-- Broken if an entity or subscription that is read, updated or deleted does not exist.
abbrev pub breaks_found : Operation → Option Entity → Option Sub → Bool
breaks_found (Read kind id) found sub = is_none found
breaks_found (Update id ovn put) found sub = is_none found
breaks_found (Delete kind id ovn) found sub = is_none found
breaks_found (ReadSub id) found sub = is_none sub
breaks_found (UpdateSub id version put) found sub = is_none sub
breaks_found (DeleteSub id version) found sub = is_none sub
breaks_found op found sub = false

-- P8 FRESH

-- Broken if an entity or subscription that is created exists already.
abbrev pub breaks_fresh : Operation → Option Entity → Option Sub → Bool
breaks_fresh (Create id put) found sub = is_some found
breaks_fresh (CreateSub id put) found sub = is_some sub
breaks_fresh op found sub = false

-- P9 MANAGER

abbrev pub is_of_another : Option Caller → Option Entity → Bool
is_of_another (Some caller) (Some e) = not (same_text e.manager caller.uss)
is_of_another (Some caller) None = false
is_of_another None found = false

abbrev pub is_sub_of_another : Option Caller → Option Sub → Bool
is_sub_of_another (Some caller) (Some s) = not (same_text s.manager caller.uss)
is_sub_of_another (Some caller) None = false
is_sub_of_another None sub = false

-- Broken if another USS manages the entity that is updated or deleted, or the subscription that is
-- read, updated or deleted.
abbrev pub breaks_manager : Option Caller → Operation → Option Entity → Option Sub → Bool
breaks_manager caller (Update id ovn put) found sub = is_of_another caller found
breaks_manager caller (Delete kind id ovn) found sub = is_of_another caller found
breaks_manager caller (ReadSub id) found sub = is_sub_of_another caller sub
breaks_manager caller (UpdateSub id version put) found sub = is_sub_of_another caller sub
breaks_manager caller (DeleteSub id version) found sub = is_sub_of_another caller sub
breaks_manager caller op found sub = false

-- P10 VERSION

abbrev pub has_another_ovn : Option Entity → List ℕ → Bool
has_another_ovn (Some e) ovn = not (same_text ovn e.ovn)
has_another_ovn None ovn = false

-- The version of a USS's availability.
abbrev pub availability_version : Option VersionedAvailability → List ℕ
availability_version stated = (unwrap_or stated (Unknown, [])).1

abbrev pub has_another_version : Option Sub → List ℕ → Bool
has_another_version (Some s) version = not (same_text version s.version)
has_another_version None version = false

-- Broken if an update or a deletion gives an OVN or version that is not current, or if setting an
-- availability does.
abbrev pub breaks_version : Operation → Option Entity → Option VersionedAvailability → Option Sub → Bool
breaks_version (Update id ovn put) found stated sub = has_another_ovn found ovn
breaks_version (Delete kind id ovn) found stated sub = has_another_ovn found ovn
breaks_version (SetAvail uss old availability) found stated sub =
    not (same_text old (availability_version stated))
breaks_version (UpdateSub id version put) found stated sub = has_another_version sub version
breaks_version (DeleteSub id version) found stated sub = has_another_version sub version
breaks_version op found stated sub = false

-- P11 ROLE

-- True if the scopes lack the one that the state needs.
abbrev pub lacks_role : Scopes → Nature → Bool
lacks_role s (Intent Accepted named) = not (has_scope s StrategicCoordination)
lacks_role s (Intent Activated named) = not (has_scope s StrategicCoordination)
lacks_role s (Intent Nonconforming named) = not (has_scope s ConformanceMonitoring)
lacks_role s (Intent Contingent named) = not (has_scope s ConformanceMonitoring)
lacks_role s Constraint = false

abbrev pub is_barred_from : Option Caller → Nature → Bool
is_barred_from (Some caller) nature = lacks_role caller.scopes nature
is_barred_from None nature = false

-- True if the scopes lack one that the interest needs.
abbrev pub lacks_interest : Scopes → Interest → Bool
lacks_interest s interest =
    (wants interest kinds.Intent && not (has_scope s StrategicCoordination))
    || (wants interest kinds.Constraint && not (has_scope s ConstraintProcessing))

abbrev pub is_barred_for : Option Caller → Interest → Bool
is_barred_for (Some caller) interest = lacks_interest caller.scopes interest
is_barred_for None interest = false

-- Broken if the caller's scopes do not allow the state of a put, or the interest of a subscription.
abbrev pub breaks_role : Option Caller → Operation → Bool
breaks_role caller (Create id put) = is_barred_from caller put.nature
breaks_role caller (Update id ovn put) = is_barred_from caller put.nature
breaks_role caller (CreateSub id put) = is_barred_for caller put.interest
breaks_role caller (UpdateSub id version put) = is_barred_for caller put.interest
breaks_role caller op = false

-- P12 CHANGE

abbrev pub state_index : State → ℕ
state_index Accepted = 0
state_index Activated = 1
state_index Nonconforming = 2
state_index Contingent = 3

abbrev pub same_state : State → State → Bool
same_state a b = nat_eq (state_index a) (state_index b)

-- The states that may follow a state.
abbrev pub next_states : State → List State
next_states Accepted = Accepted ∷ Activated ∷ Nonconforming ∷ Contingent ∷ []
next_states Activated = Activated ∷ Nonconforming ∷ Contingent ∷ []
next_states Nonconforming = Nonconforming ∷ Activated ∷ Contingent ∷ []
next_states Contingent = Contingent ∷ []

abbrev pub may_become : State → State → Bool
may_become state next = list_any (same_state next) (next_states state)

abbrev pub may_turn : Nature → Nature → Bool
may_turn (Intent state named) (Intent next named') = may_become state next
may_turn nature next = true

abbrev pub turns_wrongly : Option Entity → Nature → Bool
turns_wrongly (Some e) next = not (may_turn e.nature next)
turns_wrongly None next = false

-- Broken if an update changes to a state that may not follow.
abbrev pub breaks_change : Operation → Option Entity → Bool
breaks_change (Update id ovn put) found = turns_wrongly found put.nature
breaks_change op found = false

-- P13 ENDED

-- Broken if all volumes of a put have ended.
abbrev pub breaks_ended : ℕ → Operation → Bool
breaks_ended now (Create id put) = nat_le (span_of put.volumes).1 now
breaks_ended now (Update id ovn put) = nat_le (span_of put.volumes).1 now
breaks_ended now (CreateSub id put) = nat_le put.volume.time.1 now
breaks_ended now (UpdateSub id version put) = nat_le put.volume.time.1 now
breaks_ended now op = false

-- P16 SUBSCRIPTION

-- True if the referenced subscription does not exist or another USS manages it.
abbrev pub references_wrongly : Option Caller → Option ℕ → Option Sub → Bool
references_wrongly (Some caller) named sub =
    is_some named && (is_none sub || is_sub_of_another (Some caller) sub)
references_wrongly None named sub = false

-- Broken if the put of an intent references such a subscription.
abbrev pub breaks_subscription : Option Caller → Operation → Option Sub → Bool
breaks_subscription caller (Create id put) sub = references_wrongly caller (subscription_of put.nature) sub
breaks_subscription caller (Update id ovn put) sub =
    references_wrongly caller (subscription_of put.nature) sub
breaks_subscription caller op sub = false

-- P17 DEPENDED

-- Broken if some intent references the subscription that is deleted.
abbrev pub breaks_depended : Operation → Bool → Bool
breaks_depended (DeleteSub id version) depended = depended
breaks_depended op depended = false

-- P14 KEY

-- Broken if something needed is missing from the key.
abbrev pub breaks_key : Airspace → Option Caller → Operation → Bool
breaks_key a caller op = not (is_nothing (missing_for a caller op))

-- P15 LIMIT

abbrev pub has_last_version : Option Entity → Bool
has_last_version (Some e) = nat_le max_version e.version
has_last_version None = false

-- True if an update is of an entity with the maximum version.
abbrev pub is_spent : Operation → Option Entity → Bool
is_spent (Update id ovn put) found = has_last_version found
is_spent op found = false

-- Broken by a change at the maximum serial, or of an entity with the maximum version.
abbrev pub breaks_limit : Operation → Option Entity → ℕ → Bool
breaks_limit op found serial = (is_change op && nat_le max_serial serial) || is_spent op found

-- ---- the rules

-- True if a call at a time breaks a rule, given the whole airspace.
abbrev pub breaks : Airspace → ℕ → Call → Rule → Bool
breaks a now c Route = breaks_route c.op
breaks a now c Method = breaks_method c.op
breaks a now c Token = breaks_token c.caller
breaks a now c Scope = breaks_scope c.caller (kind_of c.op)
breaks a now c Form = breaks_form c.op
breaks a now c Area = breaks_area c.op
breaks a now c Found = breaks_found c.op (found_of a c.op) (sub_of a c.op)
breaks a now c Fresh = breaks_fresh c.op (found_of a c.op) (sub_of a c.op)
breaks a now c Manager = breaks_manager c.caller c.op (found_of a c.op) (sub_of a c.op)
breaks a now c Version = breaks_version c.op (found_of a c.op) (stated_of a c.op) (sub_of a c.op)
breaks a now c Role = breaks_role c.caller c.op
breaks a now c Change = breaks_change c.op (found_of a c.op)
breaks a now c Ended = breaks_ended now c.op
breaks a now c Key = breaks_key a c.caller c.op
breaks a now c Limit = breaks_limit c.op (found_of a c.op) a.serial
breaks a now c Subscription = breaks_subscription c.caller c.op (sub_of a c.op)
breaks a now c Depended = breaks_depended c.op (depended_of a c.op)

-- True if a call at a time breaks one of P7 to P13 and P15 to P17, given the facts that were looked
-- up.
abbrev pub breaks_given : Facts → ℕ → Call → Rule → Bool
breaks_given f now c Found = breaks_found c.op f.found f.sub
breaks_given f now c Fresh = breaks_fresh c.op f.found f.sub
breaks_given f now c Manager = breaks_manager c.caller c.op f.found f.sub
breaks_given f now c Version = breaks_version c.op f.found f.stated f.sub
breaks_given f now c Role = breaks_role c.caller c.op
breaks_given f now c Change = breaks_change c.op f.found
breaks_given f now c Ended = breaks_ended now c.op
breaks_given f now c Limit = breaks_limit c.op f.found f.serial
breaks_given f now c Subscription = breaks_subscription c.caller c.op f.sub
breaks_given f now c Depended = breaks_depended c.op f.depended
breaks_given f now c p = false

-- The rules in the order in which they are checked: the stateless rules, the stateful rules, and
-- the rules that come last.
abbrev pub early_rules : List Rule
early_rules = Route ∷ Method ∷ Token ∷ Scope ∷ Form ∷ Area ∷ []

abbrev pub standing_rules : List Rule
standing_rules =
    Found ∷ Fresh ∷ Manager ∷ Version ∷ Role ∷ Change ∷ Ended ∷ Subscription ∷ Depended ∷ []

abbrev pub last_rules : List Rule
last_rules = Key ∷ Limit ∷ []

abbrev pub rules_in_order : List Rule
rules_in_order = early_rules ++ (standing_rules ++ last_rules)

-- The first rule that a call at a time breaks, if any.
unfoldable pub first_broken : Airspace → ℕ → Call → Option Rule
first_broken a now c = find (breaks a now c) rules_in_order
