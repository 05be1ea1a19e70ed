-- The information about a response.
use Rattle.std.specs.Prelude.{◌≡◌, ℕ, List, Option, Some, None, option_and_then, option_map}
use Rattle.policy_core.specs.declared.call.Call.{Call}
use Rattle.entity_core.specs.EntityId.{spelled}
use Rattle.policy_core.specs.declared.call.OpKind.{OpKind}
use Rattle.policy_core.specs.declared.call.OpKind.TheVariants as kinds
use Rattle.service_step.specs.declared.reply.Reply.{Reply}
use Rattle.service_step.specs.declared.reply.Reply.TheVariants as replies
use Rattle.wire_http.specs.DeferredResponse.{Slot}
use Rattle.wire_http.specs.declared.end.End.{End}
use Rattle.wire_http.specs.declared.end.End.TheVariants as ends
use Rattle.wire_http.specs.declared.request_info.RequestInfo.{RequestInfo}
use Rattle.wire_http.specs.declared.request_info.Outcome.{Outcome}
use Rattle.wire_http.specs.declared.request_info.Outcome.TheVariants as outcomes
use Rattle.wire_http.specs.declared.unavailable.Unavailable.{Unavailable}
use Rattle.wire_http.specs.declared.unavailable.Unavailable.TheVariants as unavailable
use Rattle.wire_http.specs.Wire.{RequestCall}
use Rattle.wire_route.specs.declared.endpoint.Endpoint.{Endpoint}
use Rattle.wire_route.specs.Endpoint.{kind_at}
use Rattle.wire_route.specs.Route.{HasNoRoute, IsRoute}
use Rattle.wire_body.specs.Body.{Words}
use Rattle.wire_head.specs.Target.{path_of}

abbrev pub outcome_of : Reply → Outcome
outcome_of (replies.Done answer) = outcomes.Done
outcome_of (replies.Denied rule missing) = outcomes.Denied rule
outcome_of replies.Fault = outcomes.Fault
outcome_of replies.Stopped = outcomes.Stopped

-- The recorded outcome of a request without a reply.
abbrev pub outcome_without : Unavailable → Outcome
outcome_without unavailable.Unreachable = outcomes.Stopped
outcome_without unavailable.Unknown = outcomes.Fault
outcome_without unavailable.Unassigned = outcomes.Stopped

-- The id of an entity or a subscription that the first path parameter represents. Operations of
-- some kinds have none.
abbrev pub entity_named : OpKind → Words → Option ℕ
entity_named (kinds.Read kind) words = spelled words.first
entity_named (kinds.Create kind) words = spelled words.first
entity_named (kinds.Update kind) words = spelled words.first
entity_named (kinds.Delete kind) words = spelled words.first
entity_named kinds.ReadSub words = spelled words.first
entity_named kinds.CreateSub words = spelled words.first
entity_named kinds.UpdateSub words = spelled words.first
entity_named kinds.DeleteSub words = spelled words.first
entity_named kind words = None

-- Holds if the path leads to this endpoint, or to none.
abbrev pub LeadsTo : List ℕ → Option Endpoint → Type 0
LeadsTo path None = HasNoRoute path
LeadsTo path (Some endpoint) = (words : Words) × IsRoute path endpoint words

-- Holds if path and method name this entity or subscription, or none.
abbrev pub IsEntityNamed : List ℕ → List ℕ → Option Endpoint → Option ℕ → Type 0
IsEntityNamed path method None entity = entity ≡ None
IsEntityNamed path method (Some endpoint) entity = (words : Words) × IsRoute path endpoint words
    × (entity ≡ option_and_then (λ kind. entity_named kind words) (kind_at endpoint method))

abbrev pub supplier_of : Call → Option (List ℕ)
supplier_of call = option_map (λ caller. caller.uss) call.caller

-- The kind of operation of a method at an endpoint, if there is one and it allows the method.
abbrev pub requested_kind : Option Endpoint → List ℕ → Option OpKind
requested_kind endpoint method = option_and_then (λ there. kind_at there method) endpoint

abbrev pub info_for : Option OpKind → Call → Option ℕ → Outcome → RequestInfo
info_for kind call entity outcome = record {
  operation = kind;
  supplier = supplier_of call;
  entity = entity;
  outcome = outcome;
}

-- The information about a request that names this entity, with this reply.
abbrev pub noted_for : RequestCall → Option ℕ → Reply → RequestInfo
noted_for asked entity reply =
    info_for (requested_kind asked.endpoint asked.head.method) asked.call entity (outcome_of reply)

-- Holds if this is the information about a request with this reply.
abbrev pub IsNotedFor : RequestCall → Reply → Option RequestInfo → Type 0
IsNotedFor asked reply noted = (entity : Option ℕ)
    × IsEntityNamed (path_of asked.head.target) asked.head.method asked.endpoint entity
    × (noted ≡ Some (noted_for asked entity reply))

-- The information after the end of a stream: the protocol rule that a request broke, otherwise what
-- was recorded before.
abbrev pub noted_after : End → Option RequestInfo → Option RequestInfo
noted_after (ends.Wire rule) noted = Some (record {
  operation = None;
  supplier = None;
  entity = None;
  outcome = outcomes.Wire rule;
})
noted_after ends.End noted = noted
noted_after ends.Cut noted = noted
noted_after ends.Close noted = noted

-- The same request, with that outcome.
abbrev pub recorded_as : Outcome → Option RequestInfo → Option RequestInfo
recorded_as outcome None = None
recorded_as outcome (Some noted) = Some (record {
  operation = noted.operation;
  supplier = noted.supplier;
  entity = noted.entity;
  outcome = outcome;
})

-- The same request, with that reply delivered.
abbrev pub told_as : Reply → Option RequestInfo → Option RequestInfo
told_as reply noted = recorded_as (outcome_of reply) noted

-- The same if a response was deferred, otherwise what was recorded before.
abbrev pub noted_instead : Option Slot → Reply → Option RequestInfo → Option RequestInfo
noted_instead None reply noted = noted
noted_instead (Some slot) reply noted = told_as reply noted
