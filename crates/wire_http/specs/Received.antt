-- A received request, and the call that it makes.
use Rattle.std.specs.Prelude.{◌≡◌, ◌≤◌, ◌+◌, ℕ, length, Option, IsUtf8}
use Rattle.httparse.specs.Grammar.{RequestHead}
use Rattle.httparse.specs.Spans.{IsRequestWithin, span_bytes}
use Rattle.policy_core.specs.declared.call.Call.{Call}
use Rattle.policy_core.specs.declared.call.OpKind.{OpKind}
use Rattle.token_conf.specs.TokenFile.{Callers}
use Rattle.wire_http.specs.declared.call.Received.{Received}
use Rattle.wire_route.specs.declared.endpoint.Endpoint.{Endpoint}
use Rattle.wire_head.specs.FinalHead.{Covers}
use Rattle.wire_http.specs.Next.{body_at}
use Rattle.wire_operation.specs.Asked.{IsCallOf}
use Rattle.wire_head.specs.Target.{path_of}
use Rattle.wire_http.specs.RequestInfo.{IsEntityNamed, LeadsTo, requested_kind}
use Rattle.wire_http.specs.Unread.{IsMadeFor}

-- Holds if the request is within the bytes, and its target is UTF-8.
abbrev pub IsReceived : Received → Type 0
IsReceived r =
    IsRequestWithin r.buffer.now r.fields.now r.spans
    × IsUtf8 (span_bytes r.buffer.now r.spans.path)
    × (r.spans.len + r.size ≤ length r.buffer.now)

-- Holds if the head under the spans makes that call, at that endpoint.
abbrev pub IsMadeBy : Callers → Received → Option Endpoint → Call → Type 0
IsMadeBy callers r endpoint call =
    (h : RequestHead) → Covers r.buffer.now r.fields.now r.spans h
    → IsCallOf callers h (body_at r.buffer.now r.spans.len r.size) endpoint call

-- Holds if this call is made for that of the head under the spans.
abbrev pub IsMadeForOne : Callers → Received → Option Endpoint → Call → Type 0
IsMadeForOne callers r endpoint made =
    (call : Call) × IsMadeBy callers r endpoint call × IsMadeFor made call

-- Holds if path and method name this entity or subscription, or none.
abbrev pub IsNamedIn : Received → Option Endpoint → Option ℕ → Type 0
IsNamedIn r endpoint entity = IsEntityNamed (path_of (span_bytes r.buffer.now r.spans.path))
    (span_bytes r.buffer.now r.spans.method) endpoint entity

-- Holds if the path leads to this endpoint, or to none.
abbrev pub LeadsIn : Received → Option Endpoint → Type 0
LeadsIn r endpoint = LeadsTo (path_of (span_bytes r.buffer.now r.spans.path)) endpoint

-- Holds if this is the kind of operation of the method at the endpoint.
abbrev pub IsKindIn : Received → Option Endpoint → Option OpKind → Type 0
IsKindIn r endpoint kind = kind ≡ requested_kind endpoint (span_bytes r.buffer.now r.spans.method)
