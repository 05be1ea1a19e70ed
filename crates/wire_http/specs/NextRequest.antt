-- The next request of a connection, and the step that finds it.
use Rattle.std.specs.Prelude.{◌≡◌, ◌<◌, ◌≤◌, ◌+◌, ◌-◌, ◌⊎◌, ◌==◌, ℕ, Bool, true, false, List, ◌++◌, drop, length, Option, IsUtf8}
use Rattle.std.specs.List.{concat}
use Rattle.httparse.specs.Grammar.{RequestHead}
use Rattle.httparse.specs.Spans.{IsWithin, span_bytes}
use Rattle.policy_core.specs.declared.call.Call.{Call}
use Rattle.policy_core.specs.declared.call.OpKind.{OpKind}
use Rattle.token_conf.specs.TokenFile.{Callers}
use Rattle.wire_head.specs.Rest.{after}
use Rattle.wire_head.specs.Target.{path_of}
use Rattle.wire_head.specs.declared.rule.WireRule.{WireRule}
use Rattle.wire_operation.specs.Asked.{IsCallOf}
use Rattle.wire_route.specs.declared.endpoint.Endpoint.{Endpoint}
use Rattle.wire_http.specs.BufferState.{HasNoRequest, MayCome, max_buffered}
use Rattle.wire_http.specs.Connection.{IsSame, awaited_of, buffered_of, has_ended, is_done, left_of}
use Rattle.wire_http.specs.Connection.{noted_of, output_of, ready_of, slot_of}
use Rattle.wire_http.specs.Next.{body_at}
use Rattle.wire_http.specs.RequestInfo.{IsEntityNamed, noted_after, requested_kind}
use Rattle.wire_http.specs.Stop.{Breaks}
use Rattle.wire_http.specs.Text.{end_texts}
use Rattle.wire_http.specs.Unread.{IsMadeFor}
use Rattle.wire_http.specs.Wire.{Finishes, IsRequest, left_after}
use Rattle.wire_http.specs.declared.connection.Connection.{Connection}
use Rattle.wire_http.specs.declared.connection.next.NextRequest.{NextRequest}
use Rattle.wire_http.specs.declared.connection.next.NextStep.{NextStep}
use Rattle.wire_http.specs.declared.connection.next.NextStep.TheVariants as steps
use Rattle.wire_http.specs.declared.end.End.{End}

-- ---- the parts of a request

-- What its path and its method name, and the call that is made for it.
abbrev pub endpoint_in : NextRequest → Option Endpoint
endpoint_in next = next.routed.endpoint

abbrev pub kind_in : NextRequest → Option OpKind
kind_in next = next.routed.kind

abbrev pub entity_in : NextRequest → Option ℕ
entity_in next = next.routed.entity

abbrev pub call_in : NextRequest → Call
call_in next = next.routed.call

-- The number of requests that may follow it, and whether the connection closes after its response.
abbrev pub left_in : NextRequest → ℕ
left_in next = next.left

abbrev pub closes_after : NextRequest → Bool
closes_after next = left_in next == 0

-- Its size in bytes.
abbrev pub size_in : NextRequest → ℕ
size_in next = next.head + next.body

-- Its method, its path and its body, in the bytes that begin with it.
abbrev pub method_in : (bytes : List ℕ) → NextRequest → List ℕ
method_in bytes next = span_bytes bytes next.method

abbrev pub path_in : (bytes : List ℕ) → NextRequest → List ℕ
path_in bytes next = path_of (span_bytes bytes next.path)

abbrev pub body_in : (bytes : List ℕ) → NextRequest → List ℕ
body_in bytes next = body_at bytes next.head next.body

-- Holds if the request is within these bytes.
pub record FitsIn (bytes : List ℕ) (next : NextRequest) : Type 0 where
  pub method : IsWithin next.head next.method
  pub path : IsWithin next.head next.path
  pub text : IsUtf8 (span_bytes bytes next.path)
  pub size : size_in next ≤ length bytes

-- ---- what the bytes begin with

-- Holds if the bytes begin with this request, whatever follows them, while `left` may come. The call
-- that is made for it is that of its head and its body, or one that is denied alike.
pub record IsFront (callers : Callers) (left : ℕ) (bytes : List ℕ) (next : NextRequest) : Type 0
  where
    pub head : RequestHead
    pub body : List ℕ
    pub call : Call
    pub request : (later : List ℕ) → IsRequest (bytes ++ later) head body
    pub rest : (later : List ℕ) → drop (size_in next) bytes ++ later
        ≡ drop (length body) (after head (bytes ++ later))
    pub is_call : IsCallOf callers head body (endpoint_in next) call
    pub made : IsMadeFor (call_in next) call
    pub kind : kind_in next ≡ requested_kind (endpoint_in next) head.method
    pub named : IsEntityNamed (path_of head.target) head.method (endpoint_in next) (entity_in next)
    pub count : left_in next ≡ left_after (left - 1) head
    pub method : method_in bytes next ≡ head.method
    pub path : path_in bytes next ≡ path_of head.target
    pub body_is : body_in bytes next ≡ body
    pub fits : FitsIn bytes next

-- ---- the step

-- Holds if more input may arrive: no request is complete, and there is room.
pub record MayGrow (c : Connection) : Type 0 where
  pub more : has_ended c ≡ false
  pub none : HasNoRequest (buffered_of c)
  pub room : length (buffered_of c) < max_buffered

-- Holds if more input is needed: the connection is as before, a request may still come, none is
-- complete, and more input may arrive.
pub record NeedsMore (c c' : Connection) : Type 0 where
  pub some : 0 < left_of c
  pub may_grow : MayGrow c
  pub same : IsSame c c'
  pub noted : noted_of c' ≡ noted_of c

-- Holds if the stream ended in this way, whatever can still arrive.
pub record EndsStream (c c' : Connection) (end : End) : Type 0 where
  pub finishes : (later : List ℕ) → MayCome (has_ended c) later
      → Finishes (left_of c) (buffered_of c ++ later) end
  pub output : output_of c' ≡ output_of c ++ concat (end_texts end)
  pub held : buffered_of c' ≡ buffered_of c
  pub left : left_of c' ≡ left_of c
  pub done : is_done c' ≡ true
  pub slot : slot_of c' ≡ slot_of c
  pub ended : has_ended c' ≡ has_ended c
  pub noted : noted_of c' ≡ noted_after end (noted_of c)

-- Holds if this request is the next one, and the connection is as before.
pub record GivesRequest (callers : Callers) (c c' : Connection) (next : NextRequest) : Type 0 where
  pub some : 0 < left_of c
  pub front : IsFront callers (left_of c) (buffered_of c) next
  pub same : c' ≡ c

-- Holds if this is what the connection does next. No request is consumed.
abbrev pub IsNextBy : Callers → Connection → Connection → NextStep → Type 0
IsNextBy callers c c' steps.NeedsInput = NeedsMore c c'
IsNextBy callers c c' (steps.Request next) = GivesRequest callers c c' next
IsNextBy callers c c' (steps.Ended end) = EndsStream c c' end

-- Holds if no more requests are answered, and all else is as before.
pub record IsStopped (c c' : Connection) : Type 0 where
  pub held : buffered_of c' ≡ buffered_of c
  pub output : output_of c' ≡ output_of c
  pub ready : ready_of c' ≡ ready_of c
  pub slot : slot_of c' ≡ slot_of c
  pub awaited : awaited_of c' ≡ awaited_of c
  pub left : left_of c' ≡ left_of c
  pub ended : has_ended c' ≡ has_ended c
  pub done : is_done c' ≡ true
  pub noted : noted_of c' ≡ noted_of c

-- Holds if memory ran out for the next request, or for the text of the protocol rule that the
-- buffered bytes break.
pub record LosesNext (c c' : Connection) : Type 0 where
  pub stopped : IsStopped c c'
  pub some : 0 < left_of c
  pub why : ((h : RequestHead) × (body : List ℕ) × IsRequest (buffered_of c) h body)
      ⊎ ((rule : WireRule) × ((later : List ℕ) → MayCome (has_ended c) later
      → Breaks (buffered_of c ++ later) rule))
