-- The calls that the bytes of a stream represent, and what is written for them.
use Rattle.std.specs.Prelude.{◌≡◌, ◌<◌, ◌≤◌, ◌-◌, ◌⊎◌, ◌==◌, ℕ, zero, suc, Bool, if◌then◌else◌, List, [], ◌∷◌, ◌++◌, length, take, drop, map, Option, Ok}
use Rattle.std.specs.List.{concat}
use Rattle.std.specs.Io.KnownBytes.{Appends}
use Rattle.httparse.specs.Grammar.{RequestHead}
use Rattle.policy_core.specs.declared.call.Call.{Call}
use Rattle.space_core.specs.declared.space.Space.{Ghosts}
use Rattle.service_calls.specs.declared.service.Service.{Service}
use Rattle.service_step.specs.declared.reply.Reply.{Reply}
use Rattle.service_calls.specs.Run.{Answered, TimedCall}
use Rattle.wire_http.specs.declared.fault.StreamFault.{StreamFault}
use Rattle.wire_http.specs.declared.fault.StreamFault.TheVariants as faults
use Rattle.wire_head.specs.declared.rule.WireRule.{WireRule}
use Rattle.wire_http.specs.Fault.{IsOfAnswering, IsOfAsking}
use Rattle.wire_http.specs.declared.end.End.{End}
use Rattle.wire_http.specs.declared.end.End.TheVariants as ends
use Rattle.wire_http.specs.declared.end.Served.{Served}
use Rattle.wire_route.specs.declared.endpoint.Endpoint.{Endpoint}
use Rattle.wire_head.specs.Rest.{IsKind, whole, after}
use Rattle.wire_head.specs.Length.{content_length}
use Rattle.token_conf.specs.TokenFile.{Callers}
use Rattle.wire_operation.specs.Asked.{IsCallOf, fields_of}
use Rattle.wire_http.specs.Text.{response_text, rule_text, end_texts}
use Rattle.wire_head.specs.Close.{closes_by}
use Rattle.wire_http.specs.Stop.{Breaks, StopsAs}

-- Holds if the rest begins with a complete request: a head, and a body of the length that its
-- fields give.
pub record IsRequest (rest : List ℕ) (h : RequestHead) (body : List ℕ) : Type 0 where
  pub head : IsKind rest (whole h)
  pub told : content_length (fields_of h) ≡ Ok (length body)
  pub follows : take (length body) (after h rest) ≡ body

-- Returns true if the connection closes after a request with that head.
abbrev pub closes : RequestHead → Bool
closes h = closes_by h.minor (fields_of h)

-- The number of requests that may follow one with that head: `n`, or zero if the connection closes.
abbrev pub left_after : ℕ → RequestHead → ℕ
left_after n h = if closes h then 0 else n

-- A request with its call: its head, the endpoint of its path, its time, the call, and whether the
-- connection closes after it.
pub record RequestCall : Type 0 where
  pub head : RequestHead
  pub endpoint : Option Endpoint
  pub moment : ℕ
  pub call : Call
  pub closing : Bool

abbrev pub timed : RequestCall → TimedCall
timed asked = (asked.moment, asked.call)

module _ {M : Type 0} (Gives : M → ℕ → M → Type 0) (callers : Callers) where
  -- Holds if the rest begins with a request that makes this call, at the next time of the clock.
  -- `next` is what follows it.
  pub record AsksCall (rest : List ℕ) (clock : M) (asked : RequestCall) (next : List ℕ) (clock' : M)
      : Type 0 where
    pub body : List ℕ
    pub request : IsRequest rest asked.head body
    pub call : IsCallOf callers asked.head body asked.endpoint asked.call
    pub moment : Gives clock asked.moment clock'
    pub next_is : next ≡ drop (length body) (after asked.head rest)

  -- Holds if these are the first of at most `bound` requests of the rest. After them `n` may still
  -- come, `left` is left of the input, and the clock is `later`.
  abbrev pub Leads : ℕ → List ℕ → M → List RequestCall → ℕ → List ℕ → M → Type 0
  Leads bound rest clock [] n left later = (n ≡ bound) × (left ≡ rest) × (later ≡ clock)
  Leads zero rest clock (asked ∷ more) n left later = ⊥
  Leads (suc bound) rest clock (asked ∷ more) n left later =
      (next : List ℕ) × (mid : M) × AsksCall rest clock asked next mid
      × (asked.closing ≡ (left_after bound asked.head == 0))
      × Leads (left_after bound asked.head) next mid more n left later

  -- Holds if the clock can be in this state after a fault before the next call. It gave only the
  -- times of the requests that made calls, or one more if memory ran out. This one, or a fault of
  -- the clock, requires a complete request. Nothing is said of a clock after it failed.
  abbrev pub ClockAfter : StreamFault → List ℕ → M → M → Type 0
  ClockAfter faults.Memory left later clock' =
      (clock' ≡ later) ⊎ ((h : RequestHead) × (body : List ℕ) × (moment : ℕ)
      × IsRequest left h body × Gives later moment clock')
  ClockAfter faults.Clock left later clock' = (h : RequestHead) × (body : List ℕ)
      × IsRequest left h body
  ClockAfter faults.Read left later clock' = clock' ≡ later
  ClockAfter faults.Write left later clock' = clock' ≡ later
  ClockAfter faults.Turns left later clock' = clock' ≡ later

-- Holds if the stream ends in this way while `n` requests may still come. If none may, the
-- connection closes.
abbrev pub Finishes : ℕ → List ℕ → End → Type 0
Finishes zero left end = end ≡ ends.Close
Finishes (suc n) left end = StopsAs left end

-- The texts of the responses, in order.
abbrev pub answers : List RequestCall → List Reply → List (List ℕ)
answers [] replies = []
answers (asked ∷ more) [] = []
answers (asked ∷ more) (reply ∷ replies) = response_text asked.endpoint asked.closing reply
    ∷ answers more replies

-- Holds if these texts can follow the responses before a fault: none, or that of the rule that the
-- rest breaks.
abbrev pub MayFollow : ℕ → List ℕ → List (List ℕ) → Type 0
MayFollow zero left texts = texts ≡ []
MayFollow (suc n) left texts = (texts ≡ []) ⊎ ((rule : WireRule) × Breaks left rule
    × (texts ≡ rule_text rule ∷ []))

-- Holds if the bytes are a prefix of the texts, in which only the last text is incomplete.
pub record IsFront (texts : List (List ℕ)) (bytes : List ℕ) : Type 0 where
  pub size : ℕ
  pub bytes_are : bytes ≡ take size (concat texts)
  pub others_whole : length (concat (take (length texts - 1) texts)) ≤ size
  pub last_short : size < length (concat texts)

-- Holds if the stream was aborted before its next call: a request may still come, and the responses
-- are complete.
pub record AbortsRequest
    {M : Type 0} (Gives : M → ℕ → M → Type 0) (callers : Callers)
    (fault : StreamFault) (n : ℕ) (left : List ℕ) (later clock' : M) (texts : List (List ℕ))
    (bytes : List ℕ) : Type 0 where
  pub fault_is : IsOfAsking fault
  pub more : 0 < n
  pub clock_is : ClockAfter Gives callers fault left later clock'
  pub whole : bytes ≡ concat texts

-- Holds if the stream was aborted within the last response, or within the text of the rule that the
-- rest breaks. The clock was not read since then.
pub record AbortsResponse
    {M : Type 0} (fault : StreamFault) (n : ℕ) (left : List ℕ) (later clock' : M)
    (texts : List (List ℕ)) (bytes : List ℕ) : Type 0 where
  pub fault_is : IsOfAnswering fault
  pub clock_is : clock' ≡ later
  pub tail : List (List ℕ)
  pub follows : MayFollow n left tail
  pub front : IsFront (texts ++ tail) bytes

-- Holds if this was served of an input. The calls of its requests were answered, and the responses
-- were written, then the text of the protocol rule that ended the stream, if one did.
pub record Serves
    {S M : Type 0} (g : Ghosts S) (Gives : M → ℕ → M → Type 0) (callers : Callers)
    (bound : ℕ) (input : List ℕ)
    (old new : Service S) (clock clock' : M) (before text : Option (List ℕ)) (served : Served)
    : Type 0 where
  pub all : List RequestCall
  pub replies : List Reply
  pub n : ℕ
  pub left : List ℕ
  pub leads : Leads Gives callers bound input clock all n left clock'
  pub finishes : Finishes n left served.end
  pub answered : Answered g old (map timed all) replies new
  pub count : served.count ≡ length all
  pub written : Appends before text (concat (answers all replies ++ end_texts served.end))

-- Holds if this was served before a fault: the first requests, with their responses written. The
-- last text may be incomplete.
pub record ServesPart
    {S M : Type 0} (g : Ghosts S) (Gives : M → ℕ → M → Type 0) (callers : Callers)
    (bound : ℕ) (input : List ℕ)
    (old new : Service S) (clock clock' : M) (before text : Option (List ℕ)) (fault : StreamFault)
    : Type 0 where
  pub all : List RequestCall
  pub replies : List Reply
  pub n : ℕ
  pub left : List ℕ
  pub later : M
  pub leads : Leads Gives callers bound input clock all n left later
  pub answered : Answered g old (map timed all) replies new
  pub bytes : List ℕ
  pub aborts :
      AbortsRequest Gives callers fault n left later clock' (answers all replies) bytes
      ⊎ AbortsResponse fault n left later clock' (answers all replies) bytes
  pub written : Appends before text bytes
