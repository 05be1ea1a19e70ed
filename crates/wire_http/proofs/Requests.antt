-- Lemmas: the next request of a connection, and the turn of a stream that it is.
use Rattle.std.proofs.Common.{◌≡◌, ℕ, ◌<◌, ◌+◌, ◌-◌, List, [], ◌++◌, length, take, drop, map, Bool, cond, Option, Some, refl, sym, ap, subst, ◌∙◌, append-nil, inl, inr}
use Rattle.std.specs.Prelude.{◌==◌, option_map}
use Rattle.httparse.specs.declared.spans.HeaderSpan.{HeaderSpan}
use Rattle.httparse.specs.declared.spans.RequestSpans.{RequestSpans}
use Rattle.httparse.specs.Grammar.{RequestHead}
use Rattle.httparse.specs.Spans.{header_bytes, span_bytes}
use Rattle.policy_core.specs.declared.call.Call.{Call}
use Rattle.policy_core.specs.declared.call.OpKind.{OpKind}
use Rattle.policy_core.specs.declared.scope.Caller.{Caller}
use Rattle.space_core.specs.declared.space.Space.{Ghosts}
use Rattle.service_calls.specs.declared.service.Service.{Service}
use Rattle.service_step.specs.declared.reply.Reply.{Reply}
use Rattle.service_step.specs.declared.reply.Reply.TheVariants.{Denied, Done, Fault, Stopped}
use Rattle.token_conf.specs.TokenFile.{Callers}
use Rattle.wire_head.specs.Close.{closes_by}
use Rattle.wire_head.specs.FinalHead.{Covers}
use Rattle.wire_head.specs.Rest.{after}
use Rattle.wire_head.specs.Target.{path_of}
use Rattle.wire_operation.specs.Asked.{IsCallOf}
use Rattle.wire_route.specs.declared.endpoint.Endpoint.{Endpoint}
use Rattle.wire_http.specs.declared.buffered.BufferState.TheVariants.{Gives}
use Rattle.wire_http.specs.declared.call.RoutedOperation.{RoutedOperation}
use Rattle.wire_http.specs.declared.connection.Connection.{Connection}
use Rattle.wire_http.specs.declared.connection.Step.TheVariants as steps
use Rattle.wire_http.specs.declared.connection.next.NextRequest.{NextRequest}
use Rattle.wire_http.specs.declared.end.End.{End}
use Rattle.wire_http.specs.declared.explaining.Explaining.{Explaining}
use Rattle.wire_http.specs.declared.explaining.Explaining.TheVariants.{Off, On}
use Rattle.wire_http.specs.declared.fault.StreamFault.TheVariants as faults
use Rattle.wire_http.specs.declared.request.Next.TheVariants.{Request}
use Rattle.wire_http.specs.declared.request_info.Outcome.{Outcome}
use Rattle.wire_http.specs.declared.request_info.RequestInfo.{RequestInfo}
use Rattle.wire_http.specs.declared.texts.Texts.{Texts}
use Rattle.wire_http.specs.BufferState.{IsHeld}
use Rattle.wire_http.specs.Connection.{IsNotedStep, IsStepPart, buffered_of, left_of, output_of}
use Rattle.wire_http.specs.NextRequest.{EndsStream}
use Rattle.wire_http.specs.Next.{NextFits, body_at}
use Rattle.wire_http.specs.NextRequest.{IsFront, IsStopped, LosesNext, NeedsMore, call_in, endpoint_in, entity_in, left_in}
use Rattle.wire_http.specs.Notes.{IsWritten, MayBeNotes}
use Rattle.wire_http.specs.Outcomes.{Drafts}
use Rattle.wire_http.specs.RequestInfo.{IsEntityNamed, outcome_of, requested_kind}
use Rattle.wire_http.specs.Requests.{DraftIsATurn, EndIsAnEnd, InputIsAwaited, IsCalled, LossIsAPart, NoRequestIsAPart, NoTimeIsAPart}
use Rattle.wire_http.specs.Text.{noted_text}
use Rattle.wire_http.specs.Texts.{MayBeTexts, texts_for}
use Rattle.wire_http.specs.Turn.{Took}
use Rattle.wire_http.specs.Unread.{IsMadeFor}
use Rattle.wire_http.specs.Wire.{AsksCall, RequestCall}
use Rattle.wire_http.proofs.FirstRequest.{left_here, named_here}
use Rattle.wire_http.proofs.TurnLaws.{unread_next}
use Rattle.wire_http.proofs.Unread.{reply_for}
use Rattle.wire_http.proofs.Written.{noted_none, some_message}

-- ---- the request that was found

-- The bytes begin with the request that was found.
pub front_here : (callers : Callers) (left n : ℕ) (over : Bool) (bytes at : List ℕ) (fields : List HeaderSpan) (spans : RequestSpans) (size : ℕ) (routed : RoutedOperation) (call : Call)
    → at ≡ bytes → IsHeld bytes over fields (Gives (Request spans size)) → NextFits bytes fields (Request spans size)
    → ((h : RequestHead) → Covers at fields spans h → IsCallOf callers h (body_at at spans.len size) routed.endpoint call) → IsMadeFor routed.call call
    → routed.kind ≡ requested_kind routed.endpoint (span_bytes at spans.method)
    → IsEntityNamed (path_of (span_bytes at spans.path)) (span_bytes at spans.method) routed.endpoint routed.entity
    → n ≡ cond (closes_by spans.version (map (header_bytes at) (take spans.headers fields))) 0 (left - 1)
    → IsFront callers left bytes (record { method = spans.method; path = spans.path; head = spans.len; body = size; left = n; routed = routed })
front_here callers left n over bytes at fields spans size routed call e held fits makes made kind named count =
    let found = held [] (λ _. refl) in
    let h = found.0 in
    let cover = found.2 in
    let method : span_bytes at spans.method ≡ h.method = ap (λ v. span_bytes v spans.method) e ∙ cover.method in
    let path : span_bytes at spans.path ≡ h.target = ap (λ v. span_bytes v spans.path) e ∙ cover.path in
    record {
      head = h;
      body = body_at bytes spans.len size;
      call = call;
      request = found.1;
      rest = λ later. unread_next later bytes (bytes ++ later) (drop (spans.len + size) bytes) h spans.len size refl cover.len fits.2 refl;
      is_call = subst (λ (v : List ℕ). Covers v fields spans h → IsCallOf callers h (body_at v spans.len size) routed.endpoint call) e (makes h) cover;
      made = made;
      kind = kind ∙ ap (requested_kind routed.endpoint) method;
      named = named_here _ _ _ _ routed.endpoint routed.entity path method named;
      count = left_here bytes at fields spans n (left - 1) h e cover count;
      method = cover.method;
      path = ap path_of cover.path;
      body_is = refl;
      fits = record { method = fits.0.method; path = fits.0.path; text = fits.1; size = fits.2 };
    }

-- ---- what is written

notes_are : (explaining : Explaining) (texts : Texts) (reply : Reply) → MayBeTexts explaining texts → MayBeNotes explaining (texts_for texts reply)
notes_are explaining texts (Done answer) may = may.1
notes_are explaining texts (Denied rule missing) may = may.0
notes_are Off texts Fault may = refl
notes_are On texts Fault may = tt
notes_are Off texts Stopped may = refl
notes_are On texts Stopped may = tt

written_with : (explaining : Explaining) (notes : List (List ℕ)) (p q : List ℕ) (endpoint : Option Endpoint) (closing : Bool) (reply : Reply)
    → MayBeNotes explaining notes → q ≡ p ++ noted_text notes endpoint closing reply → IsWritten explaining (Some p) (Some q) endpoint closing reply
written_with Off notes p q endpoint closing reply none w =
    w
    ∙ ap (λ v. p ++ noted_text v endpoint closing reply) none
    ∙ ap (λ text. p ++ text) (noted_none endpoint closing reply)
written_with On notes p q endpoint closing reply any w = (notes, w)

abbrev info : Option OpKind → Option Caller → Option ℕ → Outcome → Option RequestInfo
info kind caller entity outcome = Some (record {
  operation = kind;
  supplier = option_map (λ v. v.uss) caller;
  entity = entity;
  outcome = outcome;
})

-- ---- turns

module _ {S M : Type 0} (g : Ghosts S) (Gives : M → ℕ → M → Type 0) (callers : Callers) where
  module _ (old new : Service S) (clock clock' : M) (c : Connection) (next : NextRequest) (reply : Reply) (called : IsCalled g Gives callers old new clock clock' c next reply) where
    abbrev asked : RequestCall
    asked = record {
      head = called.front.head;
      endpoint = endpoint_in next;
      moment = called.moment;
      call = called.front.call;
      closing = left_in next == 0;
    }

    took : (before text : Option (List ℕ)) → Took g Gives callers (left_of c - 1) old new clock clock' before text asked reply (left_in next)
    took before text = record {
      n_is = called.front.count;
      closing = refl;
      is_reply = reply_for g old new called.moment (call_in next) called.front.call reply called.front.made called.is_reply;
    }

    asks : (later rest : List ℕ) → rest ≡ drop (length called.front.body) (after called.front.head (buffered_of c ++ later))
        → AsksCall Gives callers (buffered_of c ++ later) clock asked rest clock'
    asks later rest e = record {
      body = called.front.body;
      request = called.front.request later;
      call = called.front.is_call;
      moment = called.gives;
      next_is = e;
    }

    -- A request with a deferred response is one turn of a stream.
    pub drafted : (explaining : Explaining) (c' : Connection) (texts : Texts) → MayBeTexts explaining texts → Drafts next texts reply c c'
        → IsNotedStep g Gives callers old new clock clock' c c' explaining (steps.Answered (left_in next))
    drafted explaining c' texts may drafts = (
      (
        called.some,
        (
          asked,
          reply,
          [],
          took (Some (output_of c)) (Some (output_of c')),
          refl,
          λ later. asks later (buffered_of c' ++ later) (ap (λ v. v ++ later) drafts.takes.held ∙ called.front.rest later),
          written_with explaining (texts_for texts reply) (output_of c) (output_of c') (endpoint_in next) (left_in next == 0) reply (notes_are explaining texts reply may) drafts.output,
        ),
        drafts.takes.left,
        drafts.takes.ended,
        drafts.takes.done,
        drafts.ready,
        drafts.slot,
      ),
      (
        entity_in next,
        called.front.named,
        drafts.noted
            ∙ ap (λ v. info v (call_in next).caller (entity_in next) (outcome_of reply)) called.front.kind
            ∙ ap (λ v. info (requested_kind (endpoint_in next) called.front.head.method) v (entity_in next) (outcome_of reply)) called.front.made.caller,
      ),
    )

    -- A response that is lost aborts one turn.
    pub lost : (c' : Connection) → IsStopped c c' → IsStepPart g Gives callers old new clock clock' c c' faults.Memory
    lost c' stopped = (
      called.some,
      (
        [],
        refl,
        inr (inl (record {
          fault_is = tt;
          asked = asked;
          reply = reply;
          n = left_in next;
          next = drop (length called.front.body) (after called.front.head (buffered_of c ++ []));
          took = took (Some (output_of c)) (Some (output_of c'));
          asks = asks [] _ refl;
          size = 0;
          short = some_message _ _ _ _;
          written = stopped.output ∙ sym (append-nil (output_of c));
        })),
      ),
      stopped.output,
      stopped.held,
      stopped.done,
      stopped.slot,
      stopped.left,
      stopped.ended,
    )

  module _ (s : Service S) (clock : M) (c c' : Connection) where
    -- A clock that fails aborts one turn.
    pub no_time : (clock' : M) (next : NextRequest) → 0 < left_of c → IsFront callers (left_of c) (buffered_of c) next → IsStopped c c'
        → IsStepPart g Gives callers s s clock clock' c c' faults.Clock
    no_time clock' next some front stopped = (
      some,
      (
        [],
        refl,
        inl (record {
          fault_is = tt;
          same = refl;
          clock_is = (front.head, front.body, front.request []);
          written = stopped.output ∙ sym (append-nil (output_of c));
        }),
      ),
      stopped.output,
      stopped.held,
      stopped.done,
      stopped.slot,
      stopped.left,
      stopped.ended,
    )

    -- Memory that runs out before the call aborts one turn.
    pub no_request : LosesNext c c' → IsStepPart g Gives callers s s clock clock c c' faults.Memory
    no_request loses =
        let stopped = loses.stopped in (
          loses.some,
          (
            [],
            refl,
            inl (record {
              fault_is = tt;
              same = refl;
              clock_is = inl refl;
              written = stopped.output ∙ sym (append-nil (output_of c));
            }),
          ),
          stopped.output,
          stopped.held,
          stopped.done,
          stopped.slot,
          stopped.left,
          stopped.ended,
        )

    pub needs_more : (explaining : Explaining) → NeedsMore c c' → IsNotedStep g Gives callers s s clock clock c c' explaining steps.NeedsInput
    needs_more explaining needs =
        let may = needs.may_grow in
        ((refl, refl, needs.same, needs.some, may.more, may.none, may.room), needs.noted)

    pub ends : (explaining : Explaining) (end : End) → EndsStream c c' end → IsNotedStep g Gives callers s s clock clock c c' explaining (steps.Ended end)
    ends explaining end is = ((refl, refl, is.finishes, is.output, is.held, is.left, is.done, is.slot, is.ended), is.noted)

  pub draft_is_a_turn : DraftIsATurn g Gives callers
  draft_is_a_turn explaining old new clock clock' c c' next texts reply called may drafts = drafted old new clock clock' c next reply called explaining c' texts may drafts

  pub loss_is_a_part : LossIsAPart g Gives callers
  loss_is_a_part old new clock clock' c c' next reply called stopped = lost old new clock clock' c next reply called c' stopped

  pub no_time_is_a_part : NoTimeIsAPart g Gives callers
  no_time_is_a_part s clock clock' c c' next some front stopped = no_time s clock c c' clock' next some front stopped

  pub no_request_is_a_part : NoRequestIsAPart g Gives callers
  no_request_is_a_part s clock c c' loses = no_request s clock c c' loses

  pub input_is_awaited : InputIsAwaited g Gives callers
  input_is_awaited explaining s clock c c' needs = needs_more s clock c c' explaining needs

  pub end_is_an_end : EndIsAnEnd g Gives callers
  end_is_an_end explaining s clock c c' end is = ends s clock c c' explaining end is
