-- The state of a client after each kind of step of its connection.
use Rattle.std.proofs.Common.{◌≡◌, ℕ, ◌||◌, ◌++◌, Bool, true, false, List, drop, length, Option, Some, None, is_some, option_map, refl, sym, ap, ◌∙◌}
use Rattle.std.specs.List.{concat}
use Rattle.std.proofs.Math.Seq.{drop-append_seam}
use Rattle.service_step.specs.declared.reply.Reply.{Reply}
use Rattle.service_step.specs.declared.reply.Reply.TheVariants as replies
use Rattle.wire_http.specs.declared.connection.Connection.{Connection}
use Rattle.wire_http.specs.declared.connection.DeferredResponse.{DeferredResponse}
use Rattle.wire_http.specs.declared.connection.awaited.Awaited.{Awaited}
use Rattle.wire_http.specs.declared.connection.next.NextRequest.{NextRequest}
use Rattle.wire_http.specs.declared.end.End.{End}
use Rattle.wire_http.specs.declared.explaining.Explaining.{Explaining}
use Rattle.wire_http.specs.declared.explaining.Explaining.TheVariants.{Off, On}
use Rattle.wire_http.specs.declared.texts.Texts.{Texts}
use Rattle.wire_http.specs.declared.unavailable.Unavailable.{Unavailable}
use Rattle.wire_http.specs.Connection.{awaited_of, buffered_of, has_ended, holds_back, is_done, is_waiting, left_of, output_of, ready_of, slot_of}
use Rattle.wire_http.specs.DeferredResponse.{Slot as DraftSlot, before_last, slot_at}
use Rattle.wire_http.specs.NextRequest.{EndsStream}
use Rattle.wire_http.specs.NextRequest.{IsStopped, closes_after, endpoint_in}
use Rattle.wire_http.specs.Outcomes.{Answers, Drafts, Refuses, Waits}
use Rattle.wire_http.specs.Text.{end_texts, noted_text, unavailable_text}
use Rattle.wire_http.specs.Texts.{texts_for as texts_of}
use Rattle.server_backend.specs.declared.outcome.Received.TheVariants as came
use Rattle.server_clients.specs.ClientIo.{draft_slot, state_of, waiting_in}
use Rattle.server_clients.specs.ClientState.{aborted, drafted, finished, waiting}
use Rattle.server_clients.specs.Offered.{after_offering, slot_with}
use Rattle.server_clients.specs.Texts.{MayHaveTexts, RequestTexts, no_texts, reply_in, texts_for, texts_in}
use Rattle.server_clients.specs.declared.reason.Reason.{Reason}

-- ---- connections without a request that waits

pub first_false : (a b : Bool) → (a || b) ≡ false → a ≡ false
first_false true b h = h
first_false false b h = refl

pub second_false : (a b : Bool) → (a || b) ≡ false → b ≡ false
second_false true b h = absurd (let no : true ≡ false = h in cc)
second_false false b h = h

pub or_true : (a : Bool) → (a || true) ≡ true
or_true true = refl
or_true false = refl

slot_none : (back : Option DeferredResponse) → is_some back ≡ false → option_map slot_at back ≡ None
slot_none None h = refl
slot_none (Some last) h = cc

awaited_none : (awaited : Option Awaited) → is_some awaited ≡ false → awaited ≡ None
awaited_none None h = refl
awaited_none (Some a) h = cc

before_none : (sent : ℕ) (output : List ℕ) (back : Option DeferredResponse) → option_map slot_at back ≡ None → before_last sent output back ≡ output
before_none sent output None h = refl
before_none sent output (Some last) h = cc

-- What is known of a connection without a request that waits.
pub record IsFree (c : Connection) : Type 0 where
  pub slot : slot_of c ≡ None
  pub awaited : awaited_of c ≡ None
  pub ready : ready_of c ≡ output_of c

pub not_held : (c : Connection) → holds_back c ≡ false → slot_of c ≡ None
not_held c h = slot_none c.deferred_response h

pub is_free : (c : Connection) → is_waiting c ≡ false → IsFree c
is_free c h =
    let none = slot_none c.deferred_response (first_false (holds_back c) (is_some c.awaited) h) in
    record { slot = none; awaited = awaited_none c.awaited (second_false (holds_back c) (is_some c.awaited) h); ready = before_none c.sent (output_of c) c.deferred_response none }

pub waits_for_none : (ticket : Option ℕ) (slot : Option DraftSlot) (awaited : Option Awaited) (output ready : List ℕ) → slot ≡ None → awaited ≡ None → waiting_in ticket slot awaited output ready ≡ None
waits_for_none None slot awaited output ready h k = refl
waits_for_none (Some t) None None output ready h k = refl
waits_for_none (Some t) None (Some a) output ready h k = cc
waits_for_none (Some t) (Some s) awaited output ready h k = cc

pub waits_none : (ticket : Option ℕ) (c : Connection) → slot_of c ≡ None → awaited_of c ≡ None → waiting_in ticket (slot_of c) (awaited_of c) (output_of c) (ready_of c) ≡ None
waits_none ticket c h k = waits_for_none ticket (slot_of c) (awaited_of c) (output_of c) (ready_of c) h k

-- ---- texts

pub same_texts : (texts : Texts) (reply : Reply) → texts_of texts reply ≡ texts_for (texts_in texts) reply
same_texts texts (replies.Done answer) = refl
same_texts texts (replies.Denied _ _) = refl
same_texts texts replies.Fault = refl
same_texts texts replies.Stopped = refl

pub no_texts_may_be : (explaining : Explaining) → MayHaveTexts explaining no_texts
no_texts_may_be Off = (refl, refl)
no_texts_may_be On = (tt, tt)

text_is : (next : NextRequest) (texts : Texts) (reply : Reply) → noted_text (texts_of texts reply) (endpoint_in next) (closes_after next) reply ≡ reply_in (slot_with next (texts_in texts)) reply
text_is next texts reply = ap (λ v. noted_text v (endpoint_in next) (closes_after next) reply) (same_texts texts reply)

-- ---- the next request

module _ (name : ℕ) (ticket before : Option ℕ) (why : Option Reason) (c c' : Connection) (free : IsFree c) where
  none_before : waiting_in before (slot_of c) (awaited_of c) (output_of c) (ready_of c) ≡ None
  none_before = waits_none before c free.slot free.awaited

  none_after : slot_of c' ≡ None → awaited_of c' ≡ awaited_of c → waiting_in ticket (slot_of c') (awaited_of c') (output_of c') (ready_of c') ≡ waiting_in before (slot_of c) (awaited_of c) (output_of c) (ready_of c)
  none_after slot awaited = waits_none ticket c' slot (awaited ∙ free.awaited) ∙ sym none_before

  pub answered_state : (next : NextRequest) (texts : Texts) (reply : Reply) → Answers next texts reply c c'
      → state_of name ticket why c' ≡ after_offering false next (came.Answered reply) (texts_in texts) (state_of name before why c)
  answered_state next texts reply h =
      let may_go = h.ready ∙ h.output ∙ ap (λ (v : List ℕ). v ++ noted_text (texts_of texts reply) (endpoint_in next) (closes_after next) reply) (sym free.ready) ∙ ap (λ (v : List ℕ). ready_of c ++ v) (text_is next texts reply) in
      let waits = none_after h.slot h.awaited in
      λ i. record {
        name = name;
        held = h.takes.held i;
        ended = h.takes.ended i;
        left = h.takes.left i;
        ready = may_go i;
        waits = waits i;
        done = is_some why || h.takes.done i;
        why = why;
      }

  pub refused_state : (next : NextRequest) (texts : RequestTexts) (reason : Unavailable) → Refuses next reason c c'
      → state_of name ticket why c' ≡ after_offering false next (came.Refused reason) texts (state_of name before why c)
  refused_state next texts reason h =
      let may_go = h.ready ∙ h.output ∙ ap (λ (v : List ℕ). v ++ unavailable_text (closes_after next) reason) (sym free.ready) in
      let waits = none_after h.slot h.awaited in
      λ i. record {
        name = name;
        held = h.takes.held i;
        ended = h.takes.ended i;
        left = h.takes.left i;
        ready = may_go i;
        waits = waits i;
        done = is_some why || h.takes.done i;
        why = why;
      }

  -- The response is lost, or the stream ended without its text.
  pub stopped_state : IsStopped c c' → (reason : Reason) → state_of name ticket (Some reason) c' ≡ aborted (state_of name before why c) reason
  stopped_state h reason =
      let waits = none_after (h.slot ∙ free.slot) h.awaited in
      λ i. record {
        name = name;
        held = h.held i;
        ended = h.ended i;
        left = h.left i;
        ready = h.ready i;
        waits = waits i;
        done = true;
        why = Some reason;
      }

  pub finished_state : (end : End) → EndsStream c c' end → awaited_of c' ≡ awaited_of c → state_of name ticket why c' ≡ finished (state_of name before why c) end
  finished_state end h awaited =
      let slot = h.slot ∙ free.slot in
      let may_go = before_none c'.sent (output_of c') c'.deferred_response slot ∙ h.output ∙ ap (λ (v : List ℕ). v ++ concat (end_texts end)) (sym free.ready) in
      let waits = none_after slot awaited in
      let dones = ap (λ (v : Bool). is_some why || v) h.done ∙ or_true (is_some why) in
      λ i. record {
        name = name;
        held = h.held i;
        ended = h.ended i;
        left = h.left i;
        ready = may_go i;
        waits = waits i;
        done = dones i;
        why = why;
      }

module _ (name : ℕ) (ticket : ℕ) (before : Option ℕ) (why : Option Reason) (c c' : Connection) (free : IsFree c) where
  pub drafted_state : (next : NextRequest) (texts : Texts) (reply : Reply) → Drafts next texts reply c c'
      → state_of name (Some ticket) why c' ≡ after_offering false next (came.Drafted ticket reply) (texts_in texts) (state_of name before why c)
  drafted_state next texts reply h =
      let may_go = h.ready ∙ sym free.ready in
      let text = noted_text (texts_of texts reply) (endpoint_in next) (closes_after next) reply in
      let draft : drop (length (ready_of c')) (output_of c') ≡ reply_in (slot_with next (texts_in texts)) reply =
      ap (λ (v : List ℕ). drop (length v) (output_of c')) h.ready ∙ ap (λ (v : List ℕ). drop (length (output_of c)) v) h.output ∙ drop-append_seam (output_of c) text ∙ text_is next texts reply in
      let waits : waiting_in (Some ticket) (slot_of c') (awaited_of c') (output_of c') (ready_of c') ≡ Some (drafted ticket (slot_with next (texts_in texts)) reply) =
      ap (λ (v : Option DraftSlot). waiting_in (Some ticket) v (awaited_of c') (output_of c') (ready_of c')) h.slot
      ∙ ap (λ (v : List ℕ). Some (record { ticket = ticket; slot = (drafted ticket (slot_with next (texts_in texts)) reply).slot; draft = Some v })) draft in
      λ i. record {
        name = name;
        held = h.takes.held i;
        ended = h.takes.ended i;
        left = h.takes.left i;
        ready = may_go i;
        waits = waits i;
        done = is_some why || h.takes.done i;
        why = why;
      }

  pub waiting_state : (next : NextRequest) (texts : Texts) → Waits next texts c c'
      → state_of name (Some ticket) why c' ≡ after_offering false next (came.Waits ticket) (texts_in texts) (state_of name before why c)
  waiting_state next texts h =
      let waits : waiting_in (Some ticket) (slot_of c') (awaited_of c') (output_of c') (ready_of c') ≡ Some (waiting ticket (slot_with next (texts_in texts))) =
      ap (λ (v : Option DraftSlot). waiting_in (Some ticket) v (awaited_of c') (output_of c') (ready_of c')) (h.slot ∙ free.slot)
      ∙ ap (λ (v : Option Awaited). waiting_in (Some ticket) None v (output_of c') (ready_of c')) h.awaited in
      λ i. record {
        name = name;
        held = h.takes.held i;
        ended = h.takes.ended i;
        left = h.takes.left i;
        ready = h.ready i;
        waits = waits i;
        done = is_some why || h.takes.done i;
        why = why;
      }

-- ---- other steps

same_draft : (ticket : Option ℕ) (slot : Option DraftSlot) (awaited : Option Awaited) (output output' ready ready' : List ℕ) → drop (length ready') output' ≡ drop (length ready) output
    → waiting_in ticket slot awaited output' ready' ≡ waiting_in ticket slot awaited output ready
same_draft None slot awaited output output' ready ready' d = refl
same_draft (Some t) (Some s) awaited output output' ready ready' d = ap (λ (v : List ℕ). Some (record { ticket = t; slot = draft_slot s; draft = Some v })) d
same_draft (Some t) None (Some a) output output' ready ready' d = refl
same_draft (Some t) None None output output' ready ready' d = refl

same_waits : (ticket : Option ℕ) (slot slot' : Option DraftSlot) (awaited awaited' : Option Awaited) (output output' ready ready' : List ℕ) → slot' ≡ slot → awaited' ≡ awaited
    → drop (length ready') output' ≡ drop (length ready) output → waiting_in ticket slot' awaited' output' ready' ≡ waiting_in ticket slot awaited output ready
same_waits ticket slot slot' awaited awaited' output output' ready ready' s a d =
    ap (λ (v : Option DraftSlot). waiting_in ticket v awaited' output' ready') s ∙ ap (λ (v : Option Awaited). waiting_in ticket slot v output' ready') a ∙ same_draft ticket slot awaited output output' ready ready' d

-- The state after the connection got these bytes, an end of its input or not, so many requests to come
-- and these bytes that may be sent, and all else is as before.
module _ (name name' : ℕ) (ticket : Option ℕ) (why : Option Reason) (c c' : Connection) (same_name : name' ≡ name) where
  pub moved_state : (held ready : List ℕ) (ended : Bool) (left : ℕ) → buffered_of c' ≡ held → ready_of c' ≡ ready → has_ended c' ≡ ended → left_of c' ≡ left
      → drop (length (ready_of c')) (output_of c') ≡ drop (length (ready_of c)) (output_of c)
      → slot_of c' ≡ slot_of c → awaited_of c' ≡ awaited_of c → is_done c' ≡ is_done c
      → state_of name' ticket why c' ≡ record (state_of name ticket why c) { held = held; ready = ready; ended = ended; left = left }
  moved_state held ready ended left h r e l d s a n =
      let waits = same_waits ticket (slot_of c) (slot_of c') (awaited_of c) (awaited_of c') (output_of c) (output_of c') (ready_of c) (ready_of c') s a d in
      λ i. record {
        name = same_name i;
        held = h i;
        ended = e i;
        left = l i;
        ready = r i;
        waits = waits i;
        done = is_some why || n i;
        why = why;
      }
