-- The state of a client once the backend gives an outcome.
use Rattle.std.proofs.Common.{◌≡◌, ℕ, zero, suc, ◌||◌, ◌∷◌, ◌++◌, Bool, true, false, List, [], take, drop, length, Option, Some, None, Result, Ok, Err, OnOk, is_some, is_err, option_map, if◌then◌else◌, refl, sym, ap, ◌∙◌, append-nil}
use Rattle.std.specs.Prelude.{OnErr}
use Rattle.std.proofs.lemmas.Bool.{eq-eqb, ne_eqb}
use Rattle.service_step.specs.declared.reply.Reply.{Reply}
use Rattle.service_step.specs.declared.reply.Reply.TheVariants as replies
use Rattle.wire_http.specs.Awaited.{outcome_text as draft_text, refusal_text}
use Rattle.wire_http.specs.Connection.{awaited_of, buffered_of, has_ended, holds_back, is_done, is_waiting, left_of, output_of, ready_of, slot_of}
use Rattle.wire_http.specs.DeferredResponse.{Slot as DraftSlot, before_last, slot_at}
use Rattle.wire_http.specs.Outcomes.{Resolves}
use Rattle.wire_http.specs.Text.{noted_text}
use Rattle.wire_http.specs.declared.connection.Connection.{Connection}
use Rattle.wire_http.specs.declared.connection.DeferredResponse.{DeferredResponse}
use Rattle.wire_http.specs.declared.connection.awaited.Awaited.{Awaited}
use Rattle.wire_http.specs.declared.request_info.Outcome.{Outcome as Recorded}
use Rattle.wire_http.specs.declared.unavailable.Unavailable.{Unavailable}
use Rattle.wire_http.specs.declared.unavailable.Unavailable.TheVariants as unavailable
use Rattle.wire_http.proofs.Written.{noted_none}
use Rattle.server_backend.specs.declared.outcome.Outcome.{Outcome}
use Rattle.server_backend.specs.declared.outcome.Outcome.TheVariants as outcomes
use Rattle.server_clients.specs.ClientIo.{awaited_slot, draft_slot, state_of, waiting_in}
use Rattle.server_clients.specs.ClientState.{ClientState, Waiting, resolved, told, told_if, waiting}
use Rattle.server_clients.specs.Offered.{Resolved, text_of}
use Rattle.server_clients.specs.Texts.{no_texts, texts_for}
use Rattle.server_clients.specs.declared.reason.Reason.{Reason}
use Rattle.server_clients.specs.declared.reason.Reason.TheVariants.{Memory}
use Rattle.server_clients.proofs.States.{is_free, not_held, same_texts, waits_none}

-- ---- the texts of outcomes

no_notes : (reply : Reply) → texts_for no_texts reply ≡ []
no_notes (replies.Done answer) = refl
no_notes (replies.Denied _ _) = refl
no_notes replies.Fault = refl
no_notes replies.Stopped = refl

replied_text : (ticket : ℕ) (slot : Option DraftSlot) (awaited : Option Awaited) (output ready : List ℕ) (reply : Reply)
    → draft_text slot awaited reply ≡ text_of (waiting_in (Some ticket) slot awaited output ready) (outcomes.Replied reply)
replied_text ticket (Some slot) awaited output ready reply =
    sym (ap (λ (v : List (List ℕ)). noted_text v slot.endpoint slot.closing reply) (no_notes reply) ∙ noted_none slot.endpoint slot.closing reply)
replied_text ticket None (Some awaited) output ready reply = ap (λ (v : List (List ℕ)). noted_text v awaited.endpoint awaited.closing reply) (same_texts awaited.texts reply)
replied_text ticket None None output ready reply = refl

refused_text : (ticket : ℕ) (slot : Option DraftSlot) (awaited : Option Awaited) (output ready : List ℕ) (reason : Unavailable)
    → refusal_text slot awaited reason ≡ text_of (waiting_in (Some ticket) slot awaited output ready) (outcomes.Unavailable reason)
refused_text ticket (Some slot) awaited output ready reason = refl
refused_text ticket None (Some awaited) output ready reason = refl
refused_text ticket None None output ready reason = refl

-- Without a draft, the outcome `Stands` has the text of status 503.
unknown_text : (ticket : ℕ) (slot : Option DraftSlot) (awaited : Option Awaited) (output ready : List ℕ) → slot ≡ None
    → refusal_text slot awaited unavailable.Unknown ≡ text_of (waiting_in (Some ticket) slot awaited output ready) outcomes.Stands
unknown_text ticket (Some slot) awaited output ready none = cc
unknown_text ticket None (Some awaited) output ready none = refl
unknown_text ticket None None output ready none = refl

-- The bytes that may be sent, and those of a draft, are all unsent bytes.
front_rest : (k : ℕ) (xs : List ℕ) → take k xs ++ drop (length (take k xs)) xs ≡ xs
front_rest zero xs = refl
front_rest (suc k) [] = refl
front_rest (suc k) (x ∷ xs) = ap (λ (v : List ℕ). x ∷ v) (front_rest k xs)

stood_text : (ticket sent : ℕ) (output : List ℕ) (back : Option DeferredResponse) (awaited : Option Awaited) → is_some back ≡ true
    → output ≡ before_last sent output back ++ text_of (waiting_in (Some ticket) (option_map slot_at back) awaited output (before_last sent output back)) outcomes.Stands
stood_text ticket sent output None awaited held = absurd (let no : false ≡ true = held in cc)
stood_text ticket sent output (Some last) awaited held = sym (front_rest _ output)

-- ---- connections

module _ {E : Type 0} (outcome : Outcome) (c c' : Connection) where
  resolved_by : (text : List ℕ) (recorded : Recorded) (told : Result (Unit {0}) E)
      → ((ticket : ℕ) → text ≡ text_of (waiting_in (Some ticket) (slot_of c) (awaited_of c) (output_of c) (ready_of c)) outcome)
      → OnOk told (Resolves text recorded c c') → OnErr told (Resolves [] recorded c c') → OnOk told (is_done c' ≡ is_done c) → Resolved outcome (is_err told) c c'
  resolved_by text recorded (Ok x) same ok err done = record {
    output = λ ticket. ok.output ∙ ap (λ (v : List ℕ). ready_of c ++ v) (same ticket);
    ready = ok.ready;
    held = ok.held;
    left = ok.left;
    ended = ok.ended;
    done = λ _. done;
  }
  resolved_by text recorded (Err e) same ok err done = record {
    output = λ ticket. err.output;
    ready = err.ready;
    held = err.held;
    left = err.left;
    ended = err.ended;
    done = λ lost. absurd (let no : true ≡ false = lost in cc);
  }

pub replied : {E : Type 0} (reply : Reply) (recorded : Recorded) (c c' : Connection) (told : Result (Unit {0}) E)
    → OnOk told (Resolves (draft_text (slot_of c) (awaited_of c) reply) recorded c c') → OnErr told (Resolves [] recorded c c') → OnOk told (is_done c' ≡ is_done c)
    → Resolved (outcomes.Replied reply) (is_err told) c c'
replied reply recorded c c' told ok err done =
    resolved_by (outcomes.Replied reply) c c' _ recorded told (λ ticket. replied_text ticket (slot_of c) (awaited_of c) (output_of c) (ready_of c) reply) ok err done

pub refused : {E : Type 0} (reason : Unavailable) (recorded : Recorded) (c c' : Connection) (told : Result (Unit {0}) E)
    → OnOk told (Resolves (refusal_text (slot_of c) (awaited_of c) reason) recorded c c') → OnErr told (Resolves [] recorded c c') → OnOk told (is_done c' ≡ is_done c)
    → Resolved (outcomes.Unavailable reason) (is_err told) c c'
refused reason recorded c c' told ok err done =
    resolved_by (outcomes.Unavailable reason) c c' _ recorded told (λ ticket. refused_text ticket (slot_of c) (awaited_of c) (output_of c) (ready_of c) reason) ok err done

pub unknown : {E : Type 0} (recorded : Recorded) (c c' : Connection) (told : Result (Unit {0}) E) → holds_back c ≡ false
    → OnOk told (Resolves (refusal_text (slot_of c) (awaited_of c) unavailable.Unknown) recorded c c') → OnErr told (Resolves [] recorded c c') → OnOk told (is_done c' ≡ is_done c)
    → Resolved outcomes.Stands (is_err told) c c'
unknown recorded c c' told none ok err done =
    resolved_by outcomes.Stands c c' _ recorded told (λ ticket. unknown_text ticket (slot_of c) (awaited_of c) (output_of c) (ready_of c) (not_held c none)) ok err done

pub stood : (c c' : Connection) → holds_back c ≡ true → output_of c' ≡ output_of c → ready_of c' ≡ output_of c → buffered_of c' ≡ buffered_of c → left_of c' ≡ left_of c → has_ended c' ≡ has_ended c → is_done c' ≡ is_done c
    → Resolved outcomes.Stands false c c'
stood c c' held output ready h l e d = record {
  output = λ ticket. output ∙ stood_text ticket c.sent (output_of c) c.deferred_response c.awaited held;
  ready = ready ∙ sym output;
  held = h;
  left = l;
  ended = e;
  done = λ _. d;
}

-- ---- the state

-- Holds if a request that waits has another ticket.
abbrev Differs : Option Waiting → ℕ → Type 0
Differs None ticket = Unit {0}
Differs (Some w) ticket = w.ticket ≡ ticket → ⊥

differs : (own : Option ℕ) (slot : Option DraftSlot) (awaited : Option Awaited) (output ready : List ℕ) (ticket : ℕ) → (own ≡ Some ticket → ⊥) → Differs (waiting_in own slot awaited output ready) ticket
differs None slot awaited output ready ticket h = tt
differs (Some t) (Some s) awaited output ready ticket h = λ same. h (ap (λ (n : ℕ). Some n) same)
differs (Some t) None (Some a) output ready ticket h = λ same. h (ap (λ (n : ℕ). Some n) same)
differs (Some t) None None output ready ticket h = tt

not_told : (ticket : ℕ) (outcome : Outcome) (lost : Bool) (w : Option Waiting) (l : ClientState) → Differs w ticket → l ≡ told_if w ticket outcome lost l
not_told ticket outcome lost None l h = refl
not_told ticket outcome lost (Some w) l h = sym (ap (λ (v : Bool). if v then resolved w outcome lost l else l) (ne_eqb w.ticket ticket h))

-- An outcome changes no client that waits under another ticket, or for none.
pub told_other : (name ticket : ℕ) (own : Option ℕ) (outcome : Outcome) (why : Option Reason) (c : Connection) → (own ≡ Some ticket → ⊥) → state_of name own why c ≡ told ticket outcome false (state_of name own why c)
told_other name ticket own outcome why c other =
    not_told ticket outcome false (waiting_in own (slot_of c) (awaited_of c) (output_of c) (ready_of c)) (state_of name own why c) (differs own (slot_of c) (awaited_of c) (output_of c) (ready_of c) ticket other)

pub told_none : (name ticket : ℕ) (own : Option ℕ) (outcome : Outcome) (why : Option Reason) (c : Connection) → is_waiting c ≡ false → state_of name own why c ≡ told ticket outcome false (state_of name own why c)
told_none name ticket own outcome why c none =
    let free = is_free c none in
    let l = state_of name own why c in
    sym (ap (λ (w : Option Waiting). told_if w ticket outcome false l) (waits_none own c free.slot free.awaited))

-- The request that waits has the ticket.
waits_some : (ticket : ℕ) (back : Option DeferredResponse) (awaited : Option Awaited) (output ready : List ℕ) → (is_some back || is_some awaited) ≡ true
    → (w : Waiting) × (waiting_in (Some ticket) (option_map slot_at back) awaited output ready ≡ Some w) × (w.ticket ≡ ticket)
waits_some ticket (Some last) awaited output ready h = (record { ticket = ticket; slot = draft_slot (slot_at last); draft = Some (drop (length ready) output) }, refl, refl)
waits_some ticket None (Some a) output ready h = (waiting ticket (awaited_slot a), refl, refl)
waits_some ticket None None output ready h = absurd (let no : false ≡ true = h in cc)

told_here : (ticket : ℕ) (outcome : Outcome) (lost : Bool) (w : Waiting) (l : ClientState) → l.waits ≡ Some w → w.ticket ≡ ticket → told ticket outcome lost l ≡ resolved w outcome lost l
told_here ticket outcome lost w l waits is =
    ap (λ (v : Option Waiting). told_if v ticket outcome lost l) waits ∙ ap (λ (v : Bool). if v then resolved w outcome lost l else l) (eq-eqb w.ticket ticket is)

pub told_state : (name ticket : ℕ) (outcome : Outcome) (why : Option Reason) (c c' : Connection) → is_waiting c ≡ true → Resolved outcome false c c'
    → state_of name None why c' ≡ told ticket outcome false (state_of name (Some ticket) why c)
told_state name ticket outcome why c c' waits h =
    let some = waits_some ticket c.deferred_response c.awaited (output_of c) (ready_of c) waits in
    let may_go = h.ready ∙ h.output ticket ∙ ap (λ (v : Option Waiting). ready_of c ++ text_of v outcome) some.1 in
    let dones = h.done refl in
    let here : state_of name None why c' ≡ resolved some.0 outcome false (state_of name (Some ticket) why c) = λ i. record {
      name = name;
      held = h.held i;
      ended = h.ended i;
      left = h.left i;
      ready = may_go i;
      waits = None;
      done = is_some why || dones i;
      why = why;
    } in
    here ∙ sym (told_here ticket outcome false some.0 (state_of name (Some ticket) why c) some.1 some.2)

pub lost_state : (name ticket : ℕ) (outcome : Outcome) (why : Option Reason) (c c' : Connection) → is_waiting c ≡ true → Resolved outcome true c c'
    → state_of name None (Some Memory) c' ≡ told ticket outcome true (state_of name (Some ticket) why c)
lost_state name ticket outcome why c c' waits h =
    let some = waits_some ticket c.deferred_response c.awaited (output_of c) (ready_of c) waits in
    let may_go = h.ready ∙ h.output ticket ∙ append-nil (ready_of c) in
    let here : state_of name None (Some Memory) c' ≡ resolved some.0 outcome true (state_of name (Some ticket) why c) = λ i. record {
      name = name;
      held = h.held i;
      ended = h.ended i;
      left = h.left i;
      ready = may_go i;
      waits = None;
      done = true;
      why = Some Memory;
    } in
    here ∙ sym (told_here ticket outcome true some.0 (state_of name (Some ticket) why c) some.1 some.2)
