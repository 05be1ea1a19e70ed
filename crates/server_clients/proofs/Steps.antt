-- How the steps of one client follow one another.
use Rattle.std.proofs.Common.{◌≡◌, ℕ, min, ◌<◌, ◌≤◌, ◌||◌, ◌∷◌, ◌++◌, Bool, true, List, [], length, take, drop, Option, Some, is_some, refl, sym, ap, subst, ◌∙◌, arith}
use Rattle.std.specs.List.{flat_map}
use Rattle.std.proofs.lemmas.List.{append-nil, drop-drop, length-drop, length-take-le, take-take}
use Rattle.std.proofs.lemmas.List.Concat.{flat_map-append}
use Rattle.wire_http.specs.declared.connection.Connection.{Connection}
use Rattle.wire_http.specs.Connection.{awaited_of, buffered_of, has_ended, is_done, left_of, output_of, ready_of, slot_of}
use Rattle.server_base.specs.History.{Extends, HistoryEvent, ReceivedEnd, Sent, read_events}
use Rattle.server_base.proofs.Histories.{extends_none, extends_same, extends_then, read_some}
use Rattle.server_clients.specs.ClientIo.{state_of}
use Rattle.server_clients.specs.ClientState.{Aborts, ClientState, ClientStep, ClientSteps, Discards, Limits, Receives, ReceivesEnd, Sends, StepsBy, StepsTo, aborted, history_of_step, limited}
use Rattle.server_clients.specs.declared.reason.Reason.{Reason}
use Rattle.server_clients.proofs.States.{moved_state}

-- ---- steps

by_then : (xs ys : List ClientStep) (l mid l' : ClientState) → StepsBy xs l mid → StepsBy ys mid l' → StepsBy (xs ++ ys) l l'
by_then [] ys l mid l' h k = subst (λ (v : ClientState). StepsBy ys v l') h k
by_then (x ∷ xs) ys l mid l' h k = (h.0, h.1, by_then xs ys h.0 mid l' h.2 k)

pub step_name : (x : ClientStep) (l l' : ClientState) → StepsTo x l l' → l'.name ≡ l.name
step_name (Receives bytes) l l' h = ap (λ (v : ClientState). v.name) h
step_name ReceivesEnd l l' h = ap (λ (v : ClientState). v.name) h
step_name (Discards bytes) l l' h = ap (λ (v : ClientState). v.name) h.1
step_name (Sends bytes) l l' h = ap (λ (v : ClientState). v.name) h.3
step_name (Aborts why) l l' h = ap (λ (v : ClientState). v.name) h
step_name Limits l l' h = ap (λ (v : ClientState). v.name) h

by_name : (xs : List ClientStep) (l l' : ClientState) → StepsBy xs l l' → l'.name ≡ l.name
by_name [] l l' h = ap (λ (v : ClientState). v.name) h
by_name (x ∷ xs) l l' h = by_name xs h.0 l' h.2 ∙ step_name x l h.0 h.1

pub steps_none : (l : ClientState) (past : Option (List HistoryEvent)) → ClientSteps l l past past
steps_none l past = record { steps = []; by = refl; history = extends_none past }

pub steps_then : (l mid l' : ClientState) (past between now : Option (List HistoryEvent)) → ClientSteps l mid past between → ClientSteps mid l' between now → ClientSteps l l' past now
steps_then l mid l' past between now p q = record {
  steps = p.steps ++ q.steps;
  by = by_then p.steps q.steps l mid l' p.by q.by;
  history = subst (λ (v : List HistoryEvent). Extends past now v) (sym (flat_map-append (history_of_step l.name) p.steps q.steps))
      (extends_then past between now (flat_map (history_of_step l.name) p.steps) (flat_map (history_of_step l.name) q.steps) p.history
      (subst (λ (n : ℕ). Extends between now (flat_map (history_of_step n) q.steps)) (by_name p.steps l mid p.by) q.history));
}

pub step_once : (x : ClientStep) (l l' : ClientState) (past now : Option (List HistoryEvent)) → StepsTo x l l' → Extends past now (history_of_step l.name x) → ClientSteps l l' past now
step_once x l l' past now h seen = record {
  steps = x ∷ [];
  by = (l', h, refl);
  history = subst (λ (v : List HistoryEvent). Extends past now v) (sym (append-nil (history_of_step l.name x))) seen;
}

-- The client was stopped.
pub stopped_once : (l l' : ClientState) (reason : Reason) (past : Option (List HistoryEvent)) → l' ≡ aborted l reason → ClientSteps l l' past past
stopped_once l l' reason past same = step_once (Aborts reason) l l' past past same (extends_none past)

-- The same client under another name of its state.
pub steps_to : (l l' : ClientState) (past : Option (List HistoryEvent)) → l' ≡ l → ClientSteps l l' past past
steps_to l l' past same = record { steps = []; by = same; history = extends_none past }

-- ---- steps of a connection

-- The bytes of a draft stay if as many bytes as before may be sent, or if the first ones were sent.
draft_same : (c c' : Connection) → output_of c' ≡ output_of c → ready_of c' ≡ ready_of c → drop (length (ready_of c')) (output_of c') ≡ drop (length (ready_of c)) (output_of c)
draft_same c c' o r = ap (λ (v : List ℕ). drop (length (ready_of c')) v) o ∙ ap (λ (v : List ℕ). drop (length v) (output_of c)) r

draft_left : (count : ℕ) (output ready : List ℕ) → count ≤ length ready → drop (length (drop count ready)) (drop count output) ≡ drop (length ready) output
draft_left count output ready fits =
    drop-drop (length (drop count ready)) count output ∙ ap (λ (n : ℕ). drop n output) (let size = length-drop count ready in omega (arith, size, fits))

-- What a clause of a connection says of a step that changes no request.
pub record Moves (held : List ℕ) (ended : Bool) (left : ℕ) (c c' : Connection) : Type 0 where
  pub held_is : buffered_of c' ≡ held
  pub ended_is : has_ended c' ≡ ended
  pub left_is : left_of c' ≡ left
  pub output : output_of c' ≡ output_of c
  pub ready : ready_of c' ≡ ready_of c
  pub slot : slot_of c' ≡ slot_of c
  pub awaited : awaited_of c' ≡ awaited_of c
  pub done : is_done c' ≡ is_done c

pub moved : (name name' : ℕ) (ticket : Option ℕ) (why : Option Reason) (held : List ℕ) (ended : Bool) (left : ℕ) (c c' : Connection) → name' ≡ name → Moves held ended left c c'
    → state_of name' ticket why c' ≡ record (state_of name ticket why c) { held = held; ended = ended; left = left }
moved name name' ticket why held ended left c c' same h =
    moved_state name name' ticket why c c' same held (ready_of c) ended left h.held_is h.ready h.ended_is h.left_is (draft_same c c' h.output h.ready) h.slot h.awaited h.done

module _ (name name' : ℕ) (ticket : Option ℕ) (past now : Option (List HistoryEvent)) (same : name' ≡ name) where
  renamed : (why : Option Reason) (c : Connection) → state_of name' ticket why c ≡ state_of name ticket why c
  renamed why c = ap (λ (n : ℕ). state_of n ticket why c) same

  pub io_none : (why : Option Reason) (c : Connection) → now ≡ past → ClientSteps (state_of name ticket why c) (state_of name' ticket why c) past now
  io_none why c is = record { steps = []; by = renamed why c; history = extends_same past now is }

  pub io_aborted : (why : Option Reason) (reason : Reason) (c : Connection) → now ≡ past → ClientSteps (state_of name ticket why c) (state_of name' ticket (Some reason) c) past now
  io_aborted why reason c is =
      step_once (Aborts reason) (state_of name ticket why c) (state_of name' ticket (Some reason) c) past now (renamed (Some reason) c) (extends_same past now is)

  pub io_ended : (why : Option Reason) (c c' : Connection) → Extends past now (ReceivedEnd name ∷ []) → Moves (buffered_of c) true (left_of c) c c'
      → ClientSteps (state_of name ticket why c) (state_of name' ticket why c') past now
  io_ended why c c' grows h = step_once ReceivesEnd (state_of name ticket why c) (state_of name' ticket why c') past now (moved name name' ticket why (buffered_of c) true (left_of c) c c' same h) grows

  pub io_received : (why : Option Reason) (c c' : Connection) (bytes : List ℕ) → 0 < length bytes → Extends past now (read_events name bytes) → Moves (buffered_of c ++ bytes) (has_ended c) (left_of c) c c'
      → ClientSteps (state_of name ticket why c) (state_of name' ticket why c') past now
  io_received why c c' bytes some grows h =
      step_once (Receives bytes) (state_of name ticket why c) (state_of name' ticket why c') past now (moved name name' ticket why (buffered_of c ++ bytes) (has_ended c) (left_of c) c c' same h)
      (subst (λ (v : List HistoryEvent). Extends past now v) (read_some name bytes some) grows)

  -- Bytes arrived for which there was no memory.
  pub io_lost : (why : Option Reason) (reason : Reason) (c c' : Connection) (bytes : List ℕ) → 0 < length bytes → Extends past now (read_events name bytes) → Moves (buffered_of c) (has_ended c) (left_of c) c c'
      → ClientSteps (state_of name ticket why c) (state_of name' ticket (Some reason) c') past now
  io_lost why reason c c' bytes some grows h =
      let gone = aborted (state_of name ticket why c) reason in
      let last : state_of name' ticket (Some reason) c' ≡ gone = moved name name' ticket (Some reason) (buffered_of c) (has_ended c) (left_of c) c c' same h in
      record {
        steps = Aborts reason ∷ Discards bytes ∷ [];
        by = (gone, refl, (gone, (refl, refl), last));
        history = subst (λ (v : List HistoryEvent). Extends past now v) (read_some name bytes some) grows;
      }

  -- Bytes arrived and were discarded.
  pub io_discarded : (why : Option Reason) (c : Connection) (bytes : List ℕ) → (is_some why || is_done c) ≡ true → 0 < length bytes → Extends past now (read_events name bytes)
      → ClientSteps (state_of name ticket why c) (state_of name' ticket why c) past now
  io_discarded why c bytes done some grows =
      step_once (Discards bytes) (state_of name ticket why c) (state_of name' ticket why c) past now (done, renamed why c)
      (subst (λ (v : List HistoryEvent). Extends past now v) (read_some name bytes some) grows)

  -- A write took some bytes of a chunk of those that may be sent.
  pub io_took : (why : Option Reason) (count most : ℕ) (c c' : Connection) (chunk : List ℕ) → chunk ≡ take most (ready_of c) → most ≤ length (ready_of c) → count ≤ length chunk → Extends past now (Sent name (take count chunk) ∷ [])
      → buffered_of c' ≡ buffered_of c → output_of c' ≡ drop count (output_of c) → ready_of c' ≡ drop count (ready_of c) → slot_of c' ≡ slot_of c → awaited_of c' ≡ awaited_of c → left_of c' ≡ left_of c
      → has_ended c' ≡ has_ended c → is_done c' ≡ is_done c
      → ClientSteps (state_of name ticket why c) (state_of name' ticket why c') past now
  io_took why count most c c' chunk are within fits grows h o r s a l e d =
      let size : length chunk ≡ most = ap (λ (v : List ℕ). length v) are ∙ length-take-le most (ready_of c) within in
      let few : count ≤ most = omega (arith, fits, size) in
      let bound : count ≤ length (ready_of c) = omega (arith, few, within) in
      let draft = ap (λ (v : List ℕ). drop (length (ready_of c')) v) o ∙ ap (λ (v : List ℕ). drop (length v) (drop count (output_of c))) r ∙ draft_left count (output_of c) (ready_of c) bound in
      step_once (Sends (take count chunk)) (state_of name ticket why c) (state_of name' ticket why c') past now
      (count, bound, ap (λ (v : List ℕ). take count v) are ∙ take-take count most (ready_of c) few, moved_state name name' ticket why c c' same (buffered_of c) (drop count (ready_of c)) (has_ended c) (left_of c) h r e l draft s a d)
      grows

  -- A write took no byte, after which the client was stopped.
  pub io_sent_none : (why : Option Reason) (reason : Reason) (count : ℕ) (c : Connection) (chunk : List ℕ) → count ≡ 0 → Extends past now (Sent name (take count chunk) ∷ [])
      → ClientSteps (state_of name ticket why c) (state_of name' ticket (Some reason) c) past now
  io_sent_none why reason count c chunk none grows = record {
    steps = Sends [] ∷ Aborts reason ∷ [];
    by = (state_of name ticket why c, (0, omega arith, refl, refl), (state_of name ticket (Some reason) c, refl, renamed (Some reason) c));
    history = subst (λ (n : ℕ). Extends past now (Sent name (take n chunk) ∷ [])) none grows;
  }

-- Nothing but a look at the buffered bytes, and a limit to one more request.
pub io_same : (name : ℕ) (ticket : Option ℕ) (why : Option Reason) (c c' : Connection) → Moves (buffered_of c) (has_ended c) (left_of c) c c' → state_of name ticket why c' ≡ state_of name ticket why c
io_same name ticket why c c' h = moved name name ticket why (buffered_of c) (has_ended c) (left_of c) c c' refl h

pub io_limited : (name : ℕ) (ticket : Option ℕ) (why : Option Reason) (c c' : Connection) → Moves (buffered_of c) (has_ended c) (min (left_of c) 1) c c' → state_of name ticket why c' ≡ limited (state_of name ticket why c)
io_limited name ticket why c c' h = moved name name ticket why (buffered_of c) (has_ended c) (min (left_of c) 1) c c' refl h
