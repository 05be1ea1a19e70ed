-- What the sockets of a service accepted, received and sent, in order.
use Rattle.std.specs.Prelude.{◌≡◌, ◌==◌, ◌<◌, ℕ, List, [], ◌∷◌, ◌++◌, take, Option, Some, None, option_map, Result, MatchResult, if◌then◌else◌, slice_index}
use Rattle.std.specs.List.{Contains}

-- An event of the sockets: a client of that name was accepted, these bytes arrived from it, it sends
-- no more bytes, or these bytes were sent to it.
pub data HistoryEvent : Type 0 where
  Accepted : (name : ℕ) → HistoryEvent
  Received : (name : ℕ) → (bytes : List ℕ) → HistoryEvent
  ReceivedEnd : (name : ℕ) → HistoryEvent
  Sent : (name : ℕ) → (bytes : List ℕ) → HistoryEvent

-- Holds if the event accepts no client, or one whose name no earlier client has.
abbrev pub HasNewName : List HistoryEvent → HistoryEvent → Type 0
HasNewName before (Accepted name) = Contains before (Accepted name) → ⊥
HasNewName before (Received name bytes) = Unit {0}
HasNewName before (ReceivedEnd name) = Unit {0}
HasNewName before (Sent name bytes) = Unit {0}

-- Holds if each of the events that follow `before` has a new name.
abbrev pub HaveNewNames : List HistoryEvent → List HistoryEvent → Type 0
HaveNewNames before [] = Unit {0}
HaveNewNames before (event ∷ events) =
    HasNewName before event × HaveNewNames (before ++ event ∷ []) events

-- The same after a history, if it is known.
abbrev pub AreNewAfter : Option (List HistoryEvent) → List HistoryEvent → Type 0
AreNewAfter None events = Unit {0}
AreNewAfter (Some before) events = HaveNewNames before events

-- Holds if a known history was continued by exactly these events, and each accepted client has a
-- new name. An unknown history stays unknown.
pub record Extends (past now : Option (List HistoryEvent)) (events : List HistoryEvent) : Type 0 where
  pub follow : now ≡ option_map (λ all. all ++ events) past
  pub new_names : AreNewAfter past events

-- The event of a read that returned these bytes: no bytes mean that no more arrive.
abbrev pub read_events : ℕ → List ℕ → List HistoryEvent
read_events name [] = ReceivedEnd name ∷ []
read_events name (b ∷ bytes) = Received name (b ∷ bytes) ∷ []

-- Holds if the history records what a read returned. A failed read leaves it.
abbrev pub RecordsRead : {E : Type 0} → ℕ → Option (List HistoryEvent) → Option (List HistoryEvent)
    → Result ℕ E → List ℕ → Type 0
RecordsRead name past now result chunk =
    MatchResult result (λ n. Extends past now (read_events name (take n chunk))) (λ _. now ≡ past)

-- Holds if the history records what a write took. A failed write leaves it.
abbrev pub RecordsWrite : {E : Type 0} → ℕ → Option (List HistoryEvent) → Option (List HistoryEvent)
    → Result ℕ E → List ℕ → Type 0
RecordsWrite name past now result bytes =
    MatchResult result (λ n. Extends past now (Sent name (take n bytes) ∷ [])) (λ _. now ≡ past)

-- The events that a note of a call adds to a history. The first number is the kind of the call: 0
-- accepts a client, 1 reads, any other writes. The second one is the name of the client.
abbrev pub events_of : (numbers bytes : List ℕ) → List HistoryEvent
events_of numbers bytes = if slice_index numbers 0 == 0 then Accepted (slice_index numbers 1) ∷ []
    else (if slice_index numbers 0 == 1 then read_events (slice_index numbers 1) bytes
    else (Sent (slice_index numbers 1) bytes ∷ []))

-- Holds if each accepted client has a name below this number.
abbrev pub AreBelow : ℕ → List HistoryEvent → Type 0
AreBelow next events = (name : ℕ) → Contains events (Accepted name) → name < next
