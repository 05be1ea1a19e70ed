-- What an instance did with a shared log, in order.
use Rattle.std.specs.Prelude.{◌≡◌, ℕ, List, [], ◌∷◌, ◌++◌, Option, Some, None, option_map}
use Rattle.pool_core.specs.declared.log.Entry.{Entry}
use Rattle.pool_core.specs.declared.log.LogEnd.{LogEnd}

-- An entry: the number of the instance that wrote it, and its bytes.
pub record LogEntry : Type 0 where
  pub writer : ℕ
  pub bytes : List ℕ

-- An event of a log: it took these bytes as a batch, it gave its next entry, it was asked how many
-- entries it has, or it answered a question.
pub data LogEvent : Type 0 where
  TakesBatch : (bytes : List ℕ) → LogEvent
  GivesEntry : (entry : LogEntry) → LogEvent
  AsksEnd : (question : ℕ) → LogEvent
  TellsEnd : (question : ℕ) → (count : ℕ) → LogEvent

-- Holds if a known history was continued by exactly these events. An unknown history stays unknown.
abbrev pub Continues : Option (List LogEvent) → Option (List LogEvent) → List LogEvent → Type 0
Continues past now events = now ≡ option_map (λ all. all ++ events) past

abbrev pub entry_of : Entry → LogEntry
entry_of entry = record { writer = entry.writer; bytes = entry.bytes.items }

-- The events of a call that returned the next entry, or that none has arrived.
abbrev pub next_events : Option Entry → List LogEvent
next_events None = []
next_events (Some entry) = GivesEntry (entry_of entry) ∷ []

-- The events of a call that returned an answer to a question, or that none has arrived.
abbrev pub end_events : Option LogEnd → List LogEvent
end_events None = []
end_events (Some end) = TellsEnd end.question end.count ∷ []
