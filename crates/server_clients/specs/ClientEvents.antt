-- What the server does for one client, event by event, over any backend.
use Rattle.std.specs.Prelude.{◌≡◌, ◌<◌, ◌-◌, ◌==◌, ℕ, Bool, false, List, [], ◌∷◌, ◌++◌, Option, Some, None}
use Rattle.std.specs.List.{flat_map}
use Rattle.policy_core.specs.declared.call.Call.{Call}
use Rattle.token_conf.specs.TokenFile.{TokenFile, callers_of}
use Rattle.wire_http.specs.BufferState.{MayCome}
use Rattle.wire_http.specs.Count.{one_more}
use Rattle.wire_http.specs.Unread.{IsMadeFor}
use Rattle.wire_http.specs.Wire.{AsksCall, Finishes, RequestCall, left_after}
use Rattle.wire_http.specs.declared.end.End.{End}
use Rattle.wire_http.specs.declared.explaining.Explaining.{Explaining}
use Rattle.wire_http.specs.declared.moments.Moments as moments
use Rattle.server_base.specs.History.{Extends, HistoryEvent}
use Rattle.server_backend.specs.BackendEvent.{BackendEvent, Receives as Takes}
use Rattle.server_backend.specs.declared.backend.Backend as backends
use Rattle.server_backend.specs.declared.outcome.Received.{Received}
use Rattle.server_clients.specs.ClientState.{ClientState, ClientStep, StepsTo, after_asking, finished, history_of_step}
use Rattle.server_clients.specs.Texts.{MayHaveTexts, RequestTexts}

-- An event of one client: a step; the backend received its next request, for which this call is
-- made, and the response may be lost for lack of memory; the end of its stream; or a read of the
-- clock without a request.
pub data ClientEvent : Type 0 where
  Steps : (step : ClientStep) → ClientEvent
  Asks : (asked : RequestCall) → (made : Call) → (received : Received) → (texts : RequestTexts)
      → (lost : Bool) → ClientEvent
  EndsStream : (end : End) → ClientEvent
  ReadsClock : (moment : Option ℕ) → ClientEvent

-- What the history of the sockets records of an event.
abbrev pub history_of_event : ℕ → ClientEvent → List HistoryEvent
history_of_event name (Steps step) = history_of_step name step
history_of_event name (Asks asked made received texts lost) = []
history_of_event name (EndsStream end) = []
history_of_event name (ReadsClock moment) = []

-- What the backend does in an event.
abbrev pub backend_events_in : ClientEvent → List BackendEvent
backend_events_in (Steps step) = []
backend_events_in (Asks asked made received texts lost) = Takes asked.moment made received ∷ []
backend_events_in (EndsStream end) = []
backend_events_in (ReadsClock moment) = []

-- A backend with a clock, and the state of one client.
pub record ServedClient (B M : Type 0) : Type 0 where
  pub backend : B
  pub clock : M
  pub client : ClientState

abbrev pub served_client : {B M : Type 0} → B → M → ClientState → ServedClient B M
served_client backend clock client =
    record { backend = backend; clock = clock; client = client }

-- Holds if the clock was read once, with this result.
abbrev pub ReadsOnceAs : {M : Type 0} → moments.Ghosts M → Option ℕ → M → M → Type 0
ReadsOnceAs m (Some moment) clock clock' = m.gives clock moment clock'
ReadsOnceAs m None clock clock' = m.failures clock' ≡ one_more (m.failures clock)

-- `explaining` says whether responses have explanations. `table` is the active token table.
module _ {B M : Type 0} (b : backends.Ghosts B) (m : moments.Ghosts M) (explaining : Explaining)
    (table : TokenFile) where
  -- Holds if the client may make a request, and none of its requests waits. The next request in its
  -- bytes, whatever follows them, makes the call `asked.call` at the next time of the clock, by the
  -- caller of its token in the active table. The call that the backend receives is this one, or one
  -- that is denied alike. `rest` follows the request.
  pub record IsAskedFor (asked : RequestCall) (made : Call) (texts : RequestTexts) (rest : List ℕ)
      (l : ClientState) (clock clock' : M) : Type 0 where
    pub is_running : l.done ≡ false
    pub some : 0 < l.left
    pub none_waits : l.waits ≡ None
    pub closing : asked.closing ≡ (left_after (l.left - 1) asked.head == 0)
    pub asks : (later : List ℕ) → AsksCall m.gives (callers_of table) (l.held ++ later) clock asked
        (rest ++ later) clock'
    pub made_for : IsMadeFor made asked.call
    pub texts_are : MayHaveTexts explaining texts

  -- Holds if the event leads from one state to the other.
  abbrev pub Occurs : ClientEvent → ServedClient B M → ServedClient B M → Type 0
  Occurs (Steps step) old new = (client : ClientState) × StepsTo step old.client client
      × (new ≡ record old { client = client })
  Occurs (Asks asked made received texts lost) old new = (rest : List ℕ) × (clock : M)
      × (backend : B) × IsAskedFor asked made texts rest old.client old.clock clock
      × b.steps old.backend (Takes asked.moment made received) backend
      × (new ≡ served_client backend clock (after_asking lost asked received texts rest old.client))
  Occurs (EndsStream end) old new = (old.client.done ≡ false) × (old.client.waits ≡ None)
      × ((later : List ℕ) → MayCome old.client.ended later
      → Finishes old.client.left (old.client.held ++ later) end)
      × (new ≡ record old { client = finished old.client end })
  Occurs (ReadsClock moment) old new = (clock : M) × ReadsOnceAs m moment old.clock clock
      × (new ≡ record old { clock = clock })

  -- Holds if the events lead from one state to the other.
  abbrev pub OccurAll : List ClientEvent → ServedClient B M → ServedClient B M → Type 0
  OccurAll [] old new = new ≡ old
  OccurAll (event ∷ events) old new =
      (mid : ServedClient B M) × Occurs event old mid × OccurAll events mid new

  -- Holds if some events lead from one state to the other, and the history records exactly them.
  pub record ClientRuns (old new : ServedClient B M) (past now : Option (List HistoryEvent))
      : Type 0 where
    pub events : List ClientEvent
    pub occur : OccurAll events old new
    pub history : Extends past now (flat_map (history_of_event old.client.name) events)
