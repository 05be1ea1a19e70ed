-- Events of a server between two looks at the token file, and how far the batch is then.
use Rattle.std.specs.Prelude.{◌≡◌, ◌⊎◌, Bool, true, false, List, Option}
use Rattle.std.specs.List.{AllPass, flat_map}
use Rattle.wire_http.specs.declared.explaining.Explaining.{Explaining}
use Rattle.wire_http.specs.declared.moments.Moments as moments
use Rattle.server_base.specs.History.{Extends, HistoryEvent}
use Rattle.server_watch.specs.declared.token_watch.TokenSource as sources
use Rattle.server_backend.specs.Phase.{Ended, Phase, Quiet, Running, phase_at_end}
use Rattle.server_backend.specs.declared.backend.Backend as backends
use Rattle.server_clients.specs.Backends.{all_backend_events}
use Rattle.server_clients.specs.ServerEvents.{Accepts, Acts, Closes, Confirms, FollowAll, Looks, Moves, Refuses, ServerEvent, ServerState, Setup, Stops, Tells, Works, history_of}

-- Returns true if the event is no look at the token file and no advance of the backend.
abbrev pub is_plain : ServerEvent → Bool
is_plain (Accepts key name) = true
is_plain (Refuses name) = true
is_plain (Acts key name event) = true
is_plain (Tells event ticket outcome lost) = true
is_plain (Works event) = true
is_plain (Moves moment held now) = false
is_plain (Looks now found) = false
is_plain Confirms = true
is_plain Stops = true
is_plain (Closes key) = true

-- The phase of the backend's batch after events.
abbrev pub phase_over : List ServerEvent → Phase → Phase
phase_over events phase = phase_at_end (all_backend_events events) phase

-- Holds if no request was received since the last batch, whose outcomes were all given; if requests
-- may have been received since then; if the last batch ended, and outcomes may still be given.
abbrev pub IsQuiet : Phase → Type 0
IsQuiet phase = phase ≡ Quiet

abbrev pub IsOpen : Phase → Type 0
IsOpen phase = (phase ≡ Quiet) ⊎ (phase ≡ Running)

abbrev pub IsSettled : Phase → Type 0
IsSettled phase = (phase ≡ Quiet) ⊎ (phase ≡ Ended)

module _ {B M T : Type 0} (b : backends.Ghosts B) (m : moments.Ghosts M) (t : sources.Ghosts T)
    (setup : Setup) (Before After : Phase → Type 0) (old new : ServerState B M T)
    (past now : Option (List HistoryEvent)) where
  -- Holds if some events, none of which is a look at the token file or an advance, lead from one
  -- state to the other, and the history records exactly them. From a phase before they lead to one
  -- after.
  pub record RunsTo : Type 0 where
    pub events : List ServerEvent
    pub follow : FollowAll b m t setup events old new
    pub history : Extends past now (flat_map history_of events)
    pub plain : AllPass is_plain events
    pub leads : (phase : Phase) → Before phase → After (phase_over events phase)

-- The same of a server of any setup with these explanations.
abbrev pub RunsIn : {B M T : Type 0} → backends.Ghosts B → moments.Ghosts M → sources.Ghosts T
    → Explaining → (Before After : Phase → Type 0) → (old new : ServerState B M T)
    → (past now : Option (List HistoryEvent)) → Type 0
RunsIn b m t explaining Before After old new past now = (setup : Setup)
    → setup.explaining ≡ explaining → RunsTo b m t setup Before After old new past now
