-- The state of a server.
use Rattle.std.specs.Prelude.{◌≡◌, ◌⊎◌, Bool, true, is_some}
use Rattle.token_conf.specs.TokenFile.{TokenFile}
use Rattle.wire_http.specs.declared.explaining.Explaining.{Explaining}
use Rattle.server_watch.specs.ClockWatch.{confirmed, state_of}
use Rattle.server_watch.specs.declared.clock_watch.ClockWatch.{ClockWatch}
use Rattle.server_watch.specs.declared.token_watch.TokenWatch.{TokenWatch}
use Rattle.server_clients.specs.ServerEvents.{Clients, ServerState, Setup}
use Rattle.server.specs.declared.watches.Watches.{Watches}

abbrev pub clock_of : {T : Type 0} → Watches T → ClockWatch
clock_of watches = watches.clock

abbrev pub tokens_of : {T : Type 0} → Watches T → TokenWatch T
tokens_of watches = watches.tokens

-- True if an operator stopped the server.
abbrev pub stops_in : {T : Type 0} → Watches T → Bool
stops_in watches = is_some watches.stopping

-- The state of a server with this backend, these clients, this clock, active token table and
-- watches.
abbrev pub server_state : {B M T : Type 0} → B → Clients → M → TokenFile → Watches T
    → ServerState B M T
server_state backend clients clock table watches = record {
  backend = backend;
  clients = clients;
  clock = clock;
  known = clock_of watches;
  table = table;
  watch = tokens_of watches;
  stops = stops_in watches;
}

-- The setup of a server.
abbrev pub setup_of : Explaining → (first : TokenFile) → (is_operated is_counted : Bool) → Setup
setup_of explaining first is_operated is_counted = record {
  explaining = explaining;
  first = first;
  is_operated = is_operated;
  is_counted = is_counted;
}

-- Holds if the clock was confirmed, and nothing else changed.
pub record ConfirmsClock {T : Type 0} (old new : Watches T) : Type 0 where
  pub clock : state_of (clock_of new) ≡ confirmed (state_of (clock_of old))
  pub tokens : tokens_of new ≡ tokens_of old
  pub stops : stops_in new ≡ stops_in old

-- The same, or nothing changed.
abbrev pub MayConfirm : {T : Type 0} → Watches T → Watches T → Type 0
MayConfirm old new = (new ≡ old) ⊎ ConfirmsClock old new

-- Holds if the stop began, and nothing else changed.
pub record BeginsStop {T : Type 0} (old new : Watches T) : Type 0 where
  pub clock : clock_of new ≡ clock_of old
  pub tokens : tokens_of new ≡ tokens_of old
  pub stops : stops_in new ≡ true
