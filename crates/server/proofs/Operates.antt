-- What a server does besides answering requests: the clock, the stop, and the end of a round.
use Rattle.std.proofs.Common.{◌≡◌, inl, inr, ℕ, Bool, true, List, Option, refl}
use Rattle.std.specs.declared.time.Duration.{Duration}
use Rattle.token_conf.specs.TokenFile.{TokenFile}
use Rattle.wire_http.specs.declared.moments.Moments as moments
use Rattle.server_base.specs.History.{HistoryEvent}
use Rattle.server_watch.specs.ClockWatch.{is_held_in}
use Rattle.server_watch.specs.declared.token_watch.TokenSource as sources
use Rattle.server_backend.specs.BackendEvent.{Advances, Stops as StopsBackend}
use Rattle.server_backend.specs.Phase.{Phase, Quiet}
use Rattle.server_backend.specs.declared.backend.Backend as backends
use Rattle.server_clients.specs.ClientEvents.{ReadsOnceAs}
use Rattle.server_clients.specs.ClientSet.{SetChanges}
use Rattle.server_clients.specs.ServerEvents.{Clients, Confirms, KnowsAfter, Setup, Stops}
use Rattle.server.specs.Rounds.{EndsRound}
use Rattle.server.specs.Runs.{IsQuiet, IsSettled, RunsTo}
use Rattle.server.specs.Watches.{BeginsStop, MayConfirm, clock_of, server_state, stops_in, tokens_of}
use Rattle.server.specs.declared.watches.Watches.{Watches}
use Rattle.server.proofs.Runs.{runs_changes, runs_none, runs_once, runs_stop, runs_then}

module _ {B M T : Type 0} (b : backends.Ghosts B) (m : moments.Ghosts M) (t : sources.Ghosts T) (setup : Setup) (table : TokenFile) where
  -- Nothing happened.
  pub runs_still : (A : Phase → Type 0) (backend : B) (clock : M) (clients clients' : Clients) (watches watches' : Watches T) (past : Option (List HistoryEvent)) → clients' ≡ clients → watches' ≡ watches
      → RunsTo b m t setup A A (server_state backend clients clock table watches) (server_state backend clients' clock table watches') past past
  runs_still A backend clock clients clients' watches watches' past same is =
      runs_none b m t setup A (server_state backend clients clock table watches) (server_state backend clients' clock table watches') past past (λ i. server_state backend (same i) clock table (is i)) refl

  -- The clock may be confirmed.
  pub runs_confirm : (A : Phase → Type 0) (backend : B) (clock : M) (clients clients' : Clients) (watches watches' : Watches T) (past : Option (List HistoryEvent)) → setup.is_operated ≡ true
      → clients' ≡ clients → MayConfirm watches watches'
      → RunsTo b m t setup A A (server_state backend clients clock table watches) (server_state backend clients' clock table watches') past past
  runs_confirm A backend clock clients clients' watches watches' past operated same (inl is) = runs_still A backend clock clients clients' watches watches' past same is
  runs_confirm A backend clock clients clients' watches watches' past operated same (inr h) =
      let s = server_state backend clients clock table watches in
      let s' = server_state backend clients' clock table watches' in
      let is : s' ≡ record s { known = clock_of watches' } =
      λ i. record { backend = backend; clients = same i; clock = clock; known = clock_of watches'; table = table; watch = h.tokens i; stops = h.stops i } in
      runs_once b m t setup A A Confirms s s' past past (operated, clock_of watches', h.clock, is) refl (λ phase k. k) refl refl

  -- The stop begins.
  pub runs_stops : (A : Phase → Type 0) (old new : B) (clock : M) (clients clients' : Clients) (watches watches' : Watches T) (past : Option (List HistoryEvent)) → setup.is_operated ≡ true
      → BeginsStop watches watches' → SetChanges clients clients' past past → b.steps old StopsBackend new
      → RunsTo b m t setup A A (server_state old clients clock table watches) (server_state new clients' clock table watches') past past
  runs_stops A old new clock clients clients' watches watches' past operated begins changes steps =
      let s = server_state old clients clock table watches in
      let s1 = server_state old clients clock table watches' in
      let s2 = server_state old clients' clock table watches' in
      let s3 = server_state new clients' clock table watches' in
      let is : s1 ≡ record s { stops = true } =
      λ i. record { backend = old; clients = clients; clock = clock; known = begins.clock i; table = table; watch = begins.tokens i; stops = begins.stops i } in
      runs_then b m t setup A A A s s1 s3 past past past
      (runs_once b m t setup A A Stops s s1 past past (operated, is) refl (λ phase k. k) refl refl)
      (runs_then b m t setup A A A s1 s2 s3 past past past (runs_changes b m t setup A s1 clients clients' past past changes) (runs_stop b m t setup A s2 old new past steps))

  -- A round ends.
  pub ends_so : (at : Duration) (moment : Option ℕ) (held : Bool) (old mid new : B) (clock clock' end : M) (clients mid_clients clients' : Clients) (watches mid_watches watches' : Watches T)
      (past now : Option (List HistoryEvent)) → ReadsOnceAs m moment clock clock' → KnowsAfter moment at (clock_of watches) (clock_of mid_watches) → tokens_of mid_watches ≡ tokens_of watches
      → stops_in mid_watches ≡ stops_in watches → held ≡ is_held_in (clock_of mid_watches) → b.steps old (Advances moment held at) mid → mid_clients ≡ clients
      → RunsTo b m t setup IsSettled IsQuiet (server_state mid mid_clients clock' table mid_watches) (server_state new clients' end table watches') past now
      → EndsRound b m t setup at (server_state old clients clock table watches) (server_state new clients' end table watches') past now
  ends_so at moment held old mid new clock clock' end clients mid_clients clients' watches mid_watches watches' past now reads knows tokens stops held_is steps same rest =
      let s = server_state old clients clock table watches in
      let s1 = server_state mid mid_clients clock' table mid_watches in
      let is : s1 ≡ record s { backend = mid; clock = clock'; known = clock_of mid_watches } =
      λ i. record { backend = mid; clients = same i; clock = clock'; known = clock_of mid_watches; table = table; watch = tokens i; stops = stops i } in
      record {
        moment = moment;
        held = held;
        rest = rest.events;
        rest_plain = rest.plain;
        none_after = rest.leads Quiet (inl refl);
        follow = (s1, (mid, clock', clock_of mid_watches, reads, knows, held_is, steps, is), rest.follow);
        history = rest.history;
      }
