-- The rounds of a server.
use Rattle.std.proofs.Common.{◌≡◌, false, List, [], ◌∷◌, ◌++◌, Option, Some, None, refl, sym, ap, subst, ◌∙◌, append_assoc}
use Rattle.std.specs.Prelude.{IfSome, unwrap_or}
use Rattle.std.specs.List.{flat_map}
use Rattle.std.specs.Option.{option_or}
use Rattle.std.specs.declared.time.Duration.{Duration}
use Rattle.std.proofs.lemmas.List.{append-nil}
use Rattle.std.proofs.lemmas.List.Concat.{flat_map-append}
use Rattle.token_conf.specs.TokenFile.{TokenFile}
use Rattle.wire_http.specs.declared.moments.Moments as moments
use Rattle.server_base.specs.History.{Extends, HistoryEvent}
use Rattle.server_base.proofs.Histories.{extends_none, extends_same, extends_then}
use Rattle.server_watch.specs.TokenWatch.{LooksOnce}
use Rattle.server_watch.specs.Tokens.{IsTakenAfter}
use Rattle.server_watch.specs.declared.clock_watch.ClockWatch.{ClockWatch}
use Rattle.server_watch.specs.declared.token_watch.TokenSource as sources
use Rattle.server_watch.specs.declared.token_watch.TokenWatch.{TokenWatch}
use Rattle.server_backend.specs.Phase.{Phase, Quiet}
use Rattle.server_backend.specs.declared.backend.Backend as backends
use Rattle.server_clients.specs.ServerEvents.{Clients, FollowAll, Follows, Looks, Moves, ServerEvent, ServerState, Setup, history_of, no_clients}
use Rattle.server.specs.Rounds.{EndsRound, MayEnd, Round, RoundsAreSettled, RoundsRun, ServesClients, ServesToEnd, events_of_round, events_of_run, start}
use Rattle.server.specs.Runs.{IsQuiet, RunsTo, phase_over}
use Rattle.server.specs.Watches.{clock_of, server_state, stops_in, tokens_of}
use Rattle.server.specs.declared.watches.Watches.{Watches}
use Rattle.server.specs.Numbers.{AreNumbered}
use Rattle.server.proofs.Numbers.{numbered_all}
use Rattle.server.proofs.Runs.{follow_then, phase_then, runs_none}

-- ---- phases

round_quiet : (r : Round) → phase_over (events_of_round r) Quiet ≡ Quiet
round_quiet r =
    let tail = Moves r.moment r.held r.now ∷ r.rest in
    phase_then r.accepts (Looks r.now r.found ∷ (r.turns ++ tail)) Quiet ∙ phase_then r.turns tail (phase_over r.accepts Quiet)
    ∙ ap (λ (v : Phase). phase_over r.rest v) (sym (phase_then r.accepts r.turns Quiet) ∙ r.settled) ∙ r.none_after

run_quiet : (rounds : List Round) (last : List ServerEvent) → phase_over last Quiet ≡ Quiet → phase_over (events_of_run rounds last) Quiet ≡ Quiet
run_quiet [] last h = h
run_quiet (r ∷ rounds) last h =
    ap (λ (v : List ServerEvent). phase_over v Quiet) (append_assoc (events_of_round r) (flat_map events_of_round rounds) last)
    ∙ phase_then (events_of_round r) (events_of_run rounds last) Quiet ∙ ap (λ (v : Phase). phase_over (events_of_run rounds last) v) (round_quiet r)
    ∙ run_quiet rounds last h

module _ {B M T : Type 0} (b : backends.Ghosts B) (m : moments.Ghosts M) (t : sources.Ghosts T) where
  pub are_settled : RoundsAreSettled b m t
  are_settled setup old new past now run = run_quiet run.rounds run.last run.last_settled

-- ---- rounds so far

-- The history of a round.
round_recorded : (r : Round) → flat_map history_of (events_of_round r) ≡ flat_map history_of r.accepts ++ (flat_map history_of r.turns ++ flat_map history_of r.rest)
round_recorded r =
    flat_map-append history_of r.accepts (Looks r.now r.found ∷ (r.turns ++ Moves r.moment r.held r.now ∷ r.rest))
    ∙ ap (λ (v : List HistoryEvent). flat_map history_of r.accepts ++ v) (flat_map-append history_of r.turns (Moves r.moment r.held r.now ∷ r.rest))

more_rounds : (rounds : List Round) (r : Round) → flat_map events_of_round (rounds ++ r ∷ []) ≡ flat_map events_of_round rounds ++ events_of_round r
more_rounds rounds r = flat_map-append events_of_round rounds (r ∷ []) ∙ ap (λ (v : List ServerEvent). flat_map events_of_round rounds ++ v) (append-nil (events_of_round r))

module _ {B M T : Type 0} (b : backends.Ghosts B) (m : moments.Ghosts M) (t : sources.Ghosts T) (setup : Setup) where
  -- Rounds that lead from one state to the other.
  pub record SoFar (old new : ServerState B M T) (past now : Option (List HistoryEvent)) : Type 0 where
    pub rounds : List Round
    pub follow : FollowAll b m t setup (flat_map events_of_round rounds) old new
    pub history : Extends past now (flat_map history_of (flat_map events_of_round rounds))

  pub so_far_none : (s : ServerState B M T) (past : Option (List HistoryEvent)) → SoFar s s past past
  so_far_none s past = record { rounds = []; follow = refl; history = extends_none past }

  -- No round.
  pub so_far_start : (known : ClockWatch) (watch : TokenWatch T) (backend : B) (clock : M) (clients : Clients) (watches : Watches T) (past now : Option (List HistoryEvent)) → clients ≡ no_clients
      → clock_of watches ≡ known → tokens_of watches ≡ watch → stops_in watches ≡ false → now ≡ past
      → SoFar (start b m t setup backend clock known watch) (server_state backend clients clock setup.first watches) past now
  so_far_start known watch backend clock clients watches past now none clock_is tokens_is stops is = record {
    rounds = [];
    follow = λ i. record { backend = backend; clients = none i; clock = clock; known = clock_is i; table = setup.first; watch = tokens_is i; stops = stops i };
    history = extends_same past now is;
  }

  -- The token file is looked at.
  pub follows_looks : (at : Duration) (found : Option TokenFile) (backend : B) (clients : Clients) (clock : M) (table table' : TokenFile) (watches watches' : Watches T)
      → LooksOnce t setup.first at (tokens_of watches) (tokens_of watches') found → IfSome found (IsTakenAfter t.gives setup.first) → clock_of watches' ≡ clock_of watches → stops_in watches' ≡ stops_in watches
      → table' ≡ unwrap_or found table
      → Follows b m t setup (Looks at found) (server_state backend clients clock table watches) (server_state backend clients clock table' watches')
  follows_looks at found backend clients clock table table' watches watches' looks taken clock_is stops table_is = (
    tokens_of watches',
    looks,
    taken,
    λ i. record { backend = backend; clients = clients; clock = clock; known = clock_is i; table = table_is i; watch = tokens_of watches'; stops = stops i },
  )

  -- One round more.
  pub so_far_then : (at : Duration) (found : Option TokenFile) (s0 s1 s2 s3 s4 s5 : ServerState B M T) (h0 h1 h2 h3 h4 : Option (List HistoryEvent)) → SoFar s0 s1 h0 h1
      → RunsTo b m t setup IsQuiet IsQuiet s1 s2 h1 h2 → Follows b m t setup (Looks at found) s2 s3 → RunsTo b m t setup IsQuiet IsQuiet s3 s4 h2 h3 → EndsRound b m t setup at s4 s5 h3 h4
      → SoFar s0 s5 h0 h4
  so_far_then at found s0 s1 s2 s3 s4 s5 h0 h1 h2 h3 h4 p a looks u e =
      let r : Round = record {
        now = at;
        accepts = a.events;
        found = found;
        turns = u.events;
        moment = e.moment;
        held = e.held;
        rest = e.rest;
        accepts_plain = a.plain;
        turns_plain = u.plain;
        rest_plain = e.rest_plain;
        settled = phase_then a.events u.events Quiet ∙ ap (λ (v : Phase). phase_over u.events v) (a.leads Quiet refl) ∙ u.leads Quiet refl;
        none_after = e.none_after;
      } in
      let follow = follow_then b m t setup a.events (Looks at found ∷ (u.events ++ Moves e.moment e.held at ∷ e.rest)) s1 s2 s5 a.follow
      (s3, looks, follow_then b m t setup u.events (Moves e.moment e.held at ∷ e.rest) s3 s4 s5 u.follow e.follow) in
      let recorded = extends_then h1 h2 h4 (flat_map history_of a.events) (flat_map history_of u.events ++ flat_map history_of e.rest) a.history
      (extends_then h2 h3 h4 (flat_map history_of u.events) (flat_map history_of e.rest) u.history e.history) in
      record {
        rounds = p.rounds ++ r ∷ [];
        follow = subst (λ (v : List ServerEvent). FollowAll b m t setup v s0 s5) (sym (more_rounds p.rounds r))
            (follow_then b m t setup (flat_map events_of_round p.rounds) (events_of_round r) s0 s1 s5 p.follow follow);
        history = subst (λ (v : List ServerEvent). Extends h0 h4 (flat_map history_of v)) (sym (more_rounds p.rounds r))
            (subst (λ (v : List HistoryEvent). Extends h0 h4 v) (sym (flat_map-append history_of (flat_map events_of_round p.rounds) (events_of_round r)))
            (extends_then h0 h1 h4 (flat_map history_of (flat_map events_of_round p.rounds)) (flat_map history_of (events_of_round r)) p.history
            (subst (λ (v : List HistoryEvent). Extends h1 h4 v) (sym (round_recorded r)) recorded)));
      }

  -- Rounds, and one that was broken off.
  pub runs_last : (s0 s1 s2 : ServerState B M T) (h0 h1 h2 : Option (List HistoryEvent)) → SoFar s0 s1 h0 h1 → RunsTo b m t setup IsQuiet IsQuiet s1 s2 h1 h2
      → RoundsRun b m t setup s0 s2 h0 h2
  runs_last s0 s1 s2 h0 h1 h2 p a = record {
    rounds = p.rounds;
    last = a.events;
    last_plain = a.plain;
    last_settled = a.leads Quiet refl;
    follow = follow_then b m t setup (flat_map events_of_round p.rounds) a.events s0 s1 s2 p.follow a.follow;
    history = subst (λ (v : List HistoryEvent). Extends h0 h2 v) (sym (flat_map-append history_of (flat_map events_of_round p.rounds) a.events))
        (extends_then h0 h1 h2 (flat_map history_of (flat_map events_of_round p.rounds)) (flat_map history_of a.events) p.history a.history);
  }

  pub serves_so : (known : ClockWatch) (watch : TokenWatch T) (backend : B) (clock : M) (s1 s2 : ServerState B M T) (h0 h1 h2 : Option (List HistoryEvent))
      → SoFar (start b m t setup backend clock known watch) s1 h0 h1 → RunsTo b m t setup IsQuiet IsQuiet s1 s2 h1 h2
      → ServesClients b m t setup known watch backend s2.backend clock s2.clock h0 h2
  serves_so known watch backend clock s1 s2 h0 h1 h2 p a = record {
    end = s2;
    runs = runs_last (start b m t setup backend clock known watch) s1 s2 h0 h1 h2 p a;
    backend_is = refl;
    clock_is = refl;
  }

  pub ends_there : (known : ClockWatch) (watch : TokenWatch T) (backend : B) (clock : M) (s : ServerState B M T) (h0 h1 : Option (List HistoryEvent))
      → SoFar (start b m t setup backend clock known watch) s h0 h1 → MayEnd b m t setup s
      → ServesToEnd b m t setup known watch backend s.backend clock s.clock h0 h1
  ends_there known watch backend clock s h0 h1 p may = record {
    serves = record {
      end = s;
      runs = runs_last (start b m t setup backend clock known watch) s s h0 h1 h1 p (runs_none b m t setup IsQuiet s s h1 h1 refl refl);
      backend_is = refl;
      clock_is = refl;
    };
    may_end = may;
  }

  -- No two clients wait under one ticket.
  none_numbered : (backend : B) → AreNumbered b backend no_clients
  none_numbered backend = record { alone = λ ticket key other p q. absurd (let no : None ≡ Some ticket = p in cc); given = λ key ticket p. absurd (let no : None ≡ Some ticket = p in cc) }

  pub numbered_then : (s s' : ServerState B M T) (h h' : Option (List HistoryEvent)) → RunsTo b m t setup IsQuiet IsQuiet s s' h h' → AreNumbered b s.backend s.clients → AreNumbered b s'.backend s'.clients
  numbered_then s s' h h' p n = numbered_all b m t setup p.events s s' p.follow n

  pub numbered_so_far : (known : ClockWatch) (watch : TokenWatch T) (backend : B) (clock : M) (s1 s2 : ServerState B M T) (h0 h1 h2 : Option (List HistoryEvent))
      → SoFar (start b m t setup backend clock known watch) s1 h0 h1 → RunsTo b m t setup IsQuiet IsQuiet s1 s2 h1 h2 → AreNumbered b s2.backend s2.clients
  numbered_so_far known watch backend clock s1 s2 h0 h1 h2 p a =
      numbered_then s1 s2 h1 h2 a
      (numbered_all b m t setup (flat_map events_of_round p.rounds) (start b m t setup backend clock known watch) s1 p.follow (none_numbered backend))

-- The table that is active after a look.
pub table_after : (found newer last : Option TokenFile) (first active : TokenFile) → last ≡ option_or found newer → active ≡ unwrap_or last first → active ≡ unwrap_or found (unwrap_or newer first)
table_after (Some table) newer last first active is in_force = in_force ∙ ap (λ (v : Option TokenFile). unwrap_or v first) is
table_after None newer last first active is in_force = in_force ∙ ap (λ (v : Option TokenFile). unwrap_or v first) is
