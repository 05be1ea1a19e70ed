-- How the events of a server follow one another.
use Rattle.std.proofs.Common.{◌≡◌, inl, inr, ℕ, true, List, [], ◌∷◌, ◌++◌, map, Option, Some, refl, sym, ap, subst, ◌∙◌}
use Rattle.std.specs.List.{AllPass, flat_map}
use Rattle.std.proofs.lemmas.List.{append-nil}
use Rattle.std.proofs.lemmas.List.Concat.{flat_map-append}
use Rattle.std.proofs.lemmas.List.Elements.{All-append, All-cons, All-nil}
use Rattle.wire_http.specs.SetAt.{set_at}
use Rattle.wire_http.specs.declared.moments.Moments as moments
use Rattle.server_base.specs.History.{Extends, HistoryEvent}
use Rattle.server_base.proofs.Histories.{extends_same, extends_then}
use Rattle.server_watch.specs.declared.token_watch.TokenSource as sources
use Rattle.server_backend.specs.BackendEvent.{BackendEvent, Forgets, Gives, GivesNone, Settles, Stops as StopsBackend}
use Rattle.server_backend.specs.Does.{DoesAll}
use Rattle.server_backend.specs.Phase.{Phase, phase_after, phase_at_end}
use Rattle.server_backend.specs.declared.backend.Backend as backends
use Rattle.server_backend.specs.declared.outcome.Outcome.{Outcome}
use Rattle.server_clients.specs.Backends.{all_backend_events}
use Rattle.server_clients.specs.ClientEvents.{Asks, ClientEvent, EndsStream, OccurAll, ReadsClock, ServedClient, Steps, backend_events_in, history_of_event, served_client}
use Rattle.server_clients.specs.ClientSet.{Adds, ChangesBy, ChangesTo, Rejects, Removes, SetChange, SetChanges, TakesSteps, history_of_change}
use Rattle.server_clients.specs.ClientState.{ClientState, ClientStep, StepsBy, history_of_step}
use Rattle.server_clients.specs.ServerEvents.{Accepts, Acts, Clients, Closes, FollowAll, Follows, Refuses, ServerEvent, ServerState, Setup, Tells, Works, all_told, backend_events_of, history_of}
use Rattle.server_clients.specs.Turns.{MayRunClient, RunsClient, ServedClients, served_clients}
use Rattle.server_clients.proofs.Events.{all_name}
use Rattle.server_clients.proofs.Sets.{set_same, set_there, set_twice}
use Rattle.server_clients.proofs.Steps.{step_name}
use Rattle.server.specs.Numbers.{TellsAll}
use Rattle.server.specs.Runs.{IsOpen, IsQuiet, IsSettled, RunsTo, is_plain, phase_over}

-- ---- phases

pub phase_at_then : (xs ys : List BackendEvent) (phase : Phase) → phase_at_end (xs ++ ys) phase ≡ phase_at_end ys (phase_at_end xs phase)
phase_at_then [] ys phase = refl
phase_at_then (x ∷ xs) ys phase = phase_at_then xs ys (phase_after x phase)

pub phase_then : (xs ys : List ServerEvent) (phase : Phase) → phase_over (xs ++ ys) phase ≡ phase_over ys (phase_over xs phase)
phase_then xs ys phase =
    ap (λ (v : List BackendEvent). phase_at_end v phase) (flat_map-append backend_events_of xs ys)
    ∙ phase_at_then (all_backend_events xs) (all_backend_events ys) phase

-- ---- changes of the clients

abbrev steps_events : (key name : ℕ) → List ClientStep → List ServerEvent
steps_events key name [] = []
steps_events key name (step ∷ steps) = Acts key name (Steps step) ∷ steps_events key name steps

abbrev events_of_change : SetChange → List ServerEvent
events_of_change (Adds key name) = Accepts key name ∷ []
events_of_change (Rejects name) = Refuses name ∷ []
events_of_change (TakesSteps key name steps) = steps_events key name steps
events_of_change (Removes key) = Closes key ∷ []

steps_recorded : (key name : ℕ) (steps : List ClientStep) → flat_map history_of (steps_events key name steps) ≡ flat_map (history_of_step name) steps
steps_recorded key name [] = refl
steps_recorded key name (step ∷ steps) = ap (λ (v : List HistoryEvent). history_of_step name step ++ v) (steps_recorded key name steps)

change_recorded : (change : SetChange) → flat_map history_of (events_of_change change) ≡ history_of_change change
change_recorded (Adds key name) = refl
change_recorded (Rejects name) = refl
change_recorded (TakesSteps key name steps) = steps_recorded key name steps
change_recorded (Removes key) = refl

abbrev events_of_changes : List SetChange → List ServerEvent
events_of_changes changes = flat_map events_of_change changes

changes_recorded : (changes : List SetChange) → flat_map history_of (events_of_changes changes) ≡ flat_map history_of_change changes
changes_recorded [] = refl
changes_recorded (x ∷ xs) =
    flat_map-append history_of (events_of_change x) (events_of_changes xs)
    ∙ ap (λ (v : List HistoryEvent). v ++ flat_map history_of (events_of_changes xs)) (change_recorded x)
    ∙ ap (λ (v : List HistoryEvent). history_of_change x ++ v) (changes_recorded xs)

steps_plain : (key name : ℕ) (steps : List ClientStep) → AllPass is_plain (steps_events key name steps)
steps_plain key name [] = All-nil (λ event. is_plain event ≡ true)
steps_plain key name (step ∷ steps) = All-cons (λ event. is_plain event ≡ true) (Acts key name (Steps step)) (steps_events key name steps) refl (steps_plain key name steps)

change_plain : (change : SetChange) → AllPass is_plain (events_of_change change)
change_plain (Adds key name) = All-cons (λ event. is_plain event ≡ true) (Accepts key name) [] refl (All-nil (λ event. is_plain event ≡ true))
change_plain (Rejects name) = All-cons (λ event. is_plain event ≡ true) (Refuses name) [] refl (All-nil (λ event. is_plain event ≡ true))
change_plain (TakesSteps key name steps) = steps_plain key name steps
change_plain (Removes key) = All-cons (λ event. is_plain event ≡ true) (Closes key) [] refl (All-nil (λ event. is_plain event ≡ true))

changes_plain : (changes : List SetChange) → AllPass is_plain (events_of_changes changes)
changes_plain [] = All-nil (λ event. is_plain event ≡ true)
changes_plain (x ∷ xs) = All-append (λ event. is_plain event ≡ true) (events_of_change x) (events_of_changes xs) (change_plain x) (changes_plain xs)

steps_quiet : (key name : ℕ) (steps : List ClientStep) → all_backend_events (steps_events key name steps) ≡ []
steps_quiet key name [] = refl
steps_quiet key name (step ∷ steps) = steps_quiet key name steps

change_quiet : (change : SetChange) → all_backend_events (events_of_change change) ≡ []
change_quiet (Adds key name) = refl
change_quiet (Rejects name) = refl
change_quiet (TakesSteps key name steps) = steps_quiet key name steps
change_quiet (Removes key) = refl

changes_quiet : (changes : List SetChange) → all_backend_events (events_of_changes changes) ≡ []
changes_quiet [] = refl
changes_quiet (x ∷ xs) =
    flat_map-append backend_events_of (events_of_change x) (events_of_changes xs)
    ∙ ap (λ (v : List BackendEvent). v ++ all_backend_events (events_of_changes xs)) (change_quiet x) ∙ changes_quiet xs

-- ---- events of one client

abbrev acts_of : (key name : ℕ) → List ClientEvent → List ServerEvent
acts_of key name [] = []
acts_of key name (event ∷ events) = Acts key name event ∷ acts_of key name events

acts_recorded : (key name : ℕ) (events : List ClientEvent) → flat_map history_of (acts_of key name events) ≡ flat_map (history_of_event name) events
acts_recorded key name [] = refl
acts_recorded key name (event ∷ events) = ap (λ (v : List HistoryEvent). history_of_event name event ++ v) (acts_recorded key name events)

acts_plain : (key name : ℕ) (events : List ClientEvent) → AllPass is_plain (acts_of key name events)
acts_plain key name [] = All-nil (λ event. is_plain event ≡ true)
acts_plain key name (event ∷ events) = All-cons (λ event. is_plain event ≡ true) (Acts key name event) (acts_of key name events) refl (acts_plain key name events)

-- A request leads from an open batch to one.
event_open : (event : ClientEvent) (phase : Phase) → IsOpen phase → IsOpen (phase_at_end (backend_events_in event) phase)
event_open (Steps step) phase h = h
event_open (EndsStream end) phase h = h
event_open (ReadsClock moment) phase h = h
event_open (Asks asked made received texts lost) phase h =
    inr (elim h [
      | inl quiet ↦ ap (λ (v : Phase). phase_at_end (backend_events_in (Asks asked made received texts lost)) v) quiet
      | inr running ↦ ap (λ (v : Phase). phase_at_end (backend_events_in (Asks asked made received texts lost)) v) running
    ])

acts_open : (key name : ℕ) (events : List ClientEvent) (phase : Phase) → IsOpen phase → IsOpen (phase_over (acts_of key name events) phase)
acts_open key name [] phase h = h
acts_open key name (event ∷ events) phase h =
    subst (λ (v : Phase). IsOpen v) (sym (phase_at_then (backend_events_in event) (all_backend_events (acts_of key name events)) phase))
    (acts_open key name events (phase_at_end (backend_events_in event) phase) (event_open event phase h))

module _ {B M T : Type 0} (b : backends.Ghosts B) (m : moments.Ghosts M) (t : sources.Ghosts T) (setup : Setup) where
  -- The state with these clients.
  abbrev pub with_clients : ServerState B M T → Clients → ServerState B M T
  with_clients s clients = record s { clients = clients }

  pub follow_then : (xs ys : List ServerEvent) (old mid new : ServerState B M T) → FollowAll b m t setup xs old mid → FollowAll b m t setup ys mid new
      → FollowAll b m t setup (xs ++ ys) old new
  follow_then [] ys old mid new h k = subst (λ (v : ServerState B M T). FollowAll b m t setup ys v new) h k
  follow_then (x ∷ xs) ys old mid new h k = (h.0, h.1, follow_then xs ys h.0 mid new h.2 k)

  steps_follow : (key name : ℕ) (steps : List ClientStep) (s : ServerState B M T) (old new : Clients) (l l' : ClientState) → old key ≡ Some l → l.name ≡ name → StepsBy steps l l'
      → new ≡ set_at old key (Some l') → FollowAll b m t setup (steps_events key name steps) (with_clients s old) (with_clients s new)
  steps_follow key name [] s old new l l' there named h is =
      ap (λ (v : Clients). with_clients s v) (is ∙ set_same old key (Some l') (there ∙ ap (λ v. Some v) (sym h)))
  steps_follow key name (step ∷ steps) s old new l l' there named h is =
      let mid = set_at old key (Some h.0) in (
        with_clients s mid,
        (l, there, named, served_client s.backend s.clock h.0, (h.0, h.1, refl), refl),
        steps_follow key name steps s mid new h.0 l' (set_there old key (Some h.0)) (step_name step l h.0 h.1 ∙ named) h.2 (is ∙ sym (set_twice old key (Some h.0) (Some l'))),
      )

  change_follows : (x : SetChange) (s : ServerState B M T) (old new : Clients) → ChangesTo x old new
      → FollowAll b m t setup (events_of_change x) (with_clients s old) (with_clients s new)
  change_follows (Adds key name) s old new h = (with_clients s new, (h.0, ap (λ (v : Clients). with_clients s v) h.1), refl)
  change_follows (Rejects name) s old new h = (with_clients s new, ap (λ (v : Clients). with_clients s v) h, refl)
  change_follows (TakesSteps key name steps) s old new h = steps_follow key name steps s old new h.0 h.3 h.1 h.2 h.4 h.5
  change_follows (Removes key) s old new h = (with_clients s new, (h.0, h.1, h.2, ap (λ (v : Clients). with_clients s v) h.3), refl)

  changes_follow : (xs : List SetChange) (s : ServerState B M T) (old new : Clients) → ChangesBy xs old new
      → FollowAll b m t setup (events_of_changes xs) (with_clients s old) (with_clients s new)
  changes_follow [] s old new h = ap (λ (v : Clients). with_clients s v) h
  changes_follow (x ∷ xs) s old new h =
      follow_then (events_of_change x) (events_of_changes xs) (with_clients s old) (with_clients s h.0) (with_clients s new)
      (change_follows x s old h.0 h.1) (changes_follow xs s h.0 new h.2)

  -- The state with this backend, clock and clients.
  abbrev pub with_served : ServerState B M T → ServedClients B M → ServerState B M T
  with_served s served = record s { backend = served.backend; clock = served.clock; clients = served.clients }

  acts_follow : (key name : ℕ) (events : List ClientEvent) (s : ServerState B M T) (clients : Clients) (old end : ServedClient B M) → clients key ≡ Some old.client → old.client.name ≡ name
      → OccurAll b m setup.explaining s.table events old end
      → FollowAll b m t setup (acts_of key name events) (with_served s (served_clients old.backend old.clock clients))
      (with_served s (served_clients end.backend end.clock (set_at clients key (Some end.client))))
  acts_follow key name [] s clients old end there named h =
      ap (λ (v : ServedClient B M). with_served s (served_clients v.backend v.clock (set_at clients key (Some v.client)))) h
      ∙ ap (λ (v : Clients). with_served s (served_clients old.backend old.clock v)) (set_same clients key (Some old.client) there)
  acts_follow key name (event ∷ events) s clients old end there named h =
      let mid = h.0 in
      let next = set_at clients key (Some mid.client) in (
        with_served s (served_clients mid.backend mid.clock next),
        (old.client, there, named, mid, h.1, refl),
        subst (λ (v : Clients). FollowAll b m t setup (acts_of key name events) (with_served s (served_clients mid.backend mid.clock next)) (with_served s (served_clients end.backend end.clock v)))
            (set_twice clients key (Some mid.client) (Some end.client))
            (acts_follow key name events s next mid end (set_there clients key (Some mid.client)) (all_name b m setup.explaining s.table (event ∷ []) old mid (mid, h.1, refl) ∙ named) h.2),
      )

  -- ---- runs

  pub runs_none : (A : Phase → Type 0) (old new : ServerState B M T) (past now : Option (List HistoryEvent)) → new ≡ old → now ≡ past → RunsTo b m t setup A A old new past now
  runs_none A old new past now same is = record {
    events = [];
    follow = same;
    history = extends_same past now is;
    plain = All-nil (λ event. is_plain event ≡ true);
    leads = λ phase h. h;
  }

  pub runs_then : (A C E : Phase → Type 0) (old mid new : ServerState B M T) (past between now : Option (List HistoryEvent)) → RunsTo b m t setup A C old mid past between
      → RunsTo b m t setup C E mid new between now → RunsTo b m t setup A E old new past now
  runs_then A C E old mid new past between now p q = record {
    events = p.events ++ q.events;
    follow = follow_then p.events q.events old mid new p.follow q.follow;
    history = subst (λ (v : List HistoryEvent). Extends past now v) (sym (flat_map-append history_of p.events q.events))
        (extends_then past between now (flat_map history_of p.events) (flat_map history_of q.events) p.history q.history);
    plain = All-append (λ event. is_plain event ≡ true) p.events q.events p.plain q.plain;
    leads = λ phase h. subst E (sym (phase_then p.events q.events phase)) (q.leads (phase_over p.events phase) (p.leads phase h));
  }

  -- A phase from which fewer are left, or to which more are added.
  pub runs_as : (A C A' C' : Phase → Type 0) (old new : ServerState B M T) (past now : Option (List HistoryEvent)) → ((phase : Phase) → A' phase → A phase) → ((phase : Phase) → C phase → C' phase)
      → RunsTo b m t setup A C old new past now → RunsTo b m t setup A' C' old new past now
  runs_as A C A' C' old new past now before after p = record {
    events = p.events;
    follow = p.follow;
    history = p.history;
    plain = p.plain;
    leads = λ phase h. after (phase_over p.events phase) (p.leads phase (before phase h));
  }

  pub runs_once : (A C : Phase → Type 0) (x : ServerEvent) (old new : ServerState B M T) (past now : Option (List HistoryEvent)) → Follows b m t setup x old new → is_plain x ≡ true
      → ((phase : Phase) → A phase → C (phase_over (x ∷ []) phase)) → history_of x ≡ [] → now ≡ past → RunsTo b m t setup A C old new past now
  runs_once A C x old new past now h plain leads none is = record {
    events = x ∷ [];
    follow = (new, h, refl);
    history = subst (λ (v : List HistoryEvent). Extends past now v) (sym (append-nil (history_of x) ∙ none)) (extends_same past now is);
    plain = All-cons (λ event. is_plain event ≡ true) x [] plain (All-nil (λ event. is_plain event ≡ true));
    leads = leads;
  }

  -- Changes of the clients.
  pub runs_changes : (A : Phase → Type 0) (s : ServerState B M T) (old new : Clients) (past now : Option (List HistoryEvent)) → SetChanges old new past now
      → RunsTo b m t setup A A (with_clients s old) (with_clients s new) past now
  runs_changes A s old new past now h = record {
    events = events_of_changes h.changes;
    follow = changes_follow h.changes s old new h.by;
    history = subst (λ (v : List HistoryEvent). Extends past now v) (sym (changes_recorded h.changes)) h.history;
    plain = changes_plain h.changes;
    leads = λ phase h'. subst A (sym (ap (λ (v : List BackendEvent). phase_at_end v phase) (changes_quiet h.changes))) h';
  }

  -- Events of one client.
  pub runs_client : (s : ServerState B M T) (key : ℕ) (old new : ServedClients B M) (past now : Option (List HistoryEvent)) → RunsClient b m setup.explaining s.table key old new past now
      → RunsTo b m t setup IsOpen IsOpen (with_served s old) (with_served s new) past now
  runs_client s key old new past now h =
      let l = h.client in
      record {
        events = acts_of key l.name h.runs.events;
        follow = subst (λ (v : ServedClients B M). FollowAll b m t setup (acts_of key l.name h.runs.events) (with_served s old) (with_served s v)) (sym h.new_is)
            (acts_follow key l.name h.runs.events s old.clients (served_client old.backend old.clock l) h.end h.there refl h.runs.occur);
        history = subst (λ (v : List HistoryEvent). Extends past now v) (sym (acts_recorded key l.name h.runs.events)) h.runs.history;
        plain = acts_plain key l.name h.runs.events;
        leads = acts_open key l.name h.runs.events;
      }

  pub runs_may : (s : ServerState B M T) (key : ℕ) (old new : ServedClients B M) (past now : Option (List HistoryEvent)) → MayRunClient b m setup.explaining s.table key old new past now
      → RunsTo b m t setup IsOpen IsOpen (with_served s old) (with_served s new) past now
  runs_may s key old new past now h =
      elim h [
        | inl same ↦ runs_none IsOpen (with_served s old) (with_served s new) past now (ap (λ (v : ServedClients B M). with_served s v) same.0) same.1
        | inr runs ↦ runs_client s key old new past now runs
      ]

  -- ---- the backend

  -- The state with this backend.
  abbrev pub with_backend : ServerState B M T → B → ServerState B M T
  with_backend s backend = record s { backend = backend }

  -- The batch ends.
  pub runs_settle : (s : ServerState B M T) (old new : B) (past now : Option (List HistoryEvent)) → b.steps old Settles new → now ≡ past
      → RunsTo b m t setup IsOpen IsSettled (with_backend s old) (with_backend s new) past now
  runs_settle s old new past now h is =
      runs_once IsOpen IsSettled (Works Settles) (with_backend s old) (with_backend s new) past now (new, refl, h, refl) refl
      (λ phase h'. elim h' [
        | inl quiet ↦ inl (ap (λ (v : Phase). phase_over (Works Settles ∷ []) v) quiet)
        | inr running ↦ inr (ap (λ (v : Phase). phase_over (Works Settles ∷ []) v) running)
      ]) refl is

  -- There is no outcome left.
  pub runs_given : (s : ServerState B M T) (old new : B) (past now : Option (List HistoryEvent)) → b.steps old GivesNone new → now ≡ past
      → RunsTo b m t setup IsSettled IsQuiet (with_backend s old) (with_backend s new) past now
  runs_given s old new past now h is =
      runs_once IsSettled IsQuiet (Works GivesNone) (with_backend s old) (with_backend s new) past now (new, refl, h, refl) refl
      (λ phase h'. elim h' [
        | inl quiet ↦ ap (λ (v : Phase). phase_over (Works GivesNone ∷ []) v) quiet
        | inr ended ↦ ap (λ (v : Phase). phase_over (Works GivesNone ∷ []) v) ended
      ]) refl is

  -- The backend stops.
  pub runs_stop : (A : Phase → Type 0) (s : ServerState B M T) (old new : B) (past : Option (List HistoryEvent)) → b.steps old StopsBackend new
      → RunsTo b m t setup A A (with_backend s old) (with_backend s new) past past
  runs_stop A s old new past h =
      runs_once A A (Works StopsBackend) (with_backend s old) (with_backend s new) past past (new, refl, h, refl) refl (λ phase k. k) refl refl

  -- The backend forgets requests.
  pub runs_forget : (A : Phase → Type 0) (tickets : List ℕ) (s : ServerState B M T) (old new : B) (past : Option (List HistoryEvent)) → DoesAll b.steps (map (λ ticket. Forgets ticket) tickets) old new
      → RunsTo b m t setup A A (with_backend s old) (with_backend s new) past past
  runs_forget A [] s old new past h = runs_none A (with_backend s old) (with_backend s new) past past (ap (λ (v : B). with_backend s v) h) refl
  runs_forget A (ticket ∷ tickets) s old new past h =
      runs_then A A A (with_backend s old) (with_backend s h.0) (with_backend s new) past past past
      (runs_once A A (Works (Forgets ticket)) (with_backend s old) (with_backend s h.0) past past (h.0, refl, h.1, refl) refl (λ phase k. k) refl refl)
      (runs_forget A tickets s h.0 new past h.2)

  -- An outcome is delivered to the clients that wait for it, and clients change after that.
  pub runs_told : (A : Phase → Type 0) (s : ServerState B M T) (ticket : ℕ) (outcome : Outcome) (backend : B) (new : Clients) (past now : Option (List HistoryEvent))
      → b.steps s.backend (Gives ticket outcome) backend → TellsAll ticket outcome s.clients new past now
      → RunsTo b m t setup A A s (record s { backend = backend; clients = new }) past now
  runs_told A s ticket outcome backend new past now h told =
      let mid = record s { backend = backend; clients = all_told ticket outcome told.0 s.clients } in
      runs_then A A A s mid (record s { backend = backend; clients = new }) past past now
      (runs_once A A (Tells (Gives ticket outcome) ticket outcome told.0) s mid past past (backend, s.clock, refl, refl, h, refl) refl (λ phase k. k) refl refl)
      (runs_changes A mid (all_told ticket outcome told.0 s.clients) new past now told.1)
