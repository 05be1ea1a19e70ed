-- What the events of a server read of the clock.
use Rattle.std.proofs.Common.{◌≡◌, ℕ, Bool, true, false, List, [], ◌∷◌, ◌++◌, Option, Some, None, refl, sym, ap, subst, ◌∙◌, append_assoc, append-nil}
use Rattle.std.specs.List.{flat_map}
use Rattle.std.proofs.lemmas.List.{map-append}
use Rattle.std.proofs.lemmas.List.Concat.{flat_map-append}
use Rattle.service_calls.specs.Purged.{Segment}
use Rattle.token_conf.specs.TokenFile.{TokenFile}
use Rattle.wire_http.specs.Wire.{RequestCall}
use Rattle.wire_http.specs.declared.moments.Moments as moments
use Rattle.server_base.specs.Calls.{AreAmong, ClockReadings, moments_of}
use Rattle.server_base.proofs.Calls.{among_then, told_then}
use Rattle.server_watch.specs.declared.token_watch.TokenSource as sources
use Rattle.server_backend.specs.BackendEvent.{Advances, Announces, Answers, BackendEvent, Forgets, Gives, GivesNone, Receives, Settles, Stops as StopsBackend, is_own}
use Rattle.server_backend.specs.declared.backend.Backend as backends
use Rattle.server_clients.specs.ClientEvents.{Asks, ClientEvent, EndsStream, Occurs, ReadsClock, ReadsOnceAs, ServedClient, Steps}
use Rattle.server_clients.specs.ServerEvents.{Accepts, Acts, Closes, Confirms, FollowAll, Follows, Looks, Moves, ReadsFor, Refuses, ServerEvent, ServerState, Setup, Stops, Tells, Works}
use Rattle.database_backend.specs.Policy.{time_at, time_in, times_of}
use Rattle.database_backend.specs.Policy as policy
use Rattle.database_laws.specs.Requests.{all_requests, requests_in}
use Rattle.database_laws.specs.Serve.{PurgesAreDue}
use Rattle.database_laws.proofs.Asked.{asked_events, asked_in}

-- ---- the readings of events

abbrev read_by : ClientEvent → List (Option ℕ)
read_by (Steps step) = []
read_by (Asks asked made received texts lost) = Some asked.moment ∷ []
read_by (EndsStream end) = []
read_by (ReadsClock moment) = moment ∷ []

abbrev read_for : BackendEvent → List (Option ℕ)
read_for (Receives moment call received) = []
read_for Settles = []
read_for (Advances moment held now) = []
read_for (Gives ticket outcome) = []
read_for GivesNone = []
read_for (Announces ticket) = []
read_for (Answers moment ticket outcome) = Some moment ∷ []
read_for (Forgets ticket) = []
read_for StopsBackend = []

abbrev read_in : ServerEvent → List (Option ℕ)
read_in (Accepts key name) = []
read_in (Refuses name) = []
read_in (Acts key name event) = read_by event
read_in (Tells event ticket outcome lost) = read_for event
read_in (Works event) = []
read_in (Moves moment held now) = moment ∷ []
read_in (Looks now found) = []
read_in Confirms = []
read_in Stops = []
read_in (Closes key) = []

abbrev pub readings : List ServerEvent → List (Option ℕ)
readings events = flat_map read_in events

-- ---- the clock

module _ {M : Type 0} (m : moments.Ghosts M) where
  read_once : (moment : Option ℕ) (clock clock' : M) → ReadsOnceAs m moment clock clock' → ClockReadings m (moment ∷ []) clock clock'
  read_once (Some moment) clock clock' h = (clock', h, refl)
  read_once None clock clock' h = (clock', h, refl)

  read_told : (event : BackendEvent) (clock clock' : M) → ReadsFor m event clock clock' → ClockReadings m (read_for event) clock clock'
  read_told (Receives moment call received) clock clock' h = absurd h
  read_told Settles clock clock' h = absurd h
  read_told (Advances moment held now) clock clock' h = absurd h
  read_told (Gives ticket outcome) clock clock' h = h
  read_told GivesNone clock clock' h = absurd h
  read_told (Announces ticket) clock clock' h = absurd h
  read_told (Answers moment ticket outcome) clock clock' h = (clock', h, refl)
  read_told (Forgets ticket) clock clock' h = absurd h
  read_told StopsBackend clock clock' h = absurd h

  -- The clock after an event is an equal one.
  ends : (told : List (Option ℕ)) (clock x y : M) → y ≡ x → ClockReadings m told clock x → ClockReadings m told clock y
  ends told clock x y same h = subst (λ (v : M). ClockReadings m told clock v) (sym same) h

module _ {B M T : Type 0} (b : backends.Ghosts B) (m : moments.Ghosts M) (t : sources.Ghosts T) (setup : Setup) where
  acted_reads : (table : TokenFile) (event : ClientEvent) (old new : ServedClient B M) → Occurs b m setup.explaining table event old new
      → ClockReadings m (read_by event) old.clock new.clock
  acted_reads table (Steps step) old new h = ap (λ (s : ServedClient B M). s.clock) h.2
  acted_reads table (Asks asked made received texts lost) old new h =
      ends m (Some asked.moment ∷ []) old.clock h.1 new.clock (ap (λ (s : ServedClient B M). s.clock) h.5) (h.1, (h.3.asks []).moment, refl)
  acted_reads table (EndsStream end) old new h = ap (λ (s : ServedClient B M). s.clock) h.3
  acted_reads table (ReadsClock moment) old new h =
      ends m (moment ∷ []) old.clock h.0 new.clock (ap (λ (s : ServedClient B M). s.clock) h.2) (read_once m moment old.clock h.0 h.1)

  one_reads : (event : ServerEvent) (old mid : ServerState B M T) → Follows b m t setup event old mid → ClockReadings m (read_in event) old.clock mid.clock
  one_reads (Accepts key name) old mid h = ap (λ (s : ServerState B M T). s.clock) h.1
  one_reads (Refuses name) old mid h = ap (λ (s : ServerState B M T). s.clock) h
  one_reads (Acts key name event) old mid h =
      ends m (read_by event) old.clock h.3.clock mid.clock (ap (λ (s : ServerState B M T). s.clock) h.5) (acted_reads old.table event _ h.3 h.4)
  one_reads (Tells event ticket outcome lost) old mid h =
      ends m (read_for event) old.clock h.1 mid.clock (ap (λ (s : ServerState B M T). s.clock) h.5) (read_told m event old.clock h.1 h.3)
  one_reads (Works event) old mid h = ap (λ (s : ServerState B M T). s.clock) h.3
  one_reads (Moves moment held now) old mid h =
      ends m (moment ∷ []) old.clock h.1 mid.clock (ap (λ (s : ServerState B M T). s.clock) h.7) (read_once m moment old.clock h.1 h.3)
  one_reads (Looks now found) old mid h = ap (λ (s : ServerState B M T). s.clock) h.3
  one_reads Confirms old mid h = ap (λ (s : ServerState B M T). s.clock) h.3
  one_reads Stops old mid h = ap (λ (s : ServerState B M T). s.clock) h.1
  one_reads (Closes key) old mid h = ap (λ (s : ServerState B M T). s.clock) h.3

  pub all_read : (events : List ServerEvent) (old new : ServerState B M T) → FollowAll b m t setup events old new → ClockReadings m (readings events) old.clock new.clock
  all_read [] old new h = ap (λ (s : ServerState B M T). s.clock) h
  all_read (event ∷ events) old new h =
      told_then m (read_in event) (readings events) old.clock h.0.clock new.clock (one_reads event old h.0 h.1) (all_read events h.0 new h.2)

-- ---- the times of requests

moments_read : (event : ServerEvent) → AreAmong (moments_of (requests_in event)) (read_in event)
moments_read (Accepts key name) = tt
moments_read (Refuses name) = tt
moments_read (Acts key name (Steps step)) = tt
moments_read (Acts key name (Asks asked made received texts lost)) = ([], [], refl, tt)
moments_read (Acts key name (EndsStream end)) = tt
moments_read (Acts key name (ReadsClock moment)) = tt
moments_read (Tells event ticket outcome lost) = tt
moments_read (Works event) = tt
moments_read (Moves moment held now) = tt
moments_read (Looks now found) = tt
moments_read Confirms = tt
moments_read Stops = tt
moments_read (Closes key) = tt

pub all_moments : (events : List ServerEvent) → AreAmong (moments_of (all_requests events)) (readings events)
all_moments [] = tt
all_moments (event ∷ events) =
    subst (λ (v : List ℕ). AreAmong v (readings (event ∷ events))) (sym (map-append (λ (x : RequestCall). x.moment) (requests_in event) (all_requests events)))
    (among_then (moments_of (requests_in event)) (moments_of (all_requests events)) (read_in event) (readings events) (moments_read event) (all_moments events))

-- ---- the times of purges

advance_time : (moment : Option ℕ) (held : Bool) → AreAmong (time_at moment held) (moment ∷ [])
advance_time None held = tt
advance_time (Some time) true = tt
advance_time (Some time) false = ([], [], refl, tt)

own_time : (event : BackendEvent) → is_own event ≡ true → time_in event ≡ []
own_time (Receives moment call received) h = refl
own_time Settles h = refl
own_time (Advances moment held now) h = let no : false ≡ true = h in absurd cc
own_time (Gives ticket outcome) h = refl
own_time GivesNone h = refl
own_time (Announces ticket) h = refl
own_time (Answers moment ticket outcome) h = refl
own_time (Forgets ticket) h = refl
own_time StopsBackend h = refl

single_time : (event : BackendEvent) (told : List (Option ℕ)) → time_in event ≡ [] → AreAmong (times_of (event ∷ [])) told
single_time event told h = subst (λ (v : List ℕ). AreAmong (v ++ []) told) (sym h) tt

module _ {M : Type 0} (m : moments.Ghosts M) where
  told_time : (event : BackendEvent) (clock clock' : M) → ReadsFor m event clock clock' → time_in event ≡ []
  told_time (Receives moment call received) clock clock' h = absurd h
  told_time Settles clock clock' h = refl
  told_time (Advances moment held now) clock clock' h = absurd h
  told_time (Gives ticket outcome) clock clock' h = refl
  told_time GivesNone clock clock' h = refl
  told_time (Announces ticket) clock clock' h = refl
  told_time (Answers moment ticket outcome) clock clock' h = refl
  told_time (Forgets ticket) clock clock' h = refl
  told_time StopsBackend clock clock' h = refl

module _ {B M T : Type 0} (b : backends.Ghosts B) (m : moments.Ghosts M) (t : sources.Ghosts T) (setup : Setup) where
  times_read : (event : ServerEvent) (old mid : ServerState B M T) → Follows b m t setup event old mid → AreAmong (times_of (asked_in event)) (read_in event)
  times_read (Accepts key name) old mid h = tt
  times_read (Refuses name) old mid h = tt
  times_read (Acts key name (Steps step)) old mid h = tt
  times_read (Acts key name (Asks asked made received texts lost)) old mid h = tt
  times_read (Acts key name (EndsStream end)) old mid h = tt
  times_read (Acts key name (ReadsClock moment)) old mid h = tt
  times_read (Tells event ticket outcome lost) old mid h = single_time event (read_for event) (told_time m event old.clock h.1 h.3)
  times_read (Works event) old mid h = single_time event [] (own_time event h.1)
  times_read (Moves moment held now) old mid h = subst (λ (v : List ℕ). AreAmong v (moment ∷ [])) (sym (append-nil (time_at moment held))) (advance_time moment held)
  times_read (Looks now found) old mid h = tt
  times_read Confirms old mid h = tt
  times_read Stops old mid h = tt
  times_read (Closes key) old mid h = tt

  pub all_times : (events : List ServerEvent) (old new : ServerState B M T) → FollowAll b m t setup events old new → AreAmong (times_of (asked_events events)) (readings events)
  all_times [] old new h = tt
  all_times (event ∷ events) old new h =
      subst (λ (v : List ℕ). AreAmong v (readings (event ∷ events))) (sym (flat_map-append time_in (asked_in event) (asked_events events)))
      (among_then (times_of (asked_in event)) (times_of (asked_events events)) (read_in event) (readings events) (times_read event old h.0 h.1) (all_times events h.0 new h.2))

-- ---- numbers among times that are among readings

-- A number of a list that is among readings, and those after it.
record Split (number : ℕ) (after : List ℕ) (told : List (Option ℕ)) : Type 0 where
  pub front : List (Option ℕ)
  pub rest : List (Option ℕ)
  pub told_is : told ≡ front ++ Some number ∷ rest
  pub among : AreAmong after rest

split_at : (front after : List ℕ) (number : ℕ) (told : List (Option ℕ)) → AreAmong (front ++ number ∷ after) told → Split number after told
split_at [] after number told h = record { front = h.0; rest = h.1; told_is = h.2; among = h.3 }
split_at (x ∷ front) after number told h =
    let s = split_at front after number h.1 h.3 in
    record {
      front = h.0 ++ Some x ∷ s.front;
      rest = s.rest;
      told_is = h.2 ∙ ap (λ (v : List (Option ℕ)). h.0 ++ Some x ∷ v) s.told_is ∙ sym (append_assoc h.0 (Some x ∷ s.front) (Some number ∷ s.rest));
      among = s.among;
    }

among_both : (numbers times : List ℕ) (told : List (Option ℕ)) → policy.AreAmong numbers times → AreAmong times told → AreAmong numbers told
among_both [] times told h r = tt
among_both (x ∷ numbers) times told h r =
    let s = split_at h.0 h.1 x told (subst (λ (v : List ℕ). AreAmong v told) h.2 r) in
    (s.front, s.rest, s.told_is, among_both numbers h.1 s.rest h.3 s.among)

-- Purges that are due at times that are among readings.
pub due_read : (keep : Option ℕ) (times : List ℕ) (told : List (Option ℕ)) (segments : List Segment) → AreAmong times told → policy.PurgesAreDue keep times segments → PurgesAreDue keep told segments
due_read None times told segments r h = h
due_read (Some seconds) times told segments r h = (h.0, among_both h.0 times told h.1 r, h.2)
