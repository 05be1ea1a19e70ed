-- The turns of clients and the outcomes of a round.
use Rattle.std.proofs.Common.{◌≡◌, inl, ℕ, true, List, [], ◌∷◌, ◌++◌, map, Option, Some, None, refl, sym, ap, subst, ◌∙◌}
use Rattle.std.specs.Prelude.{option_and_then}
use Rattle.token_conf.specs.TokenFile.{TokenFile}
use Rattle.wire_http.specs.SetAt.{set_at}
use Rattle.wire_http.specs.declared.explaining.Explaining.{Explaining}
use Rattle.wire_http.specs.declared.moments.Moments as moments
use Rattle.server_base.specs.History.{HistoryEvent}
use Rattle.server_watch.specs.declared.token_watch.TokenSource as sources
use Rattle.server_backend.specs.BackendEvent.{Announces, Answers, Forgets, Gives, GivesNone, Settles}
use Rattle.server_backend.specs.Does.{DoesAll}
use Rattle.server_backend.specs.Phase.{Phase}
use Rattle.server_backend.specs.declared.backend.Backend as backends
use Rattle.server_backend.specs.declared.outcome.Outcome.{Outcome}
use Rattle.server_clients.specs.ClientEvents.{ReadsClock, ReadsOnceAs, served_client}
use Rattle.server_clients.specs.ClientSet.{SetChanges}
use Rattle.server_clients.specs.ClientState.{ClientState}
use Rattle.server_clients.specs.ServerEvents.{Acts, Clients, ServerState, Setup, Tells, Works, all_told}
use Rattle.server_clients.specs.Turns.{MayRunClient, served_clients, ticket_at, ticket_in}
use Rattle.server_clients.proofs.Sets.{set_same}
use Rattle.server.specs.Numbers.{AreNumbered, ForgetsAll, TellsAll}
use Rattle.server.specs.Runs.{IsOpen, IsQuiet, IsSettled, RunsIn, RunsTo}
use Rattle.server.specs.Watches.{server_state}
use Rattle.server.specs.declared.watches.Watches.{Watches}
use Rattle.server.proofs.Numbers.{numbered_all}
use Rattle.server.proofs.Runs.{runs_as, runs_changes, runs_forget, runs_given, runs_may, runs_none, runs_once, runs_settle, runs_then, runs_told}

-- Each phase of one kind is of another.
pub quiet_is_open : (phase : Phase) → IsQuiet phase → IsOpen phase
quiet_is_open phase h = inl h

pub same_kind : (A : Phase → Type 0) (phase : Phase) → A phase → A phase
same_kind A phase h = h

does_more : {B : Type 0} (b : backends.Ghosts B) (tickets : List ℕ) (ticket : ℕ) (old mid new : B) → DoesAll b.steps (map (λ v. Forgets v) tickets) old mid → b.steps mid (Forgets ticket) new
    → DoesAll b.steps (map (λ v. Forgets v) (tickets ++ ticket ∷ [])) old new
does_more {B} b [] ticket old mid new h k = (new, subst (λ (v : B). b.steps v (Forgets ticket) new) h k, refl)
does_more b (x ∷ tickets) ticket old mid new h k = (h.0, h.1, does_more b tickets ticket h.0 mid new h.2 k)

-- The backend forgets one request more.
pub forgets_more : {B : Type 0} (b : backends.Ghosts B) (ticket : ℕ) (old mid new : B) → ForgetsAll b old mid → b.steps mid (Forgets ticket) new → ForgetsAll b old new
forgets_more b ticket old mid new h k = (h.0 ++ ticket ∷ [], does_more b h.0 ticket old mid new h.1 k)

-- A client that waits is there.
there_at : (found : Option ClientState) (ticket : ℕ) → option_and_then ticket_in found ≡ Some ticket → (l : ClientState) × (found ≡ Some l)
there_at None ticket h = absurd (let no : None ≡ Some ticket = h in cc)
there_at (Some l) ticket h = (l, refl)

module _ {B M T : Type 0} (b : backends.Ghosts B) (m : moments.Ghosts M) (t : sources.Ghosts T) (explaining : Explaining) (table : TokenFile) (watches : Watches T) where
  abbrev pub At : B → Clients → M → ServerState B M T
  At backend clients clock = server_state backend clients clock table watches

  -- A setup with the explanations.
  abbrev some_setup : Setup
  some_setup = record { explaining = explaining; first = table; is_operated = true; is_counted = true }

  pub in_none : (A : Phase → Type 0) (old new : ServerState B M T) (past now : Option (List HistoryEvent)) → new ≡ old → now ≡ past → RunsIn b m t explaining A A old new past now
  in_none A old new past now same is = λ setup e. runs_none b m t setup A old new past now same is

  pub in_then : (A C E : Phase → Type 0) (old mid new : ServerState B M T) (past between now : Option (List HistoryEvent)) → RunsIn b m t explaining A C old mid past between
      → RunsIn b m t explaining C E mid new between now → RunsIn b m t explaining A E old new past now
  in_then A C E old mid new past between now p q = λ setup e. runs_then b m t setup A C E old mid new past between now (p setup e) (q setup e)

  pub in_as : (A C A' C' : Phase → Type 0) (old new : ServerState B M T) (past now : Option (List HistoryEvent)) → ((phase : Phase) → A' phase → A phase) → ((phase : Phase) → C phase → C' phase)
      → RunsIn b m t explaining A C old new past now → RunsIn b m t explaining A' C' old new past now
  in_as A C A' C' old new past now before after p = λ setup e. runs_as b m t setup A C A' C' old new past now before after (p setup e)

  -- The same run, with the clients as they are found before and after it.
  pub in_found : (A C : Phase → Type 0) (old new : B) (found clients clients' found' : Clients) (clock clock' : M) (past now : Option (List HistoryEvent)) → clients ≡ found → found' ≡ clients'
      → RunsIn b m t explaining A C (At old clients clock) (At new clients' clock') past now → RunsIn b m t explaining A C (At old found clock) (At new found' clock') past now
  in_found A C old new found clients clients' found' clock clock' past now before after p =
      subst (λ (v : Clients). RunsIn b m t explaining A C (At old v clock) (At new found' clock') past now) before
      (subst (λ (v : Clients). RunsIn b m t explaining A C (At old clients clock) (At new v clock') past now) (sym after) p)

  pub in_changes : (A : Phase → Type 0) (backend : B) (clock : M) (old new : Clients) (past now : Option (List HistoryEvent)) → SetChanges old new past now
      → RunsIn b m t explaining A A (At backend old clock) (At backend new clock) past now
  in_changes A backend clock old new past now h = λ setup e. runs_changes b m t setup A (At backend old clock) old new past now h

  pub in_numbered : (A C : Phase → Type 0) (old new : ServerState B M T) (past now : Option (List HistoryEvent)) → RunsIn b m t explaining A C old new past now
      → AreNumbered b old.backend old.clients → AreNumbered b new.backend new.clients
  in_numbered A C old new past now p n =
      let run = p some_setup refl in
      numbered_all b m t some_setup run.events old new run.follow n

  -- The turn of a client, and changes after that.
  pub in_turn : (key : ℕ) (old new : B) (clock clock' : M) (clients mid found found' last : Clients) (past between now : Option (List HistoryEvent))
      → MayRunClient b m explaining table key (served_clients old clock clients) (served_clients new clock' mid) past between → found ≡ mid → SetChanges found found' between now → last ≡ found'
      → RunsIn b m t explaining IsOpen IsOpen (At old clients clock) (At new last clock') past now
  in_turn key old new clock clock' clients mid found found' last past between now turns same changes is = λ setup e.
      runs_then b m t setup IsOpen IsOpen IsOpen (At old clients clock) (At new mid clock') (At new last clock') past between now
      (runs_may b m t setup (At old clients clock) key (served_clients old clock clients) (served_clients new clock' mid) past between
      (subst (λ (v : Explaining). MayRunClient b m v table key (served_clients old clock clients) (served_clients new clock' mid) past between) (sym e) turns))
      (subst (λ (v : Clients). RunsTo b m t setup IsOpen IsOpen (At new mid clock') (At new v clock') between now) (sym is)
      (runs_changes b m t setup IsOpen (At new mid clock') mid found' between now (subst (λ (v : Clients). SetChanges v found' between now) same changes)))

  -- The end of the batch.
  pub in_settled : (old new : B) (clock : M) (clients clients' : Clients) (past now : Option (List HistoryEvent)) → b.steps old Settles new → clients' ≡ clients → now ≡ past
      → RunsIn b m t explaining IsOpen IsSettled (At old clients clock) (At new clients' clock) past now
  in_settled old new clock clients clients' past now h same is = λ setup e.
      subst (λ (v : Clients). RunsTo b m t setup IsOpen IsSettled (At old clients clock) (At new v clock) past now) (sym same)
      (runs_settle b m t setup (At old clients clock) old new past now h is)

  -- There is no outcome left.
  pub in_given : (old new : B) (clock : M) (clients : Clients) (past : Option (List HistoryEvent)) → b.steps old GivesNone new
      → RunsIn b m t explaining IsSettled IsQuiet (At old clients clock) (At new clients clock) past past
  in_given old new clock clients past h = λ setup e. runs_given b m t setup (At old clients clock) old new past past h refl

  -- An outcome is delivered.
  pub in_told : (A : Phase → Type 0) (ticket : ℕ) (outcome : Outcome) (old new : B) (clock : M) (clients clients' : Clients) (past now : Option (List HistoryEvent)) → b.steps old (Gives ticket outcome) new
      → TellsAll ticket outcome clients clients' past now → RunsIn b m t explaining A A (At old clients clock) (At new clients' clock) past now
  in_told A ticket outcome old new clock clients clients' past now h told = λ setup e. runs_told b m t setup A (At old clients clock) ticket outcome new clients' past now h told

  -- The backend forgets requests.
  pub in_forgotten : (A : Phase → Type 0) (old new : B) (clock : M) (clients clients' : Clients) (past : Option (List HistoryEvent)) → ForgetsAll b old new → clients' ≡ clients
      → RunsIn b m t explaining A A (At old clients clock) (At new clients' clock) past past
  in_forgotten A old new clock clients clients' past h same = λ setup e.
      subst (λ (v : Clients). RunsTo b m t setup A A (At old clients clock) (At new v clock) past past) (sym same)
      (runs_forget b m t setup A h.0 (At old clients clock) old new past h.1)

  -- A request that can be answered is announced, or none is.
  pub in_announced : (A : Phase → Type 0) (ticket : Option ℕ) (old new : B) (clock : M) (clients : Clients) (past : Option (List HistoryEvent)) → b.steps old (Announces ticket) new
      → RunsIn b m t explaining A A (At old clients clock) (At new clients clock) past past
  in_announced A ticket old new clock clients past h = λ setup e.
      runs_once b m t setup A A (Works (Announces ticket)) (At old clients clock) (At new clients clock) past past (new, refl, h, refl) refl (λ phase k. k) refl refl

  -- The clock is read for a client that waits.
  pub in_read : (A : Phase → Type 0) (key ticket : ℕ) (moment : Option ℕ) (backend backend' : B) (clock clock' : M) (clients found : Clients) (past : Option (List HistoryEvent)) → ticket_at clients key ≡ Some ticket
      → ReadsOnceAs m moment clock clock' → found ≡ clients → backend' ≡ backend → RunsIn b m t explaining A A (At backend clients clock) (At backend' found clock') past past
  in_read A key ticket moment backend backend' clock clock' clients found past waits reads same idle = λ setup e.
      let there = there_at (clients key) ticket waits in
      let l = there.0 in
      let is : At backend' found clock' ≡ At backend (set_at clients key (Some l)) clock' =
      ap (λ (v : B). At v found clock') idle ∙ ap (λ (v : Clients). At backend v clock') (same ∙ sym (set_same clients key (Some l) there.1)) in
      runs_once b m t setup A A (Acts key l.name (ReadsClock moment)) (At backend clients clock) (At backend' found clock') past past
      (l, there.1, refl, served_client backend clock' l, (clock', reads, refl), is) refl (λ phase k. k) refl refl

  -- A request that waited is answered, at a time of the clock.
  pub in_answered : (A : Phase → Type 0) (moment ticket : ℕ) (outcome : Outcome) (old new : B) (clock clock' : M) (clients found clients' : Clients) (past now : Option (List HistoryEvent)) → m.gives clock moment clock'
      → b.steps old (Answers moment ticket outcome) new → found ≡ clients → TellsAll ticket outcome found clients' past now
      → RunsIn b m t explaining A A (At old clients clock) (At new clients' clock') past now
  in_answered A moment ticket outcome old new clock clock' clients found clients' past now gives h same tells = λ setup e.
      let all : TellsAll ticket outcome clients clients' past now = subst (λ (v : Clients). TellsAll ticket outcome v clients' past now) same tells in
      let told = all_told ticket outcome all.0 clients in
      runs_then b m t setup A A A (At old clients clock) (At new told clock') (At new clients' clock') past past now
      (runs_once b m t setup A A (Tells (Answers moment ticket outcome) ticket outcome all.0) (At old clients clock) (At new told clock') past past
      (new, clock', refl, gives, h, refl) refl (λ phase k. k) refl refl)
      (runs_changes b m t setup A (At new told clock') told clients' past now all.1)
