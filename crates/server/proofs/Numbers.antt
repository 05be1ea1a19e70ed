-- That no two clients wait under one ticket.
use Rattle.std.proofs.Common.{◌≡◌, inl, inr, ◌≤◌, ◌==◌, ℕ, suc, Bool, true, false, List, [], ◌∷◌, Option, Some, None, option_map, if◌then◌else◌, cond, refl, sym, ap, subst, ◌∙◌, arith}
use Rattle.std.specs.Prelude.{nat_eq, option_and_then}
use Rattle.std.specs.declared.time.Duration.{Duration}
use Rattle.std.proofs.lemmas.Bool.{eq-eqb, eqb-true}
use Rattle.std.proofs.lemmas.List.{append-nil}
use Rattle.wire_http.specs.SetAt.{set_at}
use Rattle.wire_http.specs.declared.moments.Moments as moments
use Rattle.server_base.specs.History.{Extends, HistoryEvent}
use Rattle.server_watch.specs.declared.token_watch.TokenSource as sources
use Rattle.server_backend.specs.BackendEvent.{Advances, Announces, Answers, BackendEvent, Forgets, Gives, GivesNone, HasNumber, Receives as Takes, Settles, Stops as StopsBackend, TakesNumber, is_own, outcome_in}
use Rattle.server_backend.specs.declared.backend.Backend as backends
use Rattle.server_backend.specs.declared.outcome.Outcome.{Outcome}
use Rattle.server_backend.specs.declared.outcome.Received.{Received}
use Rattle.server_backend.specs.declared.outcome.Received.TheVariants as came
use Rattle.wire_http.specs.Wire.{RequestCall}
use Rattle.server_clients.specs.ClientEvents.{Asks, ClientEvent, EndsStream, Occurs, ReadsClock, ServedClient, Steps, served_client}
use Rattle.server_clients.specs.ClientSet.{SetChanges, TakesSteps, history_of_change}
use Rattle.server_clients.specs.ClientState.{Aborts, ClientState, ClientStep, Discards, Limits, Receives, ReceivesEnd, Sends, StepsTo, Waiting, after_asking, resolved, told, told_if}
use Rattle.server_clients.specs.ServerEvents.{Accepts, Acts, Clients, Closes, Confirms, FollowAll, Follows, Looks, Moves, Refuses, ServerEvent, ServerState, Setup, Stops, Tells, Works, all_told}
use Rattle.server_clients.specs.Texts.{RequestTexts}
use Rattle.server_clients.specs.Turns.{MayTellClient, ticket_at, ticket_in}
use Rattle.server_clients.proofs.Sets.{changes_none, changes_then, set_there, set_twice}
use Rattle.server.specs.Numbers.{AreNumbered, IsAlone, TellsAll}

-- ---- tickets under keys

by_cases : {X : Type 0} (c : Bool) → (c ≡ true → X) → (c ≡ false → X) → X
by_cases true f g = f refl
by_cases false f g = g refl

at_other : (values : Clients) (other key : ℕ) (value : Option ClientState) → nat_eq key other ≡ false → set_at values other value key ≡ values key
at_other values other key value e = ap (λ (v : Bool). cond v value (values key)) e

at_same : (values : Clients) (other key : ℕ) (value : Option ClientState) → nat_eq key other ≡ true → set_at values other value key ≡ value
at_same values other key value e = ap (λ (v : Bool). cond v value (values key)) e

-- Holds if each ticket of the clients is that of a client before.
abbrev AreBefore : (old new : Clients) → Type 0
AreBefore old new = (key ticket : ℕ) → ticket_at new key ≡ Some ticket → ticket_at old key ≡ Some ticket

of_none : {X : Type 0} (ticket : ℕ) → None ≡ Some ticket → X
of_none ticket h = cc

same_some : (a b : ℕ) → Some a ≡ Some b → a ≡ b
same_some a b h = cc

put_before : (clients : Clients) (key : ℕ) (l : Option ClientState) → ((ticket : ℕ) → option_and_then ticket_in l ≡ Some ticket → ticket_at clients key ≡ Some ticket)
    → AreBefore clients (set_at clients key l)
put_before clients key l before = λ k ticket p.
    by_cases (nat_eq k key)
    (λ e. ap (λ (v : ℕ). ticket_at clients v) (eqb-true k key e) ∙ before ticket (sym (ap (λ (v : Option ClientState). option_and_then ticket_in v) (at_same clients key k l e)) ∙ p))
    (λ e. sym (ap (λ (v : Option ClientState). option_and_then ticket_in v) (at_other clients key k l e)) ∙ p)

-- A client to which an outcome was delivered waits no more, or as before.
told_before : (w : Option Waiting) (l : ClientState) (ticket : ℕ) (outcome : Outcome) (lost : Bool) (t : ℕ) → ticket_in (told_if w ticket outcome lost l) ≡ Some t → ticket_in l ≡ Some t
told_before None l ticket outcome lost t p = p
told_before (Some w) l ticket outcome true t p =
    (elim (w.ticket == ticket) as (λ (v : Bool). ticket_in (told_if (Some w) ticket outcome true l) ≡ Some t → (w.ticket == ticket) ≡ v → ticket_in l ≡ Some t) [
      | true ↦ λ q e. of_none t (sym (ap (λ (v : Bool). ticket_in (if v then resolved w outcome true l else l)) e) ∙ q)
      | false ↦ λ q e. sym (ap (λ (v : Bool). ticket_in (if v then resolved w outcome true l else l)) e) ∙ q
    ]) p refl
told_before (Some w) l ticket outcome false t p =
    (elim (w.ticket == ticket) as (λ (v : Bool). ticket_in (told_if (Some w) ticket outcome false l) ≡ Some t → (w.ticket == ticket) ≡ v → ticket_in l ≡ Some t) [
      | true ↦ λ q e. of_none t (sym (ap (λ (v : Bool). ticket_in (if v then resolved w outcome false l else l)) e) ∙ q)
      | false ↦ λ q e. sym (ap (λ (v : Bool). ticket_in (if v then resolved w outcome false l else l)) e) ∙ q
    ]) p refl

told_before_at : (l : Option ClientState) (ticket : ℕ) (outcome : Outcome) (lost : Bool) (t : ℕ) → option_and_then ticket_in (option_map (told ticket outcome lost) l) ≡ Some t
    → option_and_then ticket_in l ≡ Some t
told_before_at None ticket outcome lost t p = p
told_before_at (Some l) ticket outcome lost t p = told_before l.waits l ticket outcome lost t p

-- ---- outcomes

-- A client that waits under no such ticket stays.
untold : (w : Option Waiting) (l : ClientState) (ticket : ℕ) (outcome : Outcome) (lost : Bool) → (option_map (λ (v : Waiting). v.ticket) w ≡ Some ticket → ⊥) → told_if w ticket outcome lost l ≡ l
untold None l ticket outcome lost other = refl
untold (Some w) l ticket outcome lost other =
    by_cases (w.ticket == ticket)
    (λ e. absurd (other (ap (λ v. Some v) (eqb-true w.ticket ticket e))))
    (λ e. ap (λ (v : Bool). if v then resolved w outcome lost l else l) e)

untold_at : (l : Option ClientState) (ticket : ℕ) (outcome : Outcome) (lost : Bool) → (option_and_then ticket_in l ≡ Some ticket → ⊥) → option_map (told ticket outcome lost) l ≡ l
untold_at None ticket outcome lost other = refl
untold_at (Some l) ticket outcome lost other = ap (λ v. Some v) (untold l.waits l ticket outcome lost other)

told_nobody : (ticket : ℕ) (outcome : Outcome) (lost : Bool) (clients : Clients) → ((key : ℕ) → ticket_at clients key ≡ Some ticket → ⊥) → all_told ticket outcome lost clients ≡ clients
told_nobody ticket outcome lost clients none = λ i key. untold_at (clients key) ticket outcome lost (none key) i

not_both : (a b : Bool) → a ≡ true → a ≡ false → ⊥
not_both a b p q = cc

told_one : (ticket : ℕ) (outcome : Outcome) (lost : Bool) (clients : Clients) (key : ℕ) (l : ClientState) → clients key ≡ Some l → ticket_at clients key ≡ Some ticket → IsAlone ticket clients
    → all_told ticket outcome lost clients ≡ set_at clients key (Some (told ticket outcome lost l))
told_one ticket outcome lost clients key l there waits alone = λ i k.
    (by_cases (nat_eq k key)
    (λ e. ap (λ (v : ℕ). option_map (told ticket outcome lost) (clients v)) (eqb-true k key e) ∙ ap (λ (v : Option ClientState). option_map (told ticket outcome lost) v) there
    ∙ sym (at_same clients key k (Some (told ticket outcome lost l)) e))
    (λ e. untold_at (clients k) ticket outcome lost (λ p. not_both (nat_eq k key) true (eq-eqb k key (alone k key p waits)) e)
    ∙ sym (at_other clients key k (Some (told ticket outcome lost l)) e))) i

-- The outcome was delivered to the client under a key, which alone waits under the ticket.
pub told_client : (key ticket : ℕ) (outcome : Outcome) (old new : Clients) (past now : Option (List HistoryEvent)) → ticket_at old key ≡ Some ticket → IsAlone ticket old
    → MayTellClient key ticket outcome old new past now → TellsAll ticket outcome old new past now
told_client key ticket outcome old new past now waits alone (inl same) =
    of_none ticket (sym (ap (λ (v : Option ClientState). option_and_then ticket_in v) same.0) ∙ waits)
told_client key ticket outcome old new past now waits alone (inr h) =
    let lost = h.tells.0 in
    let steps = h.tells.1 in
    let mid = told ticket outcome lost h.client in
    let start = set_at old key (Some mid) in
    let changes : SetChanges start new past now = record {
      changes = TakesSteps key mid.name steps.steps ∷ [];
      by = (new, (mid, set_there old key (Some mid), refl, h.end, steps.by, h.new_is ∙ sym (set_twice old key (Some mid) (Some h.end))), refl);
      history = subst (λ (v : List HistoryEvent). Extends past now v) (sym (append-nil (history_of_change (TakesSteps key mid.name steps.steps)))) steps.history;
    } in
    (lost, subst (λ (v : Clients). SetChanges v new past now) (sym (told_one ticket outcome lost old key h.client h.there waits alone)) changes)

-- The same with the clients as they are found before, and changes after that.
pub told_at : (key ticket : ℕ) (outcome : Outcome) (old found mid last new : Clients) (past between now : Option (List HistoryEvent)) → found ≡ old → ticket_at old key ≡ Some ticket → IsAlone ticket old
    → MayTellClient key ticket outcome found mid past between → SetChanges mid last between now → new ≡ last → TellsAll ticket outcome old new past now
told_at key ticket outcome old found mid last new past between now same waits alone h changes is =
    let told = told_client key ticket outcome old mid past between waits alone (subst (λ (v : Clients). MayTellClient key ticket outcome v mid past between) same h) in (
      told.0,
      subst (λ (v : Clients). SetChanges (all_told ticket outcome told.0 old) v past now) (sym is)
          (changes_then (all_told ticket outcome told.0 old) mid last past between now told.1 changes),
    )

-- The same with the clients as they are found.
pub told_found : (ticket : ℕ) (outcome : Outcome) (old found new : Clients) (past now : Option (List HistoryEvent)) → found ≡ old → TellsAll ticket outcome found new past now
    → TellsAll ticket outcome old new past now
told_found ticket outcome old found new past now same h = subst (λ (v : Clients). TellsAll ticket outcome v new past now) same h

-- No client waits under the ticket.
pub told_none : (ticket : ℕ) (outcome : Outcome) (old new : Clients) (past now : Option (List HistoryEvent)) → ((key : ℕ) → ticket_at old key ≡ Some ticket → ⊥) → new ≡ old → now ≡ past
    → TellsAll ticket outcome old new past now
told_none ticket outcome old new past now none same is =
    (false, changes_none (all_told ticket outcome false old) new past now (same ∙ sym (told_nobody ticket outcome false old none)) is)

-- ---- numbers

module _ {B M T : Type 0} (b : backends.Ghosts B) (m : moments.Ghosts M) (t : sources.Ghosts T) (setup : Setup) where
  numbered_still : (old new : B) (clients clients' : Clients) → b.tickets old ≤ b.tickets new → AreBefore clients clients' → AreNumbered b old clients → AreNumbered b new clients'
  numbered_still old new clients clients' more before n = record {
    alone = λ ticket key other p q. n.alone ticket key other (before key ticket p) (before other ticket q);
    given = λ key ticket p. omega (arith, n.given key ticket (before key ticket p), more);
  }

  numbered_equal : (old new : B) (clients clients' : Clients) → b.tickets new ≡ b.tickets old → AreBefore clients clients' → AreNumbered b old clients → AreNumbered b new clients'
  numbered_equal old new clients clients' same before n = numbered_still old new clients clients' (omega (arith, same)) before n

  -- A client waits under a new ticket.
  numbered_more : (old new : B) (clients : Clients) (key ticket : ℕ) (l : ClientState) → ticket_in l ≡ Some ticket → b.tickets old ≤ ticket → b.tickets new ≡ suc ticket → AreNumbered b old clients
      → AreNumbered b new (set_at clients key (Some l))
  numbered_more old new clients key ticket l waits fresh next n =
      let here : (k v : ℕ) → nat_eq k key ≡ true → ticket_at (set_at clients key (Some l)) k ≡ Some v → ticket ≡ v =
      λ k v e p. same_some ticket v (sym waits ∙ sym (ap (λ (x : Option ClientState). option_and_then ticket_in x) (at_same clients key k (Some l) e)) ∙ p) in
      let there : (k v : ℕ) → nat_eq k key ≡ false → ticket_at (set_at clients key (Some l)) k ≡ Some v → ticket_at clients k ≡ Some v =
      λ k v e p. sym (ap (λ (x : Option ClientState). option_and_then ticket_in x) (at_other clients key k (Some l) e)) ∙ p in
      let never : (k v : ℕ) → ticket ≡ v → ticket_at clients k ≡ Some v → ⊥ = λ k v same p. omega (arith, n.given k v p, fresh, same) in
      record {
        alone = λ v k other p q.
            by_cases (nat_eq k key)
            (λ e. by_cases (nat_eq other key)
            (λ f. eqb-true k key e ∙ sym (eqb-true other key f))
            (λ f. absurd (never other v (here k v e p) (there other v f q))))
            (λ e. by_cases (nat_eq other key)
            (λ f. absurd (never k v (here other v f q) (there k v e p)))
            (λ f. n.alone v k other (there k v e p) (there other v f q)));
        given = λ k v p.
            by_cases (nat_eq k key)
            (λ e. let same = here k v e p in omega (arith, same, next))
            (λ e. omega (arith, n.given k v (there k v e p), fresh, next));
      }

  step_waits : (step : ClientStep) (l l' : ClientState) → StepsTo step l l' → l'.waits ≡ l.waits
  step_waits (Receives bytes) l l' h = ap (λ (v : ClientState). v.waits) h
  step_waits ReceivesEnd l l' h = ap (λ (v : ClientState). v.waits) h
  step_waits (Discards bytes) l l' h = ap (λ (v : ClientState). v.waits) h.1
  step_waits (Sends bytes) l l' h = ap (λ (v : ClientState). v.waits) h.3
  step_waits (Aborts why) l l' h = ap (λ (v : ClientState). v.waits) h
  step_waits Limits l l' h = ap (λ (v : ClientState). v.waits) h

  -- A client whose request waits as before.
  waits_before : (clients : Clients) (key : ℕ) (l l' : ClientState) → clients key ≡ Some l → l'.waits ≡ l.waits → AreBefore clients (set_at clients key (Some l'))
  waits_before clients key l l' there same =
      put_before clients key (Some l') (λ ticket p. ap (λ (v : Option ClientState). option_and_then ticket_in v) there ∙ sym (ap (λ (v : Option Waiting). option_map (λ (w : Waiting). w.ticket) v) same) ∙ p)

  numbered_asked : (lost : Bool) (received : Received) (old new : B) (clients : Clients) (key : ℕ) (l : ClientState) (asked : RequestCall) (texts : RequestTexts) (rest : List ℕ) → clients key ≡ Some l
      → TakesNumber (b.tickets old) received (b.tickets new) → AreNumbered b old clients → AreNumbered b new (set_at clients key (Some (after_asking lost asked received texts rest l)))
  numbered_asked true (came.Answered reply) old new clients key l asked texts rest there h n = numbered_still old new clients _ h (waits_before clients key l _ there refl) n
  numbered_asked true (came.Drafted ticket reply) old new clients key l asked texts rest there h n = numbered_still old new clients _ (omega (arith, h.0, h.1)) (waits_before clients key l _ there refl) n
  numbered_asked true (came.Waits ticket) old new clients key l asked texts rest there h n = numbered_still old new clients _ (omega (arith, h.0, h.1)) (waits_before clients key l _ there refl) n
  numbered_asked true (came.Refused reason) old new clients key l asked texts rest there h n = numbered_still old new clients _ h (waits_before clients key l _ there refl) n
  numbered_asked false (came.Answered reply) old new clients key l asked texts rest there h n = numbered_still old new clients _ h (waits_before clients key l _ there refl) n
  numbered_asked false (came.Drafted ticket reply) old new clients key l asked texts rest there h n = numbered_more old new clients key ticket _ refl h.0 h.1 n
  numbered_asked false (came.Waits ticket) old new clients key l asked texts rest there h n = numbered_more old new clients key ticket _ refl h.0 h.1 n
  numbered_asked false (came.Refused reason) old new clients key l asked texts rest there h n = numbered_still old new clients _ h (waits_before clients key l _ there refl) n

  numbered_acts : (event : ClientEvent) (s : ServerState B M T) (key : ℕ) (l : ClientState) (end : ServedClient B M) → s.clients key ≡ Some l
      → Occurs b m setup.explaining s.table event (served_client s.backend s.clock l) end → AreNumbered b s.backend s.clients → AreNumbered b end.backend (set_at s.clients key (Some end.client))
  numbered_acts (Steps step) s key l end there h n =
      subst (λ (v : ServedClient B M). AreNumbered b v.backend (set_at s.clients key (Some v.client))) (sym h.2)
      (numbered_equal s.backend s.backend s.clients _ refl (waits_before s.clients key l h.0 there (step_waits step l h.0 h.1)) n)
  numbered_acts (Asks asked made received texts lost) s key l end there h n =
      subst (λ (v : ServedClient B M). AreNumbered b v.backend (set_at s.clients key (Some v.client))) (sym h.5)
      (numbered_asked lost received s.backend h.2 s.clients key l asked texts h.0 there (b.numbered s.backend (Takes asked.moment made received) h.2 h.4) n)
  numbered_acts (EndsStream end') s key l end there h n =
      subst (λ (v : ServedClient B M). AreNumbered b v.backend (set_at s.clients key (Some v.client))) (sym h.3)
      (numbered_equal s.backend s.backend s.clients _ refl (waits_before s.clients key l _ there refl) n)
  numbered_acts (ReadsClock moment) s key l end there h n =
      subst (λ (v : ServedClient B M). AreNumbered b v.backend (set_at s.clients key (Some v.client))) (sym h.2)
      (numbered_equal s.backend s.backend s.clients _ refl (waits_before s.clients key l l there refl) n)

  -- An event that is no receipt of a request takes no ticket.
  own_tickets : (event : BackendEvent) (old new : B) → is_own event ≡ true → HasNumber (b.tickets old) event (b.tickets new) → b.tickets new ≡ b.tickets old
  own_tickets (Takes moment call received) old new own h = absurd (let no : false ≡ true = own in cc)
  own_tickets Settles old new own h = h
  own_tickets (Advances moment held now) old new own h = h
  own_tickets (Gives ticket outcome) old new own h = h
  own_tickets GivesNone old new own h = h
  own_tickets (Announces ticket) old new own h = h
  own_tickets (Answers moment ticket outcome) old new own h = h
  own_tickets (Forgets ticket) old new own h = h
  own_tickets StopsBackend old new own h = h

  given_tickets : (event : BackendEvent) (ticket : ℕ) (outcome : Outcome) (old new : B) → outcome_in event ≡ Some (ticket, outcome) → HasNumber (b.tickets old) event (b.tickets new) → b.tickets new ≡ b.tickets old
  given_tickets (Takes moment call received) ticket outcome old new own h = absurd (let no : None ≡ Some (ticket, outcome) = own in cc)
  given_tickets Settles ticket outcome old new own h = h
  given_tickets (Advances moment held now) ticket outcome old new own h = h
  given_tickets (Gives t o) ticket outcome old new own h = h
  given_tickets GivesNone ticket outcome old new own h = h
  given_tickets (Announces t) ticket outcome old new own h = h
  given_tickets (Answers moment t o) ticket outcome old new own h = h
  given_tickets (Forgets t) ticket outcome old new own h = h
  given_tickets StopsBackend ticket outcome old new own h = h

  abbrev Numbered : ServerState B M T → Type 0
  Numbered s = AreNumbered b s.backend s.clients

  same_before : (clients : Clients) → AreBefore clients clients
  same_before clients = λ key ticket p. p

  numbered_after : (event : ServerEvent) (s s' : ServerState B M T) → Follows b m t setup event s s' → Numbered s → Numbered s'
  numbered_after (Accepts key name) s s' h n =
      subst Numbered (sym h.1) (numbered_equal s.backend s.backend s.clients _ refl (put_before s.clients key _ (λ ticket p. of_none ticket p)) n)
  numbered_after (Refuses name) s s' h n = subst Numbered (sym h) n
  numbered_after (Acts key name event) s s' h n = subst Numbered (sym h.5) (numbered_acts event s key h.0 h.3 h.1 h.4 n)
  numbered_after (Tells event ticket outcome lost) s s' h n =
      subst Numbered (sym h.5)
      (numbered_equal s.backend h.0 s.clients (all_told ticket outcome lost s.clients) (given_tickets event ticket outcome s.backend h.0 h.2 (b.numbered s.backend event h.0 h.4))
      (λ key t p. told_before_at (s.clients key) ticket outcome lost t p) n)
  numbered_after (Works event) s s' h n =
      subst Numbered (sym h.3) (numbered_equal s.backend h.0 s.clients s.clients (own_tickets event s.backend h.0 h.1 (b.numbered s.backend event h.0 h.2)) (same_before s.clients) n)
  numbered_after (Moves moment held now) s s' h n =
      subst Numbered (sym h.7) (numbered_equal s.backend h.0 s.clients s.clients (b.numbered s.backend (Advances moment held now) h.0 h.6) (same_before s.clients) n)
  numbered_after (Looks now found) s s' h n = subst Numbered (sym h.3) n
  numbered_after Confirms s s' h n = subst Numbered (sym h.3) n
  numbered_after Stops s s' h n = subst Numbered (sym h.1) n
  numbered_after (Closes key) s s' h n =
      subst Numbered (sym h.3) (numbered_equal s.backend s.backend s.clients _ refl (put_before s.clients key None (λ ticket p. of_none ticket p)) n)

  pub numbered_all : (events : List ServerEvent) (s s' : ServerState B M T) → FollowAll b m t setup events s s' → Numbered s → Numbered s'
  numbered_all [] s s' h n = subst Numbered (sym h) n
  numbered_all (event ∷ events) s s' h n = numbered_all events h.0 s' h.2 (numbered_after event s h.0 h.1 n)

  -- The backend advanced.
  pub numbered_moved : (moment : Option ℕ) (held : Bool) (at : Duration) (old new : B) (clients clients' : Clients) → b.steps old (Advances moment held at) new → clients' ≡ clients
      → AreNumbered b old clients → AreNumbered b new clients'
  numbered_moved moment held at old new clients clients' h same n =
      subst (λ (v : Clients). AreNumbered b new v) (sym same)
      (numbered_equal old new clients clients (b.numbered old (Advances moment held at) new h) (same_before clients) n)
