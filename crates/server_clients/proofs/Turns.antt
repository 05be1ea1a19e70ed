-- The turns of clients, and the outcomes that are delivered to them.
use Rattle.std.proofs.Common.{◌≡◌, inl, inr, ℕ, Bool, true, false, List, [], ◌∷◌, Option, Some, None, option_map, refl, sym, ap, subst, ◌∙◌, arith}
use Rattle.std.specs.Prelude.{nat_eq, option_and_then}
use Rattle.std.specs.List.{Contains}
use Rattle.std.specs.Option.{option_eq}
use Rattle.std.proofs.lemmas.Bool.{eq-eqb, eqb-true}
use Rattle.slab.specs.Slab.{Slab, entries, get, slab_len, with_value}
use Rattle.slab.proofs.SlabLemmas.{Contains-cons, Contains-cons_cases, Contains-entries, length-entries}
use Rattle.token_conf.specs.TokenFile.{TokenFile}
use Rattle.wire_http.specs.declared.explaining.Explaining.{Explaining}
use Rattle.wire_http.specs.declared.moments.Moments as moments
use Rattle.server_base.specs.History.{HistoryEvent}
use Rattle.server_backend.specs.declared.backend.Backend as backends
use Rattle.server_backend.specs.declared.outcome.Outcome.{Outcome}
use Rattle.server_clients.specs.declared.client_connection.ClientConnection.{ClientConnection}
use Rattle.server_clients.specs.ClientConnection.{TellsAndSteps, state_of_client}
use Rattle.server_clients.specs.ClientEvents.{ClientRuns, served_client}
use Rattle.server_clients.specs.ClientSet.{clients_with}
use Rattle.server_clients.specs.Turns.{MayRunClient, MayTellClient, served_clients, ticket_at, ticket_in}
use Rattle.server_clients.proofs.Sets.{client_there, clients_put}

pub no_client : {T : Type 0} (name : T → ℕ) (connections : Slab (ClientConnection T)) (key : ℕ) → get connections key ≡ None → clients_with name connections key ≡ None
no_client name connections key absent = ap (λ v. option_map (λ client. state_of_client name client) v) absent

-- Holds if the clients that wait under the ticket are among those left, each of which is a client.
abbrev pub AreLeft : {T : Type 0} → (name : T → ℕ) → (ticket : ℕ) → Slab (ClientConnection T) → List (ℕ × ClientConnection T) → Type 0
AreLeft {T} name ticket connections left =
    ((key : ℕ) (p : ClientConnection T) → get connections key ≡ Some p → ticket_in (state_of_client name p) ≡ Some ticket → Contains left (key, p))
    × ((key : ℕ) (p : ClientConnection T) → Contains left (key, p) → get connections key ≡ Some p)

in_none : {X : Type 0} (x : X) → Contains [] x → ⊥
in_none x h = omega (arith, h.1)

module _ {T : Type 0} (name : T → ℕ) (ticket : ℕ) (connections : Slab (ClientConnection T)) where
  pub left_all : (left : List (ℕ × ClientConnection T)) → left ≡ entries connections → AreLeft name ticket connections left
  left_all left is = subst (λ (v : List (ℕ × ClientConnection T)). AreLeft name ticket connections v) (sym is) (
    λ key p there waits. (Contains-entries connections key p).1 there,
    λ key p inside. (Contains-entries connections key p).0 inside,
  )

  pub left_next : (item : ℕ × ClientConnection T) (left rest : List (ℕ × ClientConnection T)) → left ≡ item ∷ rest → (ticket_in (state_of_client name item.1) ≡ Some ticket → ⊥)
      → AreLeft name ticket connections left → AreLeft name ticket connections rest
  left_next item left rest is other h =
      let all = subst (λ (v : List (ℕ × ClientConnection T)). AreLeft name ticket connections v) is h in (
        λ key p there waits.
            elim (Contains-cons_cases item (key, p) rest (all.0 key p there waits)) [
              | inl same ↦ absurd (other (ap (λ (v : ℕ × ClientConnection T). ticket_in (state_of_client name v.1)) same ∙ waits))
              | inr inside ↦ inside
            ],
        λ key p inside. all.1 key p (Contains-cons item (key, p) rest inside),
      )

  pub left_found : (item : ℕ × ClientConnection T) (left rest : List (ℕ × ClientConnection T)) → left ≡ item ∷ rest → AreLeft name ticket connections left → ticket_in (state_of_client name item.1) ≡ Some ticket
      → ticket_at (clients_with name connections) item.0 ≡ Some ticket
  left_found item left rest is h waits =
      let all = subst (λ (v : List (ℕ × ClientConnection T)). AreLeft name ticket connections v) is h in
      ap (λ v. option_and_then ticket_in v) (client_there name connections item.0 item.1 (all.1 item.0 item.1 (0, omega arith, refl))) ∙ waits

  none_at : (key : ℕ) (found : Option (ClientConnection T)) → get connections key ≡ found → AreLeft name ticket connections [] → option_and_then ticket_in (option_map (λ client. state_of_client name client) found) ≡ Some ticket → ⊥
  none_at key None is h waits = let no : None ≡ Some ticket = waits in cc
  none_at key (Some p) is h waits = in_none (key, p) (h.0 key p is waits)

  pub left_none : (left : List (ℕ × ClientConnection T)) → left ≡ [] → AreLeft name ticket connections left → (key : ℕ) → ticket_at (clients_with name connections) key ≡ Some ticket → ⊥
  left_none left is h = λ key waits.
      none_at key (get connections key) refl (subst (λ (v : List (ℕ × ClientConnection T)). AreLeft name ticket connections v) is h) waits

pub other_ticket : (found : Option ℕ) (ticket : ℕ) → option_eq nat_eq found (Some ticket) ≡ false → found ≡ Some ticket → ⊥
other_ticket found ticket not is =
    let same : option_eq nat_eq found (Some ticket) ≡ true = ap (λ (v : Option ℕ). option_eq nat_eq v (Some ticket)) is ∙ eq-eqb ticket ticket refl in
    let no : true ≡ false = sym same ∙ not in
    cc

pub same_ticket : (found : Option ℕ) (ticket : ℕ) → option_eq nat_eq found (Some ticket) ≡ true → found ≡ Some ticket
same_ticket None ticket h = absurd (let no : false ≡ true = h in cc)
same_ticket (Some other) ticket h = ap (λ v. Some v) (eqb-true other ticket h)

none_in : {X : Type 0} (connections : Slab X) (key : ℕ) (found : Option X) → get connections key ≡ found → slab_len connections ≡ 0 → found ≡ None
none_in connections key None is empty = refl
none_in connections key (Some p) is empty =
    let inside = (Contains-entries connections key p).1 is in
    absurd (omega (arith, inside.1, length-entries connections, empty))

-- There are no clients without connections.
pub no_clients_in : {T : Type 0} (name : T → ℕ) (connections : Slab (ClientConnection T)) → slab_len connections ≡ 0 → (key : ℕ) → clients_with name connections key ≡ None
no_clients_in name connections empty key = no_client name connections key (none_in connections key (get connections key) refl empty)

-- Events of the client of a connection, from a state that was found in between.
pub runs_at : {B M T : Type 0} (b : backends.Ghosts B) (m : moments.Ghosts M) (explaining : Explaining) (table : TokenFile) (name : T → ℕ) (connections : Slab (ClientConnection T)) (key : ℕ)
    (p mid p' : ClientConnection T) (old new : B) (clock clock' : M) (past now : Option (List HistoryEvent)) → Some p ≡ get connections key → state_of_client name mid ≡ state_of_client name p
    → ClientRuns b m explaining table (served_client old clock (state_of_client name mid)) (served_client new clock' (state_of_client name p')) past now
    → MayRunClient b m explaining table key (served_clients old clock (clients_with name connections)) (served_clients new clock' (clients_with name (with_value connections key p'))) past now
runs_at b m explaining table name connections key p mid p' old new clock clock' past now there same h = inr (record {
  client = state_of_client name mid;
  there = client_there name connections key p (sym there) ∙ ap (λ v. Some v) (sym same);
  end = served_client new clock' (state_of_client name p');
  runs = h;
  new_is = ap (λ v. served_clients new clock' v) (clients_put name connections key p p' (sym there));
})

-- An outcome was delivered to the client of a connection.
pub tells_at : {T : Type 0} (name : T → ℕ) (connections : Slab (ClientConnection T)) (key ticket : ℕ) (outcome : Outcome) (p p' : ClientConnection T) (past now : Option (List HistoryEvent))
    → Some p ≡ get connections key → TellsAndSteps ticket outcome (state_of_client name p) (state_of_client name p') past now
    → MayTellClient key ticket outcome (clients_with name connections) (clients_with name (with_value connections key p')) past now
tells_at name connections key ticket outcome p p' past now there h = inr (record {
  client = state_of_client name p;
  there = client_there name connections key p (sym there);
  end = state_of_client name p';
  tells = h;
  new_is = clients_put name connections key p p' (sym there);
})
