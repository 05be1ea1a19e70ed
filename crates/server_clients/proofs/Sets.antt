-- How the clients change.
use Rattle.std.proofs.Common.{◌≡◌, ◌<◌, ◌+◌, ℕ, Bool, true, false, List, [], ◌∷◌, ◌++◌, Option, Some, None, option_map, cond, refl, sym, ap, subst, ◌∙◌, arith}
use Rattle.std.specs.Prelude.{IsSome, nat_eq, slice_index_or}
use Rattle.std.specs.List.{flat_map}
use Rattle.std.proofs.lemmas.Bool.{eq-eqb, eqb-true}
use Rattle.std.proofs.lemmas.List.{append-nil}
use Rattle.std.proofs.lemmas.List.Concat.{flat_map-append}
use Rattle.slab.specs.Slab.{Slab, Updates, get, with_value}
use Rattle.slab.proofs.SlabLemmas.{Updates-with_value}
use Rattle.wire_http.specs.SetAt.{set_at}
use Rattle.server_base.specs.History.{Extends, HistoryEvent}
use Rattle.server_base.proofs.Histories.{extends_none, extends_same, extends_then}
use Rattle.server_clients.specs.declared.client_connection.ClientConnection.{ClientConnection}
use Rattle.server_clients.specs.ClientConnection.{state_of_client}
use Rattle.server_clients.specs.ClientSet.{AddsIf, ChangesBy, ChangesTo, LimitsAt, LimitsBelow, Removes, SetChange, SetChanges, TakesSteps, clients_with, history_of_change}
use Rattle.server_clients.specs.ClientState.{ClientState, ClientSteps, IsClosable, Limits, limited, new_client}
use Rattle.server_clients.specs.ServerEvents.{Clients}

-- ---- values under keys

pub set_same : {X : Type 0} (values : ℕ → X) (key : ℕ) (value : X) → values key ≡ value → set_at values key value ≡ values
set_same {X} values key value is = λ i other.
    (elim (nat_eq other key) as (λ v. nat_eq other key ≡ v → cond v value (values other) ≡ values other) [
      | true ↦ λ e. sym is ∙ ap values (sym (eqb-true other key e))
      | false ↦ λ e. refl
    ] refl) i

pub set_twice : {X : Type 0} (values : ℕ → X) (key : ℕ) (value last : X) → set_at (set_at values key value) key last ≡ set_at values key last
set_twice {X} values key value last = λ i other.
    (elim (nat_eq other key) as (λ v. cond v last (cond v value (values other)) ≡ cond v last (values other)) [
      | true ↦ refl
      | false ↦ refl
    ]) i

pub set_there : {X : Type 0} (values : ℕ → X) (key : ℕ) (value : X) → set_at values key value key ≡ value
set_there {X} values key value = ap (λ (v : Bool). cond v value (values key)) (eq-eqb key key refl)

no_both : (b : Bool) → b ≡ true → b ≡ false → ⊥
no_both true p q = cc
no_both false p q = cc

-- ---- the connections of the clients

module _ {T : Type 0} (name : T → ℕ) where
  pub clients_updated : (old new : Slab (ClientConnection T)) (key : ℕ) (slot : Option (ClientConnection T)) → Updates old new key slot
      → clients_with name new ≡ set_at (clients_with name old) key (option_map (λ client. state_of_client name client) slot)
  clients_updated old new key slot h =
      let state : ClientConnection T → ClientState = λ client. state_of_client name client in
      λ i other.
      (elim (nat_eq other key) as (λ v. nat_eq other key ≡ v → clients_with name new other ≡ cond v (option_map state slot) (clients_with name old other)) [
        | true ↦ λ e. ap (clients_with name new) (eqb-true other key e) ∙ ap (λ v. option_map state v) h.changed
        | false ↦ λ e. ap (λ v. option_map state v) (h.others other (λ same. no_both (nat_eq other key) (eq-eqb other key same) e))
      ] refl) i

  pub clients_put : (connections : Slab (ClientConnection T)) (key : ℕ) (p p' : ClientConnection T) → get connections key ≡ Some p
      → clients_with name (with_value connections key p') ≡ set_at (clients_with name connections) key (Some (state_of_client name p'))
  clients_put connections key p p' there =
      clients_updated connections (with_value connections key p') key (Some p')
      (Updates-with_value connections key p' (subst (λ (v : Option (ClientConnection T)). IsSome v) (sym there) refl))

  pub client_there : (connections : Slab (ClientConnection T)) (key : ℕ) (p : ClientConnection T) → get connections key ≡ Some p
      → clients_with name connections key ≡ Some (state_of_client name p)
  client_there connections key p there = ap (λ v. option_map (λ client. state_of_client name client) v) there

  -- A client whose state stays is put back.
  pub clients_kept : (connections : Slab (ClientConnection T)) (key : ℕ) (p p' : ClientConnection T) → Some p ≡ get connections key → state_of_client name p' ≡ state_of_client name p
      → clients_with name (with_value connections key p') ≡ clients_with name connections
  clients_kept connections key p p' there same =
      clients_put connections key p p' (sym there) ∙ ap (λ v. set_at (clients_with name connections) key (Some v)) same
      ∙ set_same (clients_with name connections) key (Some (state_of_client name p)) (client_there connections key p (sym there))

  -- A new client gets a vacant key. The clients are found as they are afterwards.
  pub clients_added : (old new : Slab (ClientConnection T)) (key who : ℕ) (p : ClientConnection T) (after : Clients) → get old key ≡ None → Updates old new key (Some p)
      → state_of_client name p ≡ new_client who → after ≡ clients_with name new → AddsIf true who (clients_with name old) after
  clients_added old new key who p after vacant h is same = (
    key,
    ap (λ v. option_map (λ client. state_of_client name client) v) vacant,
    same ∙ clients_updated old new key (Some p) h ∙ ap (λ v. set_at (clients_with name old) key (Some v)) is,
  )

  -- A client may make at most one more request.
  pub clients_limited : (connections : Slab (ClientConnection T)) (key : ℕ) (p p' : ClientConnection T) → Some p ≡ get connections key → state_of_client name p' ≡ limited (state_of_client name p)
      → LimitsAt key (clients_with name connections) (clients_with name (with_value connections key p'))
  clients_limited connections key p p' there is =
      clients_put connections key p p' (sym there)
      ∙ ap (λ v. set_at (clients_with name connections) key v) (ap (λ v. Some v) is ∙ sym (ap (λ v. option_map limited v) (client_there connections key p (sym there))))

  -- There is no client under the key.
  pub clients_absent : (connections : Slab (ClientConnection T)) (key : ℕ) → get connections key ≡ None → LimitsAt key (clients_with name connections) (clients_with name connections)
  clients_absent connections key absent =
      let clients = clients_with name connections in
      let none : clients key ≡ None = ap (λ v. option_map (λ client. state_of_client name client) v) absent in
      sym (set_same clients key (option_map limited (clients key)) (none ∙ sym (ap (λ v. option_map limited v) none)))

  pub clients_none : (connections : Slab (ClientConnection T)) → connections.slots ≡ [] → clients_with name connections ≡ (λ key. None)
  clients_none connections empty = λ i key. option_map (λ client. state_of_client name client) (slice_index_or (empty i) key None)

-- ---- changes

changes_by_then : (xs ys : List SetChange) (old mid new : Clients) → ChangesBy xs old mid → ChangesBy ys mid new → ChangesBy (xs ++ ys) old new
changes_by_then [] ys old mid new h k = subst (λ (v : Clients). ChangesBy ys v new) h k
changes_by_then (x ∷ xs) ys old mid new h k = (h.0, h.1, changes_by_then xs ys h.0 mid new h.2 k)

pub changes_none : (old new : Clients) (past now : Option (List HistoryEvent)) → new ≡ old → now ≡ past → SetChanges old new past now
changes_none old new past now same is = record { changes = []; by = same; history = extends_same past now is }

pub changes_then : (old mid new : Clients) (past between now : Option (List HistoryEvent)) → SetChanges old mid past between → SetChanges mid new between now → SetChanges old new past now
changes_then old mid new past between now p q = record {
  changes = p.changes ++ q.changes;
  by = changes_by_then p.changes q.changes old mid new p.by q.by;
  history = subst (λ (v : List HistoryEvent). Extends past now v) (sym (flat_map-append history_of_change p.changes q.changes))
      (extends_then past between now (flat_map history_of_change p.changes) (flat_map history_of_change q.changes) p.history q.history);
}

change_once : (x : SetChange) (old new : Clients) (past now : Option (List HistoryEvent)) → ChangesTo x old new → Extends past now (history_of_change x) → SetChanges old new past now
change_once x old new past now h recorded = record {
  changes = x ∷ [];
  by = (new, h, refl);
  history = subst (λ (v : List HistoryEvent). Extends past now v) (sym (append-nil (history_of_change x))) recorded;
}

-- The client of a connection takes steps.
pub changes_at : {T : Type 0} (name : T → ℕ) (connections : Slab (ClientConnection T)) (key : ℕ) (p p' : ClientConnection T) (past now : Option (List HistoryEvent)) → Some p ≡ get connections key
    → ClientSteps (state_of_client name p) (state_of_client name p') past now
    → SetChanges (clients_with name connections) (clients_with name (with_value connections key p')) past now
changes_at name connections key p p' past now there h =
    let l = state_of_client name p in
    change_once (TakesSteps key l.name h.steps) (clients_with name connections) (clients_with name (with_value connections key p')) past now
    (l, client_there name connections key p (sym there), refl, state_of_client name p', h.by, clients_put name connections key p p' (sym there)) h.history

-- The same from a state that was found in between.
pub changes_at_from : {T : Type 0} (name : T → ℕ) (connections : Slab (ClientConnection T)) (key : ℕ) (p mid p' : ClientConnection T) (past now : Option (List HistoryEvent)) → Some p ≡ get connections key
    → state_of_client name mid ≡ state_of_client name p → ClientSteps (state_of_client name mid) (state_of_client name p') past now
    → SetChanges (clients_with name connections) (clients_with name (with_value connections key p')) past now
changes_at_from name connections key p mid p' past now there same h =
    changes_at name connections key p p' past now there (subst (λ (v : ClientState). ClientSteps v (state_of_client name p') past now) same h)

-- A client took steps, after which it may be closed, and was removed.
pub changes_closed : {T : Type 0} (name : T → ℕ) (old new : Slab (ClientConnection T)) (key : ℕ) (p : ClientConnection T) (l1 : ClientState) (after : Clients) → Some p ≡ get old key → Updates old new key None
    → ((past : Option (List HistoryEvent)) → ClientSteps (state_of_client name p) l1 past past) → IsClosable l1 → after ≡ clients_with name new → (past : Option (List HistoryEvent))
    → SetChanges (clients_with name old) after past past
changes_closed name old new key p l1 after there h steps closable same past =
    let l = state_of_client name p in
    let s = steps past in
    let mid : Clients = set_at (clients_with name old) key (Some l1) in
    let last : after ≡ set_at mid key None = same ∙ clients_updated name old new key None h ∙ sym (set_twice (clients_with name old) key (Some l1) None) in
    changes_then (clients_with name old) mid after past past past
    (change_once (TakesSteps key l.name s.steps) (clients_with name old) mid past past (l, client_there name old key p (sym there), refl, l1, s.by, refl) s.history)
    (change_once (Removes key) mid after past past (l1, set_there (clients_with name old) key (Some l1), closable, last) (extends_none past))

-- ---- a limit to one more request

-- The limit of one client is a change, unless there is none.
pub changes_limit : (key : ℕ) (old new : Clients) (past : Option (List HistoryEvent)) → LimitsAt key old new → SetChanges old new past past
changes_limit key old new past h =
    (elim (old key) as (λ (v : Option ClientState). old key ≡ v → new ≡ set_at old key (option_map limited v) → SetChanges old new past past) [
      | None ↦ λ e. λ is. changes_none old new past past (is ∙ set_same old key None e) refl
      | Some l ↦ λ e. λ is. change_once (TakesSteps key l.name (Limits ∷ [])) old new past past (l, e, refl, limited l, (limited l, refl, refl), is) (extends_none past)
    ]) refl h

pub limits_none : (old : Clients) → LimitsBelow 0 old old
limits_none old = record { below = λ key. λ less. absurd (omega (arith, less)); others = λ key. λ above. refl }

other_below : (key bound : ℕ) → key < bound + 1 → nat_eq key bound ≡ false → key < bound
other_below key bound less e =
    let other : key ≡ bound → ⊥ = λ same. no_both (nat_eq key bound) (eq-eqb key bound same) e in
    omega (arith, less, other)

-- The next client.
pub limits_next : (bound : ℕ) (old mid new : Clients) → LimitsBelow bound old mid → LimitsAt bound mid new → LimitsBelow (bound + 1) old new
limits_next bound old mid new p h =
    let at : (key : ℕ) → new key ≡ cond (nat_eq key bound) (option_map limited (mid bound)) (mid key) = λ key. ap (λ (v : Clients). v key) h in
    record {
      below = λ key. λ less. at key ∙ (elim (nat_eq key bound) as (λ v. nat_eq key bound ≡ v → cond v (option_map limited (mid bound)) (mid key) ≡ option_map limited (old key)) [
        | true ↦ λ e. ap (λ v. option_map limited v) (p.others bound (omega arith) ∙ sym (ap old (eqb-true key bound e)))
        | false ↦ λ e. p.below key (other_below key bound less e)
      ] refl);
      others = λ key. λ above. at key ∙ (elim (nat_eq key bound) as (λ v. nat_eq key bound ≡ v → cond v (option_map limited (mid bound)) (mid key) ≡ old key) [
        | true ↦ λ e. let same = eqb-true key bound e in absurd (omega (arith, above, same))
        | false ↦ λ e. p.others key (omega (arith, above))
      ] refl);
    }
