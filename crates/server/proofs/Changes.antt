-- Changes of the clients, as functions of the event loop find them.
use Rattle.std.proofs.Common.{◌≡◌, ℕ, Bool, true, false, List, [], ◌∷◌, Option, refl, sym, subst}
use Rattle.std.proofs.lemmas.List.{append-nil}
use Rattle.server_base.specs.History.{Extends, HistoryEvent}
use Rattle.server_clients.specs.ClientSet.{Adds, AddsIf, ChangesTo, Rejects, SetChange, SetChanges, history_of_change}
use Rattle.server_clients.specs.ServerEvents.{Clients}
use Rattle.server_clients.proofs.Sets.{changes_then}

change_once : (x : SetChange) (old new : Clients) (past now : Option (List HistoryEvent)) → ChangesTo x old new → Extends past now (history_of_change x) → SetChanges old new past now
change_once x old new past now h recorded = record {
  changes = x ∷ [];
  by = (new, h, refl);
  history = subst (λ (v : List HistoryEvent). Extends past now v) (sym (append-nil (history_of_change x))) recorded;
}

-- An accepted client is added, or closed at once.
pub changes_add : (added : Bool) (name : ℕ) (old new : Clients) (past now : Option (List HistoryEvent)) → AddsIf added name old new
    → Extends past now (history_of_change (Rejects name)) → SetChanges old new past now
changes_add true name old new past now h recorded = change_once (Adds h.0 name) old new past now (h.1, h.2) recorded
changes_add false name old new past now h recorded = change_once (Rejects name) old new past now h recorded

-- The same changes, with the clients and the history as they are found at the end.
pub changes_found : (old new new' : Clients) (past now now' : Option (List HistoryEvent)) → SetChanges old new past now → new' ≡ new → now' ≡ now → SetChanges old new' past now'
changes_found old new new' past now now' p same is =
    subst (λ (v : Option (List HistoryEvent)). SetChanges old new' past v) (sym is) (subst (λ (v : Clients). SetChanges old v past now) (sym same) p)

-- Changes that begin with the clients as they are found after nothing changed.
pub changes_after : (old mid new new' : Clients) (past now : Option (List HistoryEvent)) → mid ≡ old → SetChanges mid new past now → new' ≡ new → SetChanges old new' past now
changes_after old mid new new' past now same p is =
    subst (λ (v : Clients). SetChanges old v past now) (sym is) (subst (λ (v : Clients). SetChanges v new past now) same p)

-- Changes that follow others, with the clients as they are found in between and at the end.
pub changes_amid : (old mid mid' new new' : Clients) (past between now : Option (List HistoryEvent)) → SetChanges old mid past between → mid' ≡ mid → SetChanges mid' new between now
    → new' ≡ new → SetChanges old new' past now
changes_amid old mid mid' new new' past between now p same q is =
    subst (λ (v : Clients). SetChanges old v past now) (sym is)
    (changes_then old mid new past between now p (subst (λ (v : Clients). SetChanges v new between now) same q))

-- Changes that begin with the clients and the history as they are found after nothing changed.
pub changes_since : (old mid new : Clients) (past between now : Option (List HistoryEvent)) → mid ≡ old → between ≡ past → SetChanges mid new between now → SetChanges old new past now
changes_since old mid new past between now same is p =
    subst (λ (v : Option (List HistoryEvent)). SetChanges old new v now) is (subst (λ (v : Clients). SetChanges v new between now) same p)
