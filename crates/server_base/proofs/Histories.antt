-- How a history grows.
use Rattle.std.proofs.Common.{◌≡◌, ℕ, zero, suc, List, [], ◌∷◌, ◌++◌, length, take, Option, Some, None, option_map, refl, sym, ap, subst, ◌∙◌, append_assoc, arith, ◌<◌, ◌≤◌, ◌≢◌, ⊎_elim}
use Rattle.std.specs.Prelude.{Contains}
use Rattle.std.proofs.lemmas.List.{append-nil, length-take-le}
use Rattle.std.proofs.lemmas.List.Elements.{Contains-append_cases}
use Rattle.server_base.specs.History.{Accepted, AreBelow, AreNewAfter, Extends, HaveNewNames, HistoryEvent, Received, ReceivedEnd, Sent, read_events}

pub extends_none : (past : Option (List HistoryEvent)) → Extends past past []
extends_none None = record { follow = refl; new_names = tt }
extends_none (Some all) = record { follow = ap (λ v. Some v) (sym (append-nil all)); new_names = tt }

pub extends_same : (past now : Option (List HistoryEvent)) → now ≡ past → Extends past now []
extends_same past now same = subst (λ (v : Option (List HistoryEvent)). Extends past v []) (sym same) (extends_none past)

names_then : (all xs ys : List HistoryEvent) → HaveNewNames all xs → HaveNewNames (all ++ xs) ys → HaveNewNames all (xs ++ ys)
names_then all [] ys h k = subst (λ (v : List HistoryEvent). HaveNewNames v ys) (append-nil all) k
names_then all (x ∷ xs) ys h k =
    (h.0, names_then (all ++ x ∷ []) xs ys h.1 (subst (λ (v : List HistoryEvent). HaveNewNames v ys) (sym (append_assoc all (x ∷ []) xs)) k))

pub extends_then : (past mid now : Option (List HistoryEvent)) (xs ys : List HistoryEvent) → Extends past mid xs → Extends mid now ys → Extends past now (xs ++ ys)
extends_then None mid now xs ys h k = record { follow = k.follow ∙ ap (λ v. option_map (λ all. all ++ ys) v) h.follow; new_names = tt }
extends_then (Some all) mid now xs ys h k = record {
  follow = k.follow ∙ ap (λ v. option_map (λ a. a ++ ys) v) h.follow ∙ ap (λ v. Some v) (append_assoc all xs ys);
  new_names = names_then all xs ys h.new_names (subst (λ (v : Option (List HistoryEvent)). AreNewAfter v ys) h.follow k.new_names);
}

-- A read that returned bytes.
pub read_some : (name : ℕ) (bytes : List ℕ) → 0 < length bytes → read_events name bytes ≡ Received name bytes ∷ []
read_some name [] h = absurd (omega (arith, h))
read_some name (b ∷ bytes) h = refl

pub some_read : (count : ℕ) (chunk : List ℕ) → count ≤ length chunk → count ≢ 0 → 0 < length (take count chunk)
some_read count chunk fits some = omega (arith, length-take-le count chunk fits, fits, some)

-- A read that returned none.
pub read_none : (name count : ℕ) (chunk : List ℕ) (past now : Option (List HistoryEvent)) → count ≡ 0 → Extends past now (read_events name (take count chunk))
    → Extends past now (ReceivedEnd name ∷ [])
read_none name count chunk past now none h = subst (λ (n : ℕ). Extends past now (read_events name (take n chunk))) none h

-- ---- names

abbrev name_or_zero : HistoryEvent → ℕ
name_or_zero (Accepted name) = name
name_or_zero (Received name bytes) = 0
name_or_zero (ReceivedEnd name) = 0
name_or_zero (Sent name bytes) = 0

only_one : (event other : HistoryEvent) → Contains (event ∷ []) other → event ≡ other
only_one event other (zero, within, is) = is
only_one event other (suc k, within, is) = absurd (omega (arith, within))

below_then : (next : ℕ) (events more : List HistoryEvent) → AreBelow next events → AreBelow next more → AreBelow next (events ++ more)
below_then next events more h k name at = ⊎_elim (h name) (k name) (Contains-append_cases events more (Accepted name) at)

below_one : (next : ℕ) (event : HistoryEvent) → ((name : ℕ) → event ≡ Accepted name → ⊥) → AreBelow next (event ∷ [])
below_one next event none name at = absurd (none name (only_one event (Accepted name) at))

pub below_read : (next name : ℕ) (bytes : List ℕ) → AreBelow next (read_events name bytes)
below_read next name [] = below_one next (ReceivedEnd name) (λ other e. cc)
below_read next name (b ∷ bytes) = below_one next (Received name (b ∷ bytes)) (λ other e. cc)

pub below_sent : (next name : ℕ) (bytes : List ℕ) → AreBelow next (Sent name bytes ∷ [])
below_sent next name bytes = below_one next (Sent name bytes) (λ other e. cc)

-- The name of a client that was just accepted.
pub below_accepted : (next : ℕ) (events : List HistoryEvent) → AreBelow next events → AreBelow (suc next) (events ++ Accepted next ∷ [])
below_accepted next events h =
    below_then (suc next) events (Accepted next ∷ []) (λ name at. let less = h name at in omega (arith, less))
    (λ name at. let same = ap name_or_zero (only_one (Accepted next) (Accepted name) at) in omega (arith, same))

pub below_noted : (next : ℕ) (events more new : List HistoryEvent) → new ≡ events ++ more → AreBelow next events → AreBelow next more → AreBelow next new
below_noted next events more new same h k = subst (λ (v : List HistoryEvent). AreBelow next v) (sym same) (below_then next events more h k)

-- A client with that name is new.
pub extends_accepted : (next : ℕ) (events : List HistoryEvent) → AreBelow next events → Extends (Some events) (Some (events ++ Accepted next ∷ [])) (Accepted next ∷ [])
extends_accepted next events h = record { follow = refl; new_names = ((λ at. let less = h next at in omega (arith, less)), tt) }
