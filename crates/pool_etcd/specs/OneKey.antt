-- The writes of one key of etcd, and the process whose entries they are.
use Rattle.std.specs.Prelude.{◌≡◌, ◌≢◌, ℕ, ◌<◌, List, [], ◌∷◌, ◌++◌, Bool, true, false, if◌then◌else◌, Option, Some, None, ◌⊎◌}
use Rattle.pool_etcd.specs.declared.own_entries.OwnEntries.{OwnEntries}
use Rattle.pool_etcd.specs.declared.own_entries.OwnState.{OwnState}
use Rattle.pool_etcd.specs.declared.own_entries.OwnState.TheVariants.{Unknown, Unmade}
use Rattle.pool_etcd.specs.declared.response.PutOutcome.{PutOutcome}
use Rattle.pool_etcd.specs.declared.response.PutOutcome.TheVariants.{Stored, Refused}
use Rattle.pool_etcd.specs.declared.response.StoredValue.{StoredValue}
use Rattle.pool_etcd.specs.OwnEntries.{Put, Takes, after_outcome, after_revision, after_settle, due_of}

-- A write of the key. A list of writes begins with the last one.
pub record Write : Type 0 where
  pub revision : ℕ
  pub value : List ℕ

-- The revision of the last write.
abbrev pub last_revision : List Write → ℕ
last_revision [] = 0
last_revision (w ∷ ws) = w.revision

-- The value of the key, with the revision of its last write.
abbrev pub stored_in : List Write → Option StoredValue
stored_in [] = None
stored_in (w ∷ ws) = Some (record { revision = w.revision; value = w.value })

-- A put that was sent, with the writes of the key at that time.
pub record SentPut : Type 0 where
  pub put : Put
  pub writes : List Write

-- The process, the puts that it has sent, the writes of the key, and the values that the process
-- has taken, the last one first.
pub record KeyState : Type 0 where
  pub own : OwnEntries
  pub sent : List SentPut
  pub writes : List Write
  pub taken : List (List ℕ)

-- Holds if the item is one of the list.
abbrev pub Among : {A : Type 0} → A → List A → Type 0
Among x [] = ⊥
Among x (y ∷ ys) = (x ≡ y) ⊎ Among x ys

-- Holds if etcd may answer so to a put: it was stored by a write that follows one at the revision
-- of its compare, or at some time after it was sent the last write was at another revision.
abbrev pub IsAnswer : KeyState → Put → PutOutcome → Type 0
IsAnswer k put (Stored revision) =
    (newer : List Write) × (older : List Write)
    × (k.writes ≡ newer ++ record { revision = revision; value = put.value } ∷ older)
    × (last_revision older ≡ put.revision)
IsAnswer k put (Refused found) =
    (sent : SentPut) × (newer : List Write) × (seen : List Write) × (since : List Write)
    × Among sent k.sent × (sent.put ≡ put)
    × (k.writes ≡ newer ++ seen) × (seen ≡ since ++ sent.writes)
    × (last_revision seen ≢ put.revision) × (found ≡ stored_in seen)

-- What happens at the key.
pub data KeyEvent : Type 0 where
  -- The process takes the next value.
  Takes_value : (value : List ℕ) → KeyEvent
  -- It puts its fence in place of that value from now on, to settle the outcome.
  Settles : KeyEvent
  -- It sends the put that is due, again or for the first time.
  Sends : (put : Put) → KeyEvent
  -- etcd makes a put that was sent at any time before, since the last write is at its revision.
  Stores : (sent : SentPut) → (revision : ℕ) → KeyEvent
  -- Somebody else writes.
  Other : (write : Write) → KeyEvent
  -- The process learns a revision of the key.
  Learns_revision : (revision : ℕ) → KeyEvent
  -- It learns the outcome of the put that is due.
  Learns_outcome : (put : Put) → (outcome : PutOutcome) → KeyEvent

-- Holds if the event leads from one state to the next. `mine` tells the values of the process's
-- entries: only the process itself writes these.
abbrev pub Leads : (List ℕ → Bool) → KeyState → KeyEvent → KeyState → Type 0
Leads mine k (Takes_value value) n =
    (next : OwnState) × (mine value ≡ true) × Takes k.own.state next
    × (n ≡ record k { own = record k.own { state = next; value = value }; taken = value ∷ k.taken })
Leads mine k Settles n =
    n ≡ record k { own = record k.own { state = after_settle k.own.state } }
Leads mine k (Sends put) n =
    (due_of k.own ≡ Some put)
    × (n ≡ record k { sent = record { put = put; writes = k.writes } ∷ k.sent })
Leads mine k (Stores sent revision) n =
    Among sent k.sent × (sent.put.revision ≡ last_revision k.writes)
    × (last_revision k.writes < revision)
    × (n ≡ record k { writes = record { revision = revision; value = sent.put.value } ∷ k.writes })
Leads mine k (Other write) n =
    (mine write.value ≡ false) × (last_revision k.writes < write.revision)
    × (n ≡ record k { writes = write ∷ k.writes })
Leads mine k (Learns_revision revision) n =
    n ≡ record k { own = record k.own { state = after_revision k.own.state revision } }
Leads mine k (Learns_outcome put outcome) n =
    (due_of k.own ≡ Some put) × IsAnswer k put outcome
    × (n ≡ record k { own = record k.own { state = after_outcome k.own outcome } })

abbrev pub Run : (List ℕ → Bool) → KeyState → List KeyEvent → KeyState → Type 0
Run mine k [] n = n ≡ k
Run mine k (e ∷ es) n = (m : KeyState) × Leads mine k e m × Run mine m es n

-- The values of the process's entries among the writes, the last one first.
abbrev pub own_values : (List ℕ → Bool) → List Write → List (List ℕ)
own_values mine [] = []
own_values mine (w ∷ ws) = if mine w.value then w.value ∷ own_values mine ws else own_values mine ws

-- Each write is at a later revision than the one before.
abbrev pub AreInOrder : List Write → Type 0
AreInOrder [] = Unit {0}
AreInOrder (w ∷ ws) = (last_revision ws < w.revision) × AreInOrder ws

-- Holds at the start of a process: it has sent and taken nothing, and nobody has written its
-- values.
pub record IsStart (mine : List ℕ → Bool) (k : KeyState) : Type 0 where
  pub state : k.own.state ≡ Unknown
  pub fence : mine k.own.fence ≡ false
  pub sent : k.sent ≡ []
  pub taken : k.taken ≡ []
  pub values : own_values mine k.writes ≡ []
  pub order : AreInOrder k.writes

-- Holds if these are all values, or all but the last one taken.
abbrev pub IsAllOrAllButLast : List (List ℕ) → List (List ℕ) → Type 0
IsAllOrAllButLast stored taken = (taken ≡ stored) ⊎ ((last : List ℕ) × (taken ≡ last ∷ stored))

-- Whatever is lost, comes late or is repeated: the entries of a process are the values that it has
-- taken, in order, each once, or all but the last one.
abbrev pub EachValueOnce : Type 0
EachValueOnce =
    (mine : List ℕ → Bool) (start end : KeyState) (events : List KeyEvent)
    → IsStart mine start → Run mine start events end
    → IsAllOrAllButLast (own_values mine end.writes) end.taken

-- Once the fence of a process is stored, an entry that it offered before stands before the fence, or
-- never in the log: whatever happens later, the entries behind the fence are values that the process
-- has taken after it, in order, each once, or all but the last one.
abbrev pub FenceSettles : Type 0
FenceSettles =
    (mine : List ℕ → Bool) (start before fenced end : KeyState) (first later : List KeyEvent)
    (sent : SentPut) (revision : ℕ)
    → IsStart mine start → Run mine start first before → sent.put.value ≡ start.own.fence
    → Leads mine before (Stores sent revision) fenced → Run mine fenced later end
    → (writes : List Write) × (taken : List (List ℕ))
    × (end.writes ≡ writes ++ fenced.writes) × (end.taken ≡ taken ++ fenced.taken)
    × IsAllOrAllButLast (own_values mine writes) taken

-- If a process has learned that its fence is stored in place of a value, that value is the last one
-- that it has taken, and the only one that is not written, whatever happens later.
abbrev pub UnmadeIsFinal : Type 0
UnmadeIsFinal =
    (mine : List ℕ → Bool) (start known end : KeyState) (first later : List KeyEvent)
    (revision : ℕ)
    → IsStart mine start → Run mine start first known → known.own.state ≡ Unmade revision
    → Run mine known later end
    → (last : List ℕ) × (end.taken ≡ last ∷ own_values mine end.writes)
