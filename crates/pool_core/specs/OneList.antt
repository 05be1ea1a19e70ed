-- The calls and purges of a pool as one list.
use Rattle.std.specs.Prelude.{◌≡◌, ◌<◌, ◌≤◌, ℕ, Bool, true, false, List, ◌∷◌, ◌++◌, Contains, filter, map, take, Option, Some, slice_get}
use Rattle.entity_core.specs.Airspace.{Airspace}
use Rattle.policy_core.specs.declared.call.Call.{Call}
use Rattle.service_step.specs.declared.reply.Reply.{Reply}
use Rattle.service_calls.specs.Run.{TimedCall}
use Rattle.pool_core.specs.Acts.{Act, Makes, airspace_by, replies_by}
use Rattle.pool_core.specs.Events.{Answers, Basis, Batch, Drops, InstanceEvent, PoolEvent, Receives, entries_given, events_at}
use Rattle.pool_core.specs.Pool.{IsPool, count_given, entry_of_batch}
use Rattle.pool_core.specs.Serves.{ServesPool, airspace_at, acts_in}

-- A request of a pool: the instance that received it, and its id there.
pub record RequestName : Type 0 where
  pub instance : ℕ
  pub id : ℕ

-- An act of the list. A call has its request, if it is known. `logged` says whether it is an act of
-- an entry in the log.
pub record ListedAct : Type 0 where
  pub request : Option RequestName
  pub act : Act
  pub logged : Bool

abbrev pub listed_acts : List ListedAct → List Act
listed_acts list = map (λ listed. listed.act) list

-- The event that this happened at the instance of a request.
abbrev pub at : RequestName → InstanceEvent → PoolEvent
at x event = record { instance = x.instance; event = event }

-- Holds if the act of a request is at a position of the list.
pub record Stands (list : List ListedAct) (x : RequestName) (position : ℕ) : Type 0 where
  pub listed : ListedAct
  pub there : slice_get list position ≡ Some listed
  pub of : listed.request ≡ Some x

-- Holds if a request was answered before another was received.
pub record AnsweredBefore (events : List PoolEvent) (x y : RequestName) : Type 0 where
  pub before : List PoolEvent
  pub basis : Basis
  pub reply : Reply
  pub between : List PoolEvent
  pub call : Call
  pub after : List PoolEvent
  pub split : events ≡ before ++ at x (Answers x.id basis reply)
      ∷ (between ++ at y (Receives y.id call) ∷ after)

-- Holds if a request failed and was never offered.
pub record FailedUnsent (events : List PoolEvent) (x : RequestName) : Type 0 where
  pub before : List PoolEvent
  pub after : List PoolEvent
  pub split : events ≡ before ++ at x (Drops x.id) ∷ after

module _ (acts_of : List ℕ → List Act) (salt : List ℕ) (start : Airspace) where
  -- Holds if a request is at some position, and its reply is that of the policy there.
  pub record StandsWith (list : List ListedAct) (x : RequestName) (reply : Reply) : Type 0 where
    pub position : ℕ
    pub stands : Stands list x position
    pub is_policy : slice_get (replies_by salt start (listed_acts list)) position
        ≡ Some (Some reply)

  -- Holds if the acts of the log, with readings between them, are one list of acts for the
  -- instances that serve.
  pub record IsOneList (serves : ℕ → Bool) (events : List PoolEvent) (log : List Batch)
      (list : List ListedAct) : Type 0 where
    -- The list has the acts of the log, in their order.
    pub logged : listed_acts (filter (λ listed. listed.logged) list)
        ≡ acts_in acts_of (map entry_of_batch log)
    -- Any other act is a call that was answered. So each purge of the list is one of the log.
    pub others : (n : ℕ) (listed : ListedAct) → slice_get list n ≡ Some listed
        → listed.logged ≡ false → ((timed : TimedCall) × (listed.act ≡ Makes timed))
        × (x : RequestName) × (listed.request ≡ Some x) × (serves x.instance ≡ true)
        × ((basis : Basis) × (reply : Reply) × Contains events (at x (Answers x.id basis reply)))
    -- The act of a request is the call that was received.
    pub received : (x : RequestName) → serves x.instance ≡ true → (n : ℕ) (s : Stands list x n)
        → (timed : TimedCall) × (s.listed.act ≡ Makes timed)
        × Contains events (at x (Receives x.id timed.1))
    -- A request that was answered is in the list, and its reply is that of the policy there.
    pub answered : (x : RequestName) (basis : Basis) (reply : Reply) → serves x.instance ≡ true
        → Contains events (at x (Answers x.id basis reply)) → StandsWith list x reply
    -- A request is in the list once at most, and not if it failed and was never offered.
    pub once : (x : RequestName) → serves x.instance ≡ true → (n k : ℕ) → Stands list x n
        → Stands list x k → n ≡ k
    pub unsent : (x : RequestName) → serves x.instance ≡ true → FailedUnsent events x → (n : ℕ)
        → Stands list x n → ⊥
    -- A request that was answered before another was received is before it.
    pub order : (x y : RequestName) → serves x.instance ≡ true → serves y.instance ≡ true
        → AnsweredBefore events x y → (n k : ℕ) → Stands list x n → Stands list y k → n < k
    -- The airspace after entries that an instance was given is the one after a beginning of the
    -- list.
    pub held : (i count : ℕ) → count ≤ count_given i events → (n : ℕ)
        × (airspace_by salt start (listed_acts (take n list))
        ≡ airspace_at acts_of salt start (entries_given (events_at i events)) count)

-- States that the calls and purges of a pool are one list, in which each reply is that of the
-- policy. It concerns the requests of the instances that serve the pool. The others may write and
-- answer anything.
abbrev pub PoolIsOneList : Type 0
PoolIsOneList = (acts_of : List ℕ → List Act) (salt : List ℕ) (start : Airspace)
    (serves : ℕ → Bool) (events : List PoolEvent) (pool : IsPool events)
    → ((i : ℕ) → serves i ≡ true → ServesPool acts_of salt start i (events_at i events))
    → (list : List ListedAct) × IsOneList acts_of salt start serves events pool.log list
