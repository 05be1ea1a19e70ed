-- Properties of the acts of a pool that started from an empty airspace.
use Rattle.std.specs.Prelude.{◌≡◌, ◌≤◌, ℕ, Bool, List, [], ◌∷◌, ◌++◌, take, Option, Some, None, if◌then◌else◌, slice_get}
use Rattle.std.specs.FinMap.{get}
use Rattle.entity_core.specs.Airspace.{Airspace, EntityKey, IsAirspace, empty_at}
use Rattle.entity_core.specs.declared.entity.Entity.{Entity}
use Rattle.entity_core.specs.declared.nature.Kind.{Kind}
use Rattle.entity_core.specs.declared.subscription.Sub.{Sub}
use Rattle.service_step.specs.Step.{step}
use Rattle.service_step.specs.declared.reply.Reply.{Reply}
use Rattle.service_calls.specs.Aware.{Aware, KnewOthers, MadeCall, SerialsDiffer, is_done, later_or, put_in}
use Rattle.service_calls.specs.Count.{Counts, IsCounted}
use Rattle.service_calls.specs.Run.{TimedCall, replies_of}
use Rattle.service_calls.specs.Stale.{AllNumbered, IsRefusedFor, IsStale}
use Rattle.pool_core.specs.Acts.{Act, Makes, Purges, act_step, airspace_by, makes_all, replies_by}
use Rattle.pool_core.specs.Events.{Batch, PoolEvent, entries_given, events_at}
use Rattle.pool_core.specs.OneList.{IsOneList, ListedAct, listed_acts}
use Rattle.pool_core.specs.Pool.{count_given}
use Rattle.pool_core.specs.Serves.{airspace_at}

-- ---- calls between purges

-- The call of an act if it was answered `Done` and put the entity of this key.
abbrev pub put_by : List ℕ → EntityKey → Airspace → Act → Option MadeCall
put_by salt k a (Makes timed) = put_in k a timed.1 (step salt a timed.0 timed.1).1
put_by salt k a (Purges until) = None

-- The last call of a list of acts that was answered `Done` and created or updated the entity of a
-- key. The acts happen from the airspace `a` on.
abbrev pub last_put : List ℕ → EntityKey → Airspace → List Act → Option MadeCall
last_put salt k a [] = None
last_put salt k a (x ∷ xs) =
    later_or (last_put salt k (act_step salt a x).0 xs) (put_by salt k a x)

-- The call of an act, if it was answered `Done`, with the airspace before it.
abbrev pub done_by : List ℕ → Airspace → Act → List MadeCall
done_by salt a (Makes timed) = if is_done (step salt a timed.0 timed.1).1
    then record { before = a; call = timed.1 } ∷ []
    else []
done_by salt a (Purges until) = []

-- The calls of a list of acts that were answered `Done`, in order, each with the airspace before
-- it. The acts happen from the airspace `a` on.
abbrev pub all_done : List ℕ → Airspace → List Act → List MadeCall
all_done salt a [] = []
all_done salt a (x ∷ xs) = done_by salt a x ++ all_done salt (act_step salt a x).0 xs

-- ---- what is known

-- Holds if the airspace has the properties of a run of these acts from an empty airspace.
pub record IsKnown (salt : List ℕ) (from : Airspace) (acts : List Act) (a : Airspace)
    : Type 0 where
  pub proper : IsAirspace a
  -- Serials differ. Of two meeting entities, the last put of the later one knew the other. The
  -- purges between do not matter.
  pub serials : SerialsDiffer a
  pub knew : KnewOthers (λ k. last_put salt k from acts) a
  -- The index of each subscription is the number of calls, before and after purges, that notified
  -- it after the last call that created it.
  pub counted : (id : ℕ) (s : Sub) → get a.subscriptions id ≡ Some s
      → IsCounted id (all_done salt from acts) s.index
  -- Each entity has the OVN of its own serial.
  pub numbered : AllNumbered salt a

-- States that each airspace that an instance of a pool holds, after entries that it was given, is
-- known from a beginning of the list. The empty airspace may have any serial.
abbrev pub PoolIsKnown : Type 0
PoolIsKnown = (acts_of : List ℕ → List Act) (salt : List ℕ) (serial : ℕ) (serves : ℕ → Bool)
    (events : List PoolEvent) (log : List Batch) (list : List ListedAct)
    → IsOneList acts_of salt (empty_at serial) serves events log list → (i count : ℕ)
    → count ≤ count_given i events → (n : ℕ)
    × IsKnown salt (empty_at serial) (listed_acts (take n list))
    (airspace_at acts_of salt (empty_at serial) (entries_given (events_at i events)) count)

-- States that the airspace after each list of acts from the empty airspace is known from them.
abbrev pub ListsAreKnown : Type 0
ListsAreKnown = (salt : List ℕ) (serial : ℕ) (acts : List Act)
    → IsKnown salt (empty_at serial) acts (airspace_by salt (empty_at serial) acts)

-- States that what is known from acts that are all calls is what is known from these calls.
abbrev pub CallsAreKnown : Type 0
CallsAreKnown = (salt : List ℕ) (from : Airspace) (calls : List TimedCall) (a : Airspace)
    → IsKnown salt from (makes_all calls) a
    → Aware salt from calls (replies_of salt from calls) a
    × Counts salt from calls (replies_of salt from calls) a

-- States that a put of a list whose key has only old OVNs is denied for each entity that it needs
-- to know, or for an earlier rule that it breaks.
abbrev pub ListedStaleIsRefused : Type 0
ListedStaleIsRefused = (salt : List ℕ) (start : Airspace) (acts : List Act) (n : ℕ)
    (timed : TimedCall) (reply : Reply) → slice_get acts n ≡ Some (Makes timed)
    → slice_get (replies_by salt start acts) n ≡ Some (Some reply) → (kind : Kind) (y : Entity)
    → IsStale salt kind (airspace_by salt start (take n acts)) timed.1 y
    → IsRefusedFor kind (airspace_by salt start (take n acts)) timed.1 y reply
