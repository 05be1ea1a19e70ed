-- The event in which an instance makes a call, which has its time.
use Rattle.std.specs.Prelude.{◌≡◌, ◌≤◌, ℕ, Bool, true, List, ◌∷◌, ◌++◌, Contains, Some, length, slice_get}
use Rattle.service_calls.specs.Run.{TimedCall}
use Rattle.pool_core.specs.Acts.{Act, Makes}
use Rattle.pool_core.specs.Events.{AfterFirst, Answers, AsksForEnd, AtOnce, Drops, Fails, Gets, InPlace, InstanceEvent, LearnsEnd, Offers, PoolEvent, Receives, events_at}
use Rattle.pool_core.specs.OneList.{ListedAct, RequestName, Stands, at}
use Rattle.pool_core.specs.Serves.{IsOpen}

-- Holds if the instance makes this call of a request in the event, at this time: the call is offered
-- in a batch, or answered with no entry.
abbrev pub MakesIn : (acts_of : List ℕ → List Act) → (id : ℕ) → TimedCall → InstanceEvent → Type 0
MakesIn acts_of id timed (Receives id' call) = ⊥
MakesIn acts_of id timed (Offers ids bytes) = (position : ℕ)
    × (slice_get ids position ≡ Some id) × (slice_get (acts_of bytes) position ≡ Some (Makes timed))
MakesIn acts_of id timed (Gets entry) = ⊥
MakesIn acts_of id timed (AsksForEnd question) = ⊥
MakesIn acts_of id timed (LearnsEnd question count) = ⊥
MakesIn acts_of id timed (Answers id' InPlace reply) = ⊥
MakesIn acts_of id timed (Answers id' (AfterFirst count timed') reply) = (id' ≡ id) × (timed' ≡ timed)
MakesIn acts_of id timed (Answers id' (AtOnce timed') reply) = (id' ≡ id) × (timed' ≡ timed)
MakesIn acts_of id timed (Fails id') = ⊥
MakesIn acts_of id timed (Drops id') = ⊥

-- Holds if the instance of a request made its call so, after it received the request and before the
-- request had a reply or failed.
pub record MadeIn (acts_of : List ℕ → List Act) (events : List PoolEvent) (x : RequestName)
    (timed : TimedCall) : Type 0 where
  pub before : List PoolEvent
  pub event : InstanceEvent
  pub after : List PoolEvent
  pub split : events ≡ before ++ at x event ∷ after
  pub makes : MakesIn acts_of x.id timed event
  pub opens : IsOpen (events_at x.instance before) x.id timed.1

-- Holds if the act at the position of a request is its call, made so.
abbrev pub IsMade : (acts_of : List ℕ → List Act) → List PoolEvent → (x : RequestName) → ListedAct
    → Type 0
IsMade acts_of events x listed = (timed : TimedCall) × (listed.act ≡ Makes timed)
    × MadeIn acts_of events x timed

-- A time that the clock of an instance gave, after so many events of the pool.
pub record ClockReading : Type 0 where
  pub instance : ℕ
  pub place : ℕ
  pub time : ℕ

-- Holds if this is the time that the clock of the instance gave last, before the event behind so
-- many events of the pool.
pub record IsTimeAt (readings : List ClockReading) (i count time : ℕ) : Type 0 where
  pub place : ℕ
  pub read : Contains readings (record { instance = i; place = place; time = time })
  pub before : place ≤ count
  pub last : (place' time' : ℕ)
      → Contains readings (record { instance = i; place = place'; time = time' })
      → place' ≤ count → place' ≤ place

module _ (acts_of : List ℕ → List Act) (readings : List ClockReading) (serves : ℕ → Bool)
    (events : List PoolEvent) where
  -- Holds if each instance that serves makes its calls at the time that its clock gave last.
  abbrev pub TakesTimes : Type 0
  TakesTimes = (i : ℕ) → serves i ≡ true → (before : List PoolEvent) (event : InstanceEvent)
      (after : List PoolEvent) → events ≡ before ++ record { instance = i; event = event } ∷ after
      → (id : ℕ) (timed : TimedCall) → MakesIn acts_of id timed event
      → IsTimeAt readings i (length before) timed.0

  -- Holds if each call of a request in the list has the time that the clock of its instance gave
  -- last before the instance made the call, while the request was open.
  abbrev pub HasTimes : List ListedAct → Type 0
  HasTimes list = (x : RequestName) → serves x.instance ≡ true → (n : ℕ) (s : Stands list x n)
      → (timed : TimedCall) × (s.listed.act ≡ Makes timed)
      × (made : MadeIn acts_of events x timed)
      × IsTimeAt readings x.instance (length made.before) timed.0
