-- Which purges an instance offers: those that another instance's clock agrees with.
use Rattle.std.specs.Prelude.{◌≡◌, ◌≤◌, ◌+◌, ℕ, List, ◌∷◌, ◌++◌, Contains, IfSome, Option, Some}
use Rattle.service_calls.specs.Run.{TimedCall}
use Rattle.pool_core.specs.Acts.{Makes, Purges}
use Rattle.pool_core.specs.Events.{InstanceEvent, Offers, entries_given}
use Rattle.pool_core.specs.Log.{LogEntry}
use Rattle.pool_entry.specs.Acts.{acts_of}

-- Holds if an entry that another instance wrote has a call with this time.
pub record HasHeard (me : ℕ) (events : List InstanceEvent) (time : ℕ) : Type 0 where
  pub entry : LogEntry
  pub given : Contains (entries_given events) entry
  pub other : entry.writer ≡ me → ⊥
  pub timed : TimedCall
  pub makes : Contains (acts_of entry.bytes) (Makes timed)
  pub at : timed.0 ≡ time

-- Holds if this is the time that an instance heard last, if it heard one.
abbrev pub IsHeard : (me : ℕ) → List InstanceEvent → Option ℕ → Type 0
IsHeard me events heard = IfSome heard (HasHeard me events)

-- Holds if a purge up to this time keeps the retention by the clock of another instance: a call of
-- that instance came before, at least the retention after the end of the purge.
pub record IsAgreed (retention : Option ℕ) (me : ℕ) (events : List InstanceEvent) (until : ℕ)
    : Type 0 where
  pub seconds : ℕ
  pub retained : retention ≡ Some seconds
  pub time : ℕ
  pub heard : HasHeard me events time
  pub past : until + seconds ≤ time

-- Holds if each purge that was offered was agreed then.
abbrev pub AreAgreed : (retention : Option ℕ) (me : ℕ) → List InstanceEvent → Type 0
AreAgreed retention me events =
    (earlier later : List InstanceEvent) (ids bytes : List ℕ) (until : ℕ)
    → events ≡ earlier ++ Offers ids bytes ∷ later → Contains (acts_of bytes) (Purges until)
    → IsAgreed retention me earlier until
