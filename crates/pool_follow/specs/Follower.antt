-- What a follower of a log does.
use Rattle.std.specs.Prelude.{◌≡◌, ◌≤◌, ℕ, Bool, true, false, List, [], ◌∷◌, ◌++◌, IfErr, Option, Some, None, Result, Err, length}
use Rattle.std.specs.List.{flat_map}
use Rattle.std.specs.declared.time.Duration.{Duration}
use Rattle.entity_core.specs.Airspace.{Airspace}
use Rattle.space_core.specs.Space.{IsContent}
use Rattle.space_core.specs.declared.group_commit.GroupCommit as settles
use Rattle.space_core.specs.declared.space.Space as spaces
use Rattle.service_calls.specs.Held.{is_shut}
use Rattle.pool_core.specs.Acts.{airspace_by}
use Rattle.pool_core.specs.Log.{AsksEnd, Continues, GivesEntry, LogEntry, LogEvent, TellsEnd, end_events}
use Rattle.pool_core.specs.Serves.{acts_in}
use Rattle.pool_core.specs.declared.log.Log as logs
use Rattle.pool_core.specs.declared.log.LogEnd.{LogEnd}
use Rattle.pool_entry.specs.Acts.{acts_of}
use Rattle.pool_follow.specs.Parts.{count_taken, end_of, failed_with, is_at_end, log_of, salt_in, space_in}
use Rattle.pool_follow.specs.declared.end_state.EndState.{EndState}
use Rattle.pool_follow.specs.declared.end_state.EndState.TheVariants.{Asked, Known, Unasked}
use Rattle.pool_follow.specs.declared.follow_fault.FollowFault.{FollowFault}
use Rattle.pool_follow.specs.declared.follower.Follower.{Follower}

-- ---- events of a log

abbrev pub entry_in : LogEvent → List LogEntry
entry_in (GivesEntry entry) = entry ∷ []
entry_in event = []

-- The entries that a log gave.
abbrev pub entries_in : List LogEvent → List LogEntry
entries_in events = flat_map entry_in events

-- The airspace after the acts of the entries that a log gave.
abbrev pub airspace_of : (salt : List ℕ) (start : Airspace) → List LogEvent → Airspace
airspace_of salt start events = airspace_by salt start (acts_in acts_of (entries_in events))

-- Holds if the log was asked this question for its end.
pub record WasAsked (events : List LogEvent) (question : ℕ) : Type 0 where
  pub before : List LogEvent
  pub after : List LogEvent
  pub asked : events ≡ before ++ AsksEnd question ∷ after

-- Holds if the log was asked for its end, and told later that it had so many entries.
pub record WasTold (events : List LogEvent) (count : ℕ) : Type 0 where
  pub before : List LogEvent
  pub between : List LogEvent
  pub after : List LogEvent
  pub question : ℕ
  pub told : events
      ≡ before ++ AsksEnd question ∷ (between ++ TellsEnd question count ∷ after)

-- Holds if a follower can know this of the end of its log, after these events.
abbrev pub KnowsEnd : List LogEvent → EndState → Type 0
KnowsEnd events Unasked = Unit {0}
KnowsEnd events (Asked question) = WasAsked events question
KnowsEnd events (Known count) = WasTold events count

-- Holds if the log was asked for its end in these events, and so many entries reach the end that it
-- told.
pub record ReachesEnd (events : List LogEvent) (taken : ℕ) : Type 0 where
  pub count : ℕ
  pub told : WasTold events count
  pub reached : count ≤ taken

-- Holds if a fault is for good: after it, each call returns it.
pub record FailsForGood {L S T : Type 0} (old new : Follower L S) (result : Result T FollowFault)
    : Type 0 where
  pub again : (fault : FollowFault) → failed_with old ≡ Some fault → result ≡ Err fault
  pub lasts : IfErr result (λ fault. failed_with new ≡ Some fault)

module _ {L S : Type 0} (gl : logs.Ghosts L) (gs : spaces.Ghosts S) where
  -- ---- the state of a follower

  -- Holds if a follower has done this at its log and can go on. It started with the airspace
  -- `start`, and its log had the history `past` then. It did the acts of the entries that the log
  -- gave: its space holds the airspace after them, and no other.
  pub record HasFollowed (past : Option (List LogEvent)) (start : Airspace)
      (events : List LogEvent) (x : Follower L S) : Type 0 where
    pub logged : Continues past (gl.history (log_of x)) events
    pub goes : is_shut x.service ≡ false
    pub taken : count_taken x ≡ length (entries_in events)
    pub held : gs.is_sound (space_in x)
        → IsContent gs.holds (space_in x) (airspace_of (salt_in x) start events)

  -- ---- what operations do

  -- Holds after each operation, also if it failed. If the space is sound, it was sound before; if
  -- it was whole before, it is whole.
  pub record Stays (old new : Follower L S) : Type 0 where
    pub salt : salt_in new ≡ salt_in old
    pub writer : gl.writer (log_of new) ≡ gl.writer (log_of old)
    pub sound : gs.is_sound (space_in new) → gs.is_sound (space_in old)
    pub whole : gs.is_sound (space_in new) → gs.is_whole (space_in old)
        → gs.is_whole (space_in new)

  -- Holds if exactly these events happened at the log, and the acts of their entries were done,
  -- whatever happened before.
  pub record Did (old : Follower L S) (more : List LogEvent) (new : Follower L S) : Type 0 where
    pub after : (past : Option (List LogEvent)) (start : Airspace) (events : List LogEvent)
        → HasFollowed past start events old → HasFollowed past start (events ++ more) new
    pub end : (events : List LogEvent) → KnowsEnd events (end_of old)
        → KnowsEnd (events ++ more) (end_of new)

  -- Holds if the follower asked the log for its end. Only the answer to this question will do.
  pub record AsksForEnd (old new : Follower L S) : Type 0 where
    pub question : ℕ
    pub did : Did old (AsksEnd question ∷ []) new
    pub asked : end_of new ≡ Asked question

  -- Holds if some events happened at the log, and the acts of their entries were done.
  pub record DidSome (old new : Follower L S) : Type 0 where
    pub events : List LogEvent
    pub did : Did old events new

  -- Holds if the log answered a question, or none.
  abbrev pub Learns : Follower L S → Follower L S → Type 0
  Learns old new = (answer : Option LogEnd) × Did old (end_events answer) new

  -- Holds if the follower took the next entry and did its acts, if the log gave one.
  abbrev pub Takes : Follower L S → Follower L S → Bool → Type 0
  Takes old new true = (entry : LogEntry) × Did old (GivesEntry entry ∷ []) new
  Takes old new false = Did old [] new

  module _ (k : settles.Ghosts S) where
    -- Holds if the pending changes were committed, so that none is pending any more.
    pub record Commits (old new : Follower L S) : Type 0 where
      pub did : Did old [] new
      pub calm : k.is_pending (space_in new) ≡ false

    -- Holds if some events happened at the log, and nothing is pending. At the end, the entries
    -- reach the end that is known.
    pub record RunsOnce (old new : Follower L S) (rest : Option Duration) : Type 0 where
      pub events : List LogEvent
      pub did : Did old events new
      pub calm : k.is_pending (space_in new) ≡ false
      pub reached : rest ≡ None → is_at_end new ≡ true

    -- Holds if the follower followed its log in these events. In them it asked for the end, and it
    -- has done the acts of all entries up to the end that the log told. Nothing is pending.
    pub record Follows (old new : Follower L S) : Type 0 where
      pub events : List LogEvent
      pub did : Did old events new
      pub end : ReachesEnd events (count_taken new)
      pub calm : k.is_pending (space_in new) ≡ false
