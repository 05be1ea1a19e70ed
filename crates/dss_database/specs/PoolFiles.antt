-- What the commands over a database of a pool do: one follows a log, the other loads the database
-- into memory.
use Rattle.std.specs.Prelude.{◌≡◌, ◌⊎◌, ℕ, List, Option, Result, Ok, Err, IfErr, IfOk, length}
use Rattle.sqlite_disk.specs.declared.Disk as disk
use Rattle.sqlite_disk.specs.declared.Files.{Files}
use Rattle.sqlite.specs.Recovery.{Image}
use Rattle.sqlite.specs.WalReads.{AreClean}
use Rattle.entity_core.specs.Airspace.{Airspace}
use Rattle.pool_core.specs.Log.{Continues, LogEvent}
use Rattle.pool_follow.specs.Follower.{ReachesEnd, airspace_of, entries_in}
use Rattle.pool_follow.specs.declared.follow_fault.FollowFault.{FollowFault}
use Rattle.pool_follow.specs.declared.follow_fault.FollowFault.TheVariants as follows
use Rattle.service_recovery.specs.InBatches.{IsOnlyRead}
use Rattle.service_recovery.specs.Life.{StandFor}
use Rattle.space_core.specs.Space.{IsContent}
use Rattle.space_core.specs.declared.space.Space as spaces
use Rattle.space_memory.specs.Memory.{content_of}
use Rattle.space_memory.specs.declared.memory.MemorySpace.{MemorySpace}
use Rattle.space_sql.specs.Found.{FilesSpell}
use Rattle.space_sql.specs.Restart.{FilesHave, without_log}
use Rattle.space_sql_schema.specs.declared.format.Format.TheVariants.{Two}
use Rattle.dss_command.specs.declared.fault.Fault.{Fault}
use Rattle.dss_command.specs.declared.fault.Fault.TheVariants as fault
use Rattle.dss_command.specs.declared.pool_fault.PoolFault.TheVariants as pools
use Rattle.dss_database.specs.Files.{KeepsAirspace}

-- ---- following

-- The fault of the command, given why following the log failed.
abbrev pub fault_of : FollowFault → Fault
fault_of follows.Memory = fault.Memory
fault_of follows.Lost = fault.Pool pools.Ended
fault_of follows.Space = fault.DatabaseFailed
fault_of follows.Silent = fault.Pool pools.Silent
fault_of follows.Wait = fault.Socket

-- Holds if following a log can fail so.
abbrev pub IsOfFollowing : Fault → Type 0
IsOfFollowing why = (reason : FollowFault) × (why ≡ fault_of reason)

-- How following ends, given how it ended for the log.
abbrev pub EndsFollowing : Result (Unit {0}) FollowFault → Result (Unit {0}) Fault → Type 0
EndsFollowing (Ok x) done = done ≡ Ok x
EndsFollowing (Err reason) done = done ≡ Err (fault_of reason)

-- States that a log went on by these events. In them it was asked for its end, and it gave all
-- entries up to the end that it then told.
pub record FollowsLog (past now : Option (List LogEvent)) (events : List LogEvent) : Type 0 where
  pub logged : Continues past now events
  pub end : ReachesEnd events (length (entries_in events))

-- States that a log went on by some events, and that the acts of its entries were done over a
-- space. The space has the airspace after these acts, and no other.
pub record FollowsSpace {S : Type 0} (tables : spaces.Ghosts S) (salt : List ℕ)
    (past now : Option (List LogEvent)) (old new : S) : Type 0 where
  pub events : List LogEvent
  pub sound : tables.is_sound new → tables.is_sound old
  pub whole : tables.is_sound new → tables.is_whole old → tables.is_whole new
  pub followed : tables.is_sound new → tables.is_whole old
      → (a : Airspace) → IsContent tables.holds old a → FollowsLog past now events
  pub content : tables.is_sound new → tables.is_whole old
      → (a : Airspace) → IsContent tables.holds old a
      → ∥ IsContent tables.holds new (airspace_of salt a events) ∥₁

-- States that a log went on by some events, and that the acts of its entries were done over the
-- airspace that the files represented. The files, also without their log, represent in format 2 the
-- airspace after these acts. This applies as long as the disk returned what was written.
pub record FollowsFiles {D : Type 0} (g : disk.Ghosts D) (image : Image) (salt : List ℕ)
    (past now : Option (List LogEvent)) (files : Files D) : Type 0 where
  pub events : List LogEvent
  pub followed : AreClean g files.log files.db → (a : Airspace) → StandFor image a
      → FollowsLog past now events
  pub left : AreClean g files.log files.db → (a : Airspace) → StandFor image a
      → (left : Image) → FilesHave g files left
      → ∥ (FilesSpell Two left (airspace_of salt a events)
      × FilesSpell Two (without_log left) (airspace_of salt a events)) ∥₁

-- ---- loading

-- States that all that a space over tables holds was loaded into memory. The space was only read.
pub record LoadsSpace {S : Type 0} (tables : spaces.Ghosts S) (old new : S)
    (done : Result MemorySpace Fault) : Type 0 where
  pub read : IsOnlyRead tables old new
  pub loaded : IfOk done (λ memory. tables.is_sound new → (a : Airspace) → tables.holds old a
      → content_of memory ≡ a)
  pub fault : IfErr done (λ why. (why ≡ fault.DatabaseFailed) ⊎ (why ≡ fault.Memory))

-- States that a space in memory has the airspace that the files represented. The files still
-- represent it. This applies as long as the disk returned what was written.
pub record LoadsFiles {D : Type 0} (g : disk.Ghosts D) (image : Image) (memory : MemorySpace)
    (files : Files D) : Type 0 where
  pub loaded : AreClean g files.log files.db → (a : Airspace) → StandFor image a
      → content_of memory ≡ a
  pub kept : KeepsAirspace g image files
