-- A purge preserves what is known of an airspace after a run.
use Rattle.std.specs.Prelude.{ℕ, List}
use Rattle.entity_core.specs.Airspace.{Airspace}
use Rattle.entity_purge.specs.Purge.{IsPartlyPurged}
use Rattle.service_step.specs.declared.reply.Reply.{Reply}
use Rattle.service_calls.specs.Aware.{Aware}
use Rattle.service_calls.specs.Count.{Counts}
use Rattle.service_calls.specs.Run.{TimedCall}
use Rattle.service_calls.specs.Stale.{AllNumbered}

-- States that after a partial purge, the index of each retained subscription is still the number of
-- calls that notified it. These are the calls after the last one that created it.
abbrev pub PurgeKeepsCounts : Type 0
PurgeKeepsCounts = (until : ℕ) (salt : List ℕ) (from : Airspace) (cs : List TimedCall)
    (rs : List Reply) (a b : Airspace) → IsPartlyPurged until a b → Counts salt from cs rs a
    → Counts salt from cs rs b

-- States that after a partial purge, the last put of the later of two meeting entities still knew
-- the other.
abbrev pub PurgeKeepsAware : Type 0
PurgeKeepsAware = (until : ℕ) (salt : List ℕ) (from : Airspace) (cs : List TimedCall)
    (rs : List Reply) (a b : Airspace) → IsPartlyPurged until a b → Aware salt from cs rs a
    → Aware salt from cs rs b

-- States that after a partial purge, each retained entity still has the OVN of its own serial, and
-- the serial is at most that of the airspace.
abbrev pub PurgeKeepsNumbers : Type 0
PurgeKeepsNumbers = (until : ℕ) (salt : List ℕ) (a b : Airspace) → IsPartlyPurged until a b
    → AllNumbered salt a → AllNumbered salt b
