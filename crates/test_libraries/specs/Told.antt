-- The replies to a list of calls, beginning with an empty airspace.
use Rattle.std.specs.Prelude.{ℕ, List, Contains}
use Rattle.std.specs.List.{AllByRecursion}
use Rattle.entity_core.specs.Airspace.{Airspace, empty_at}
use Rattle.entity_core.specs.declared.entity.Entity.{Entity}
use Rattle.entity_core.specs.declared.nature.Kind.{Kind}
use Rattle.policy_core.specs.declared.call.Call.{Call}
use Rattle.policy_core.specs.Missing.{key_shown, needed}
use Rattle.service_step.specs.declared.reply.Reply.{Reply}
use Rattle.service_calls.specs.Aware.{Aware}
use Rattle.service_calls.specs.Run.{TimedCall, airspace_after, answered_calls}
use Rattle.service_calls.specs.Stale.{DifferUpTo, FailsOrIsRefused, IsOfAnother}

-- The airspace after calls with these replies.
abbrev pub airspace_told : List ℕ → List TimedCall → List Reply → Airspace
airspace_told salt cs rs = airspace_after salt (empty_at 0) (answered_calls cs rs)

-- States that the calls leave an airspace in which each later intent knew the earlier ones. It also
-- states that one more put there is denied or fails, if its key has only OVNs of other serials for
-- an entity that it needs.
pub record ToldAfter (salt : List ℕ) (cs : List TimedCall) (c : Call) (rs : List Reply) (r : Reply)
    : Type 0 where
  pub aware : Aware salt (empty_at 0) cs rs (airspace_told salt cs rs)
  pub stale : (kind : Kind) (y : Entity) → DifferUpTo salt (airspace_told salt cs rs).serial
      → Contains (needed kind (airspace_told salt cs rs) c.caller c.op) y
      → AllByRecursion (IsOfAnother salt (airspace_told salt cs rs) y) (key_shown c.op)
      → FailsOrIsRefused kind (airspace_told salt cs rs) c y r
