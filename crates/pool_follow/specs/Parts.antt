-- The parts of a follower.
use Rattle.std.specs.Prelude.{◌==◌, ℕ, Bool, false, nat_lt, not, List, Option, Some, if◌then◌else◌}
use Rattle.service_calls.specs.Held.{salt_of, space_of}
use Rattle.pool_core.specs.declared.log.LogFault.{LogFault}
use Rattle.pool_core.specs.declared.log.LogFault.TheVariants as faults
use Rattle.pool_follow.specs.declared.end_state.EndState.{EndState}
use Rattle.pool_follow.specs.declared.end_state.EndState.TheVariants.{Asked, Known}
use Rattle.pool_follow.specs.declared.follow_fault.FollowFault.{FollowFault}
use Rattle.pool_follow.specs.declared.follow_fault.FollowFault.TheVariants.{Lost, Memory}
use Rattle.pool_follow.specs.declared.follower.Follower.{Follower}

abbrev pub log_of : {L S : Type 0} → Follower L S → L
log_of x = x.log

abbrev pub space_in : {L S : Type 0} → Follower L S → S
space_in x = space_of x.service

abbrev pub salt_in : {L S : Type 0} → Follower L S → List ℕ
salt_in x = salt_of x.service

-- How many entries the follower took.
abbrev pub count_taken : {L S : Type 0} → Follower L S → ℕ
count_taken x = x.taken

-- What the follower knows of the end of its log.
abbrev pub end_of : {L S : Type 0} → Follower L S → EndState
end_of x = x.end

-- The fault after which the follower makes no more calls.
abbrev pub failed_with : {L S : Type 0} → Follower L S → Option FollowFault
failed_with x = x.failed

-- The follower after a fault.
abbrev pub with_fault : {L S : Type 0} → Follower L S → FollowFault → Follower L S
with_fault x fault = record x { failed = Some fault }

-- The fault of a follower whose log failed.
abbrev pub fault_of : LogFault → FollowFault
fault_of faults.NoMemory = Memory
fault_of faults.Lost = Lost

-- ---- the end of the log

-- The state after the answer to a question.
abbrev pub state_after : (question : ℕ) → (count : ℕ) → EndState → EndState
state_after question count (Asked q) = if question == q then Known count else Asked q
state_after question count state = state

-- Returns true if the end is known, and so many entries reach it.
abbrev pub reaches : (taken : ℕ) → EndState → Bool
reaches taken (Known count) = not (nat_lt taken count)
reaches taken state = false

abbrev pub is_at_end : {L S : Type 0} → Follower L S → Bool
is_at_end x = reaches (count_taken x) (end_of x)
