-- Jumps of the clock, against the monotonic clock.
use Rattle.std.specs.Prelude.{◌≡◌, ◌+◌, ◌-◌, ◌/◌, ◌<◌, ◌≤◌, ◌⊎◌, ℕ, Bool, true, false, Option, Some, None, ⊤}
use Rattle.std.specs.Duration.{as_nanos}
use Rattle.std.specs.declared.time.Duration.{Duration}
use Rattle.server_base.specs.declared.server_log.ClockEvent.{ClockEvent}
use Rattle.server_base.specs.declared.server_log.ClockEvent.TheVariants as news
use Rattle.server_base.specs.declared.trusted_time.LastTime.{LastTime}
use Rattle.server_base.specs.declared.trusted_time.TrustedTime.{TrustedTime}
use Rattle.server_watch.specs.declared.clock_watch.ClockState.{ClockState}
use Rattle.server_watch.specs.declared.clock_watch.ClockState.TheVariants as state
use Rattle.server_watch.specs.declared.clock_watch.ClockWatch.{ClockWatch}
use Rattle.server_watch.specs.declared.clock_watch.Drift.{Drift}
use Rattle.server_watch.specs.declared.clock_watch.Drift.TheVariants as drift
use Rattle.server_watch.specs.declared.reference.Reference.{Reference}
use Rattle.server_watch.specs.Reference.{IsDoubt, IsDoubtful, time_of}
use Rattle.server_watch.specs.Saturating.{add}

-- Returns the time in seconds that the clock should return `now`, if it returned `last` at that time
-- of the monotonic clock.
abbrev pub expected_at : (last : ℕ) → (at now : Duration) → ℕ
expected_at last at now = add last ((as_nanos now - as_nanos at) / 1_000_000_000)

-- Holds if a time of the clock can be right: it is at most 60 seconds after the expected time, and
-- at most 5 before it.
abbrev pub IsNear : (moment expected : ℕ) → Type 0
IsNear moment expected = (moment ≤ expected + 60) × (expected ≤ moment + 5)

-- Holds if a time of the clock is wrong: it is more than 60 seconds after the expected time, or more
-- than 5 before it.
abbrev pub IsFar : (moment expected : ℕ) → Type 0
IsFar moment expected = (expected + 60 < moment) ⊎ (moment + 5 < expected)

-- Holds if this is the difference between a time of the clock and the expected time.
abbrev pub IsDrift : (moment expected : ℕ) → Drift → Type 0
IsDrift moment expected drift.Near = IsNear moment expected
IsDrift moment expected (drift.Ahead by) = (expected + 60 < moment) × (moment ≡ expected + by)
IsDrift moment expected (drift.Behind by) = (moment + 5 < expected) × (expected ≡ moment + by)

-- Holds if this event reports the jump of the clock from the expected time to this one.
abbrev pub IsJump : (moment expected : ℕ) → ClockEvent → Type 0
IsJump moment expected (news.JumpedForward by) =
    (expected + 60 < moment) × (moment ≡ expected + by)
IsJump moment expected (news.JumpedBackward by) =
    (moment + 5 < expected) × (expected ≡ moment + by)
IsJump moment expected (news.StartedLate by) = ⊥
IsJump moment expected (news.StartedAhead by) = ⊥
IsJump moment expected (news.StartedBehind by) = ⊥
IsJump moment expected news.Returned = ⊥
IsJump moment expected news.Confirmed = ⊥

-- Returns what is known before the first reading, if anything: the last known time, and the
-- retention.
abbrev pub reference : (keep : Option ℕ) → Option LastTime → Option Reference
reference keep None = None
reference keep (Some last) = Some (record { keep = keep; last = last })

-- Holds if a reading contradicts what is known of the clock: at the start, the last known time;
-- afterwards, that it advances with the monotonic clock.
abbrev pub IsWrong : ClockState → (moment : ℕ) → (now : Duration) → Type 0
IsWrong (state.Unread None) moment now = ⊥
IsWrong (state.Unread (Some start)) moment now = IsDoubtful start moment
IsWrong (state.Doubted start) moment now = IsDoubtful start moment
IsWrong (state.Right last at) moment now = IsFar moment (expected_at last at now)
IsWrong (state.Jumped last at to) moment now = IsFar moment (expected_at last at now)
IsWrong state.Confirmed moment now = ⊥

-- Holds if a reading contradicts nothing that is known of the clock.
abbrev pub IsPlausible : ClockState → (moment : ℕ) → (now : Duration) → Type 0
IsPlausible (state.Unread None) moment now = ⊤
IsPlausible (state.Unread (Some start)) moment now = IsDoubtful start moment → ⊥
IsPlausible (state.Doubted start) moment now = IsDoubtful start moment → ⊥
IsPlausible (state.Right last at) moment now = IsNear moment (expected_at last at now)
IsPlausible (state.Jumped last at to) moment now = IsNear moment (expected_at last at now)
IsPlausible state.Confirmed moment now = ⊤

-- Returns the state after a wrong reading. It keeps the last right reading, or the last known time,
-- and the time to which the clock jumped.
abbrev pub held_after : ClockState → (moment : ℕ) → ClockState
held_after (state.Unread None) moment = state.Unread None
held_after (state.Unread (Some start)) moment = state.Doubted start
held_after (state.Doubted start) moment = state.Doubted start
held_after (state.Right last at) moment = state.Jumped last at moment
held_after (state.Jumped last at to) moment = state.Jumped last at to
held_after state.Confirmed moment = state.Confirmed

-- Holds if this event, if any, reports a wrong reading. A wrong reading after a wrong one is not
-- reported.
abbrev pub ReportsWrong : ClockState → (moment : ℕ) → (now : Duration) → Option ClockEvent → Type 0
ReportsWrong (state.Unread None) moment now event = event ≡ None
ReportsWrong (state.Unread (Some start)) moment now None = ⊥
ReportsWrong (state.Unread (Some start)) moment now (Some event) = IsDoubt start moment event
ReportsWrong (state.Doubted start) moment now event = event ≡ None
ReportsWrong (state.Right last at) moment now None = ⊥
ReportsWrong (state.Right last at) moment now (Some event) =
    IsJump moment (expected_at last at now) event
ReportsWrong (state.Jumped last at to) moment now event = event ≡ None
ReportsWrong state.Confirmed moment now event = event ≡ None

-- Returns the event that reports a plausible reading: the first one after wrong ones, or after an
-- operator's confirmation.
abbrev pub news_of_right : ClockState → Option ClockEvent
news_of_right (state.Unread start) = None
news_of_right (state.Doubted start) = Some news.Returned
news_of_right (state.Right last at) = None
news_of_right (state.Jumped last at to) = Some news.Returned
news_of_right state.Confirmed = Some news.Confirmed

-- Returns the number of jumps after an event, saturating at the maximum of `u64`.
abbrev pub jumps_after : Option ClockEvent → (jumps : ℕ) → ℕ
jumps_after None jumps = jumps
jumps_after (Some (news.JumpedForward by)) jumps = add jumps 1
jumps_after (Some (news.JumpedBackward by)) jumps = add jumps 1
jumps_after (Some (news.StartedLate by)) jumps = jumps
jumps_after (Some (news.StartedAhead by)) jumps = jumps
jumps_after (Some (news.StartedBehind by)) jumps = jumps
jumps_after (Some news.Returned) jumps = jumps
jumps_after (Some news.Confirmed) jumps = jumps

-- Returns the state after an operator's confirmation.
abbrev pub confirmed : ClockState → ClockState
confirmed (state.Unread start) = state.Unread start
confirmed (state.Doubted start) = state.Confirmed
confirmed (state.Right moment at) = state.Right moment at
confirmed (state.Jumped moment at to) = state.Confirmed
confirmed state.Confirmed = state.Confirmed

-- Returns true if purges are held in this state.
abbrev pub holds_purges : ClockState → Bool
holds_purges (state.Unread start) = false
holds_purges (state.Doubted start) = true
holds_purges (state.Right moment at) = false
holds_purges (state.Jumped moment at to) = true
holds_purges state.Confirmed = false

-- Returns the time to store for the next start: the last right reading, with the time to which the
-- clock jumped since then; after a doubtful start, the last known time.
abbrev pub trusted_of : ClockState → Option TrustedTime
trusted_of (state.Unread start) = None
trusted_of (state.Doubted start) = Some (time_of start.last)
trusted_of (state.Right moment at) = Some (record { moment = moment; jumped_to = None })
trusted_of (state.Jumped moment at to) = Some (record { moment = moment; jumped_to = Some to })
trusted_of state.Confirmed = None

abbrev pub state_of : ClockWatch → ClockState
state_of watch = watch.state

abbrev pub jumps_of : ClockWatch → ℕ
jumps_of watch = watch.jumps

abbrev pub is_held_in : ClockWatch → Bool
is_held_in watch = holds_purges watch.state

-- True if jumps are reported.
abbrev pub is_watched_in : ClockWatch → Bool
is_watched_in watch = watch.is_watched

-- Holds if this is known of the clock after it returned that time: a wrong time changes nothing but
-- that purges are held, and any other is the last right time.
abbrev pub Learns : (known : ClockState) → (moment : ℕ) → (now : Duration) → (known' : ClockState)
    → Type 0
Learns known moment now known' =
    (IsWrong known moment now × (known' ≡ held_after known moment))
    ⊎ (IsPlausible known moment now × (known' ≡ state.Right moment now))

-- Holds if this event, if any, reports what a time of the clock says, given what was known.
abbrev pub IsNews : (known : ClockState) → (moment : ℕ) → (now : Duration) → Option ClockEvent
    → Type 0
IsNews known moment now event = (IsWrong known moment now × ReportsWrong known moment now event)
    ⊎ (IsPlausible known moment now × (event ≡ news_of_right known))

-- Holds if the watch records this time of the clock, and the event reports what it says.
abbrev pub Records : (moment : ℕ) → (now : Duration) → ClockWatch → ClockWatch → Option ClockEvent
    → Type 0
Records moment now old new event = Learns (state_of old) moment now (state_of new)
    × IsNews (state_of old) moment now event × (jumps_of new ≡ jumps_after event (jumps_of old))
    × (is_watched_in new ≡ is_watched_in old)
