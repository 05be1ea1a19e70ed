-- What the last known time from before a start says about the clock.
use Rattle.std.specs.Prelude.{◌≡◌, ◌+◌, ◌-◌, ◌<◌, ◌≤◌, ◌⊎◌, ℕ, Option, Some, None}
use Rattle.server_base.specs.declared.server_log.ClockEvent.{ClockEvent}
use Rattle.server_base.specs.declared.server_log.ClockEvent.TheVariants as news
use Rattle.server_base.specs.declared.trusted_time.LastTime.{LastTime}
use Rattle.server_base.specs.declared.trusted_time.LastTime.TheVariants as known
use Rattle.server_base.specs.declared.trusted_time.TrustedTime.{TrustedTime}
use Rattle.server_watch.specs.Saturating.{add}
use Rattle.server_watch.specs.declared.reference.Reference.{Reference}

-- Returns the last known time, as it is stored. After the last change of a database no jump is
-- known.
abbrev pub time_of : LastTime → TrustedTime
time_of (known.Changed moment) = record { moment = moment; jumped_to = None }
time_of (known.Trusted time) = time

-- Holds if a time is later than the retention and a day after the last known time. Without a
-- retention none is.
abbrev pub IsLate : (keep : Option ℕ) → (last moment : ℕ) → Type 0
IsLate None last moment = ⊥
IsLate (Some keep) last moment = add (add last keep) 86_400 < moment

-- Holds if the clock jumped forward after the last known time, and this time is not before the one
-- to which it jumped.
abbrev pub IsAhead : (jumped_to : Option ℕ) → (last moment : ℕ) → Type 0
IsAhead None last moment = ⊥
IsAhead (Some to) last moment = (last < to) × (to ≤ moment)

-- Holds if a time is more than 5 seconds before the last trusted time. The last change of a database
-- says nothing, since files are copied.
abbrev pub IsBehind : LastTime → (moment : ℕ) → Type 0
IsBehind (known.Changed changed) moment = ⊥
IsBehind (known.Trusted time) moment = moment + 5 < time.moment

-- Holds if a time of the clock contradicts the last known time.
abbrev pub IsDoubtful : Reference → (moment : ℕ) → Type 0
IsDoubtful it moment =
    IsAhead (time_of it.last).jumped_to (time_of it.last).moment moment
    ⊎ IsLate it.keep (time_of it.last).moment moment
    ⊎ IsBehind it.last moment

-- Holds if this event reports a time that contradicts the last known time.
abbrev pub IsDoubt : Reference → (moment : ℕ) → ClockEvent → Type 0
IsDoubt it moment (news.StartedAhead by) =
    IsAhead (time_of it.last).jumped_to (time_of it.last).moment moment
    × (by ≡ moment - (time_of it.last).moment)
IsDoubt it moment (news.StartedLate by) =
    IsLate it.keep (time_of it.last).moment moment × (by ≡ moment - (time_of it.last).moment)
IsDoubt it moment (news.StartedBehind by) =
    IsBehind it.last moment × (by ≡ (time_of it.last).moment - moment)
IsDoubt it moment (news.JumpedForward by) = ⊥
IsDoubt it moment (news.JumpedBackward by) = ⊥
IsDoubt it moment news.Returned = ⊥
IsDoubt it moment news.Confirmed = ⊥
