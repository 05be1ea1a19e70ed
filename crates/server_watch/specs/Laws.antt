-- Laws of the watch over the clock.
use Rattle.std.specs.Prelude.{◌≡◌, ◌+◌, ◌<◌, ◌≤◌, ◌⊎◌, ℕ, Option, Some}
use Rattle.std.specs.declared.time.Duration.{Duration}
use Rattle.server_base.specs.declared.trusted_time.LastTime.TheVariants as known
use Rattle.server_base.specs.declared.trusted_time.TrustedTime.{TrustedTime}
use Rattle.server_watch.specs.ClockWatch.{IsWrong, reference, trusted_of}
use Rattle.server_watch.specs.Reference.{IsDoubtful}
use Rattle.server_watch.specs.declared.clock_watch.ClockState.{ClockState}
use Rattle.server_watch.specs.declared.clock_watch.ClockState.TheVariants as state

-- Holds if purges are held, and the clock is not back: it still contradicts the last known time of
-- the start; or it is not before the time to which it jumped forward; or it is still before the last
-- right reading.
abbrev pub IsStillWrong : (keep : Option ℕ) → ClockState → (moment : ℕ) → Type 0
IsStillWrong keep (state.Unread start) moment = ⊥
IsStillWrong keep (state.Doubted start) moment = (start.keep ≡ keep) × IsDoubtful start moment
IsStillWrong keep (state.Right last at) moment = ⊥
IsStillWrong keep (state.Jumped last at to) moment =
    ((last < to) × (to ≤ moment)) ⊎ (moment + 5 < last)
IsStillWrong keep state.Confirmed moment = ⊥

-- Holds if the next start, over the stored time and with the same retention, holds purges as long as
-- the clock is not back.
abbrev pub HoldsSurviveRestarts : Type 0
HoldsSurviveRestarts = (keep : Option ℕ) → (before : ClockState) → (stored : TrustedTime)
    → (moment : ℕ) → (now : Duration) → trusted_of before ≡ Some stored
    → IsStillWrong keep before moment
    → IsWrong (state.Unread (reference keep (Some (known.Trusted stored)))) moment now
